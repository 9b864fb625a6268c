-- What two reads consumed, one behind the other in a buffer. Assumes nothing.
use Rattle.std.proofs.Common.{◌≡◌, ℕ, ◌+◌, ◌≤◌, List, ◌++◌, length, take, sym, ap, ◌∙◌, drop, subst, le_refl, drop_at, length-take-le}
use Rattle.std.proofs.lemmas.Slice.{take-put_mid_below}
use Rattle.std.specs.Io.KnownBytes.{Consumes}
use Rattle.std.proofs.KnownBytes.{Consumes-trans}
use Rattle.std.specs.declared.option.Option.{Option}
use borrow.Rule.Slice.PartMut.{put_mid, post_of}
use lib.Seq.{take-add, take-append-le}

-- the first bytes of a buffer, after a part of it was written
pub take_written : (at room n : ℕ) (buf part : List ℕ) → at ≤ length buf → n ≤ length part
    → take (at + n) (put_mid at room buf part) ≡ take at buf ++ take n part
take_written at room n buf part within fits =
    take-add at n (put_mid at room buf part)
    ∙ ap (λ (l : List ℕ). l ++ take n (drop at (put_mid at room buf part))) (take-put_mid_below _ _ _ _ _ (le_refl _) within)
    ∙ ap (λ (l : List ℕ). take at buf ++ l) (
    ap (take n) (drop_at (take at buf) (part ++ post_of at room buf) at (length-take-le at buf within))
    ∙ take-append-le n part (post_of at room buf) fits)

pub consumes_more : (a b c : Option (List ℕ)) (at room n : ℕ) (buf part : List ℕ) → at ≤ length buf → n ≤ length part
    → Consumes a b (take at buf) → Consumes b c (take n part) → Consumes a c (take (at + n) (put_mid at room buf part))
consumes_more a b c at room n buf part within fits p q =
    subst (Consumes a c) (sym (take_written at room n buf part within fits)) (Consumes-trans a b c _ _ p q)
