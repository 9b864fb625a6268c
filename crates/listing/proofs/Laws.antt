-- The parts of a listing, put one after the other, are the listing: appending is associative. Assumes nothing.
use mathlib.Core.Path.{◌≡◌, sym, ap, ◌∙◌}
use mathlib.Core.List.{List, [], ◌∷◌, ◌++◌, append_assoc, append-nil}
use Prim.Native.Nat.{ℕ, zero, suc, ◌+◌, ◌<◌}
use native.Mathlib.Numerals.{add-one}
use native.Mathlib.Omega.{arith}
use lib.ListN.{length, take, get_or}
use Rattle.model.specs.declared.Verdict.{Verdict}
use Rattle.model.specs.Numbers.{verdict_numbers}
use Rattle.text.specs.Text.{bytes_of, decimal_of}
use Rattle.listing.specs.declared.Part.{Part}
use Rattle.listing.specs.Listing.{joined, part_name, verdict_lines, refusal_line}
use Rattle.listing.specs.Parts.{field_text, spaced}

-- a text, and one put after it
pub then : {m k t : List ℕ} (u : List ℕ) → m ≡ t → k ≡ m ++ u → k ≡ t ++ u
then u a b = b ∙ ap (λ (x : List ℕ). x ++ u) a

-- one number more
spaced_suc : (ns : List ℕ) (i : ℕ) → i < length ns
    → spaced (take i ns) ++ field_text (get_or ns i 0) 32 ≡ spaced (take (suc i) ns)
spaced_suc [] i h = absurd (omega arith)
spaced_suc (n ∷ ns) zero h = sym (append-nil (field_text n 32))
spaced_suc (n ∷ ns) (suc i) h =
    append_assoc (field_text n 32) (spaced (take i ns)) (field_text (get_or ns i 0) 32)
    ∙ ap (λ (t : List ℕ). field_text n 32 ++ t) (spaced_suc ns i (omega arith))

pub spaced_more : (ns : List ℕ) (i : ℕ) → i < length ns
    → spaced (take i ns) ++ field_text (get_or ns i 0) 32 ≡ spaced (take (i + 1) ns)
spaced_more ns i h = spaced_suc ns i h ∙ ap (λ (k : ℕ). spaced (take k ns)) (sym (add-one i))

-- a header h, eight texts, spaces s between them and l after the last
eight : (h a b c d e f g i s l : List ℕ)
    → (h ++ ((a ++ s) ++ ((b ++ s) ++ ((c ++ s) ++ ((d ++ s) ++ ((e ++ s) ++ ((f ++ s) ++ ((g ++ s) ++ [])))))))) ++ (i ++ l)
    ≡ joined (h ∷ a ∷ s ∷ b ∷ s ∷ c ∷ s ∷ d ∷ s ∷ e ∷ s ∷ f ∷ s ∷ g ∷ s ∷ i ∷ l ∷ [])
eight h a b c d e f g i s l = simp (append_assoc, append-nil)

pub verdict_joined : (v : Verdict)
    → (bytes_of "STANDING KEPT DROPPED RECORDS BREAK REASON REGION TERM\n" ++ spaced (take 7 (verdict_numbers v)))
    ++ field_text v.term 10 ≡ verdict_lines v
unfolding verdict_lines bytes_of
verdict_joined v =
    eight (bytes_of "STANDING KEPT DROPPED RECORDS BREAK REASON REGION TERM\n") (decimal_of v.standing)
    (decimal_of v.kept) (decimal_of v.dropped) (decimal_of v.records) (decimal_of v.broken)
    (decimal_of v.reason) (decimal_of v.region) (decimal_of v.term) (32 ∷ []) (10 ∷ [])

refusal : (p q a b s t n : List ℕ) → ((((p ++ q) ++ s) ++ (a ++ s)) ++ t) ++ (b ++ n)
    ≡ p ++ (q ++ (s ++ (a ++ ((s ++ t) ++ (b ++ (n ++ []))))))
refusal p q a b s t n = simp (append_assoc, append-nil)

pub refusal_joined : (part : Part) (number offset : ℕ)
    → ((((bytes_of "refused " ++ part_name part) ++ (32 ∷ [])) ++ field_text number 32) ++ bytes_of "at ")
    ++ field_text offset 10 ≡ refusal_line part number offset
unfolding refusal_line bytes_of
refusal_joined part number offset =
    refusal (bytes_of "refused ") (part_name part) (decimal_of number) (decimal_of offset) (32 ∷ []) (bytes_of "at ") (10 ∷ [])
