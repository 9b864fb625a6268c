-- What `all` answers, as a test of every number below a bound. Assumes nothing.
use mathlib.Core.Path.{◌≡◌, sym, ◌∙◌}
use mathlib.Core.Logic.{inl, inr}
use mathlib.Core.Bool.{Bool, true, false}
use mathlib.Core.List.{List}
use Prim.Native.Nat.{ℕ, ◌<◌}
use native.Mathlib.Omega.{arith}
use lib.ListN.{length, get_or}
use Rattle.std.specs.Bool.{MatchBool}
use Rattle.std.specs.List.{AllWithin, HoldsAt}
use Rattle.base.specs.Lists.{all_below}
use Rattle.base.proofs.Bools.{split, clash}
use Rattle.base.proofs.Facts.{all_of, all_at}

pub all_tested : {B : Type 0} (p : B → Bool) (xs : List B) (n : ℕ) (t : ℕ → Bool) (d : B) (r : Bool) → length xs ≡ n
    → ((i : ℕ) → i < n → p (get_or xs i d) ≡ t i)
    → MatchBool r (AllWithin (λ x. p x ≡ true) xs 0 (length xs))
    ((k : ℕ) × (k < length xs) × HoldsAt (λ x. p x ≡ false) xs k)
    → r ≡ all_below n t
all_tested p xs n t d true e h M = sym (all_of n t (λ j l. sym (h j l) ∙ M j d (omega arith) (omega arith)))
all_tested p xs n t d false e h M = elim (split (all_below n t)) [
  | inl w ↦ let l : M.0 < n = omega (arith, M.1) in clash (all_at n t w M.0 l) (sym (h M.0 l) ∙ M.2 d)
  | inr w ↦ sym w
]
