-- The number that a condition's test gives is the one that C19 tells. Assumes nothing.
use mathlib.Core.Path.{◌≡◌, sym, subst}
use mathlib.Core.Logic.{inl, inr, ◌↔◌}
use Prim.Native.Nat.{ℕ}
use native.Mathlib.Omega.{arith}
use Rattle.base.proofs.Facts.{FailsFirst, pass_or_fail, fails_none, fails_is}
use Rattle.model.specs.declared.Region.{Region}
use Rattle.model.specs.Chart.{term_at}
use Rattle.condition.specs.Condition.{term_holds, failing_term, Tells, all_hold, first_fails}

module _ (g : Region) (value : ℕ → ℕ) where
  tells_failing : Tells g value (failing_term g value)
  tells_failing = elim (pass_or_fail g.count (λ j. term_holds (term_at g j) value)) [
    | inl h ↦ subst (Tells g value) (sym (fails_none g.count _ h)) (all_hold h)
    | inr f ↦
        let F : FailsFirst g.count (λ j. term_holds (term_at g j) value) f.0 = f.1 in
        subst (Tells g value) (sym (fails_is g.count _ f.0 F))
        (first_fails f.0 F.below F.fails (λ i l. F.before i (omega arith)))
  ]

  failing_told : (k : ℕ) → Tells g value k → failing_term g value ≡ k
  failing_told _ (all_hold h) = fails_none g.count (λ j. term_holds (term_at g j) value) h
  failing_told _ (first_fails j l f b) =
      fails_is g.count (λ i. term_holds (term_at g i) value) j (record { below = l; fails = f; before = b })

pub tells : (g : Region) (value : ℕ → ℕ) (k : ℕ) → (failing_term g value ≡ k) ↔ Tells g value k
tells g value k = (λ e. subst (Tells g value) e (tells_failing g value), failing_told g value k)
