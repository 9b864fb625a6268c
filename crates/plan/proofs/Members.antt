-- A set that is gathered from the front: the numbers below a bound that pass a test. Assumes nothing.
use mathlib.Core.Path.{◌≡◌, refl, sym, ap, ◌∙◌}
use mathlib.Core.Bool.{Bool, true, false, So, cond, ◌||◌}
use Prim.Native.Nat.{ℕ, ◌+◌, ◌≤◌, ◌<◌}
use native.Mathlib.Omega.{arith}
use native.Mathlib.Decide.{dec_lt}
use borrow.Author.Tests.{le-ltb, eq-eqb, ne_eqb}
use lib.Dec.{eqb, ltb}
use Rattle.bitset.specs.Set.{contains, inserted}
use Rattle.bitset.proofs.Laws.{contains_empty, contains_inserted}
use Rattle.base.proofs.Bools.{or_right, clash}
use Rattle.base.proofs.Filled.{front_next}

-- the test's answer below k, and nothing from there on
pub record Gathered (t : ℕ → Bool) (k set : ℕ) : Type 0 where
  pub has : (y : ℕ) → contains set y ≡ cond (ltb y k) (t y) false

pub gathered_below : {t : ℕ → Bool} {k set : ℕ} → Gathered t k set → (y : ℕ) → So (contains set y) → y < k
gathered_below {t} {k} G y m = elim (dec_lt y k) [
  | yes h ↦ h
  | no h ↦ let g : k ≤ y = omega arith in clash m (G.has y ∙ ap (λ (b : Bool). cond b (t y) false) (le-ltb y k g))
]

pub gathered_none : {t : ℕ → Bool} → Gathered t 0 0
gathered_none {t} =
    record { has = λ y. contains_empty y ∙ ap (λ (b : Bool). cond b (t y) false) (sym (le-ltb y 0 (omega arith))) }

pub gathered_next : {t : ℕ → Bool} {k set : ℕ} (r : ℕ) → Gathered t k set → r ≡ cond (t k) (inserted set k) set
    → Gathered t (k + 1) r
gathered_next {t} {k} {set} r G e = record {
  has = front_next false t k (contains set) (contains r) G.has (ap (λ (s : ℕ). contains s k) e ∙ own (t k) refl)
      (λ y q. ap (λ (s : ℕ). contains s y) e ∙ other y q (t k));
}
  where
    or_false : (x y : Bool) → y ≡ false → (x || y) ≡ x
    or_false true y e = refl
    or_false false y e = e

    own : (b : Bool) → t k ≡ b → contains (cond b (inserted set k) set) k ≡ b
    own true z = contains_inserted set k k ∙ or_right (contains set k) (eq-eqb k k refl)
    own false z = G.has k ∙ ap (λ (b : Bool). cond b (t k) false) (le-ltb k k (omega arith))

    other : (y : ℕ) → (y ≡ k → ⊥) → (b : Bool) → contains (cond b (inserted set k) set) y ≡ contains set y
    other y q true = contains_inserted set k y ∙ or_false (contains set y) (eqb y k) (ne_eqb y k q)
    other y q false = refl
