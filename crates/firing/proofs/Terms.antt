-- The test of a term's word by the clocks that it names is its test by every clock's value. Assumes nothing.
use mathlib.Core.Path.{◌≡◌, sym, ap, ap₂, fun_ext}
use mathlib.Core.Logic.{◌⊎◌, inl, inr}
use mathlib.Core.Bool.{Bool, true, cond, ◌||◌}
use mathlib.Core.List.{List}
use Prim.Native.Nat.{ℕ, ◌+◌, ◌*◌, ◌-◌, ◌%◌, ◌≤◌, ◌<◌}
use native.Mathlib.Decide.{ℕ_discrete}
use native.Mathlib.Omega.{arith}
use borrow.Author.Tests.{lt-ltb, le-ltb, ne_eqb}
use lib.Dec.{eqb, ltb}
use lib.ListN.{get_or}
use Rattle.model.specs.declared.Moment.{Moment}
use Rattle.model.specs.Chart.{most_clocks, most_terms}
use Rattle.base.specs.Lists.{fails_at}
use Rattle.layout.specs.declared.Head.{Head}
use Rattle.firing.specs.Places.{moments_of}
use Rattle.layout.specs.View.{first_of, second_of, tested, holds_by, failing_by, InChart, Compiled}
use Rattle.firing.specs.Parts.{value_at, Testable}

-- the word's term holds, by the moments
unfoldable pub held_at : ℕ → ℕ → List Moment → Bool
held_at w t resets = eqb w 0 || tested w (t - moments_of resets (first_of w % most_clocks))
    (cond (ltb (second_of w) most_clocks) (t - moments_of resets (second_of w % most_clocks)) 0)

pub testable : {h : Head} {keys above resets terms : List ℕ} → Compiled h keys above resets terms
    → Testable h.clocks terms
testable K = record { few = K.clocks; words = K.words }

module _ {clocks : ℕ} {terms : List ℕ} (T : Testable clocks terms) (t : ℕ) (resets : List Moment) where
  -- a clock of the chart has a place of its own
  value_here : (c : ℕ) → c < clocks → value_at clocks t resets c ≡ t - moments_of resets (c % most_clocks)
  value_here c l =
      let h : clocks ≤ most_clocks = T.few in
      let e : c % most_clocks ≡ c = omega arith in
      rw (lt-ltb c clocks l, e)

  second_here : (s : ℕ) → (s < clocks) ⊎ (most_clocks ≤ s)
      → cond (ltb s most_clocks) (value_at clocks t resets s) 0 ≡ cond (ltb s most_clocks)
      (t - moments_of resets (s % most_clocks)) 0
  second_here s (inl l) = let h : s < most_clocks = omega (arith, T.few) in rw (lt-ltb s most_clocks h) (value_here s l)
  second_here s (inr l) = rw (le-ltb s most_clocks l)

  word_tested : (w : ℕ) → InChart clocks w → holds_by w (value_at clocks t resets) ≡ held_at w t resets
  unfolding holds_by held_at
  word_tested w I =
      ap₂ (λ (x y : ℕ). eqb w 0 || tested w x y) (value_here (first_of w) I.first)
      (second_here (second_of w) I.second)

  same_test : (k : ℕ) → Dec (get_or terms k 0 ≡ 0)
      → holds_by (get_or terms k 0) (value_at clocks t resets) ≡ held_at (get_or terms k 0) t resets
  unfolding holds_by held_at
  same_test k (yes e) = rw e
  same_test k (no e) = word_tested (get_or terms k 0) (T.words.named k e)

  pub condition_tested : (i : ℕ) → fails_at most_terms
      (λ j. held_at (get_or terms (i * most_terms + j) 0) t resets) ≡ failing_by terms i (value_at clocks t resets)
  condition_tested i =
      ap (fails_at most_terms)
      (fun_ext (λ j. sym (same_test (i * most_terms + j) (ℕ_discrete (get_or terms (i * most_terms + j) 0) 0))))

  -- from the first word without a term on
  pub terms_end : (i j : ℕ) → get_or terms (i * most_terms + j) 0 ≡ 0 → (k : ℕ) → j ≤ k → k < most_terms
      → held_at (get_or terms (i * most_terms + k) 0) t resets ≡ true
  unfolding held_at
  terms_end i j e k l m = rw (T.words.ends i j k l m e)

pub term_held : (w t : ℕ) (resets : List Moment) (x y : ℕ) (r : Bool)
    → x ≡ t - moments_of resets (first_of w % most_clocks)
    → y ≡ cond (ltb (second_of w) most_clocks) (t - moments_of resets (second_of w % most_clocks)) 0
    → r ≡ tested w x y → ¬ (w ≡ 0) → held_at w t resets ≡ r
unfolding held_at
term_held w t resets x y r p q e z = rw (← p, ← q, ne_eqb w 0 z) (sym e)
