-- The letters of a prompt run satisfy prechart or chart exactly if its cut has all their regions. A letter but a delay
-- adds at most one region, and in a prompt run just one: whatever run a beginning of the word has to a maximal cut, the
-- prompt run has as many regions by then, and as the prechart is above all else they are the prechart's. Assumes
-- nothing.
use mathlib.Core.Path.{◌≡◌, refl, sym, ap, ◌∙◌, subst}
use mathlib.Core.Logic.{inl, inr}
use mathlib.Core.Bool.{Bool, true, false, So, not}
use Prim.Native.Nat.{ℕ, zero, suc, ◌+◌, ◌≤◌, ◌<◌}
use native.Mathlib.Omega.{arith}
use native.Mathlib.Nat.{not-suc-le-zero}
use native.Mathlib.Decide.{ℕ_discrete}
use Rattle.base.specs.Lists.{Snoc, ε, ◌▸◌, count_below}
use Rattle.rounds.specs.Chart.{Chart, Accepted}
use Rattle.rounds.specs.Rows.{Ready, Full, PrechartDone}
use Rattle.base.proofs.Bools.{split, clash}
use Rattle.base.proofs.Facts.{count_falls}
use Rattle.paper.specs.Runs.{Config, Letter, message, silent, delay, initial, ◌·◌, strip, add, synchronization}
use Rattle.paper.specs.Runs.{silent_advancement, premature_termination, time_delay, Run, here, step, Maximal}
use Rattle.paper.specs.Runs.{Satisfies, Prompt, begins, settles, goes}
use Rattle.paper.specs.Demand2.{CompletedBy, SatisfiesExactly}
use Rattle.paper.proofs.Prompts.{prompt_run}
use Rattle.paper.proofs.Words.{run_is_cut, full_completes, done_satisfies}

-- the letters that may add a region
abbrev heard : Snoc Letter → ℕ
heard ε = zero
heard (w ▸ message k) = suc (heard w)
heard (w ▸ silent) = suc (heard w)
heard (w ▸ delay d) = heard w

heard_more : (p l : Snoc Letter) → heard p ≤ heard (p · l)
heard_more p ε = omega arith
heard_more p (l ▸ message k) = let h : heard p ≤ heard (p · l) = heard_more p l in omega arith
heard_more p (l ▸ silent) = let h : heard p ≤ heard (p · l) = heard_more p l in omega arith
heard_more p (l ▸ delay d) = heard_more p l

counted_all : (k : ℕ) → count_below k (λ i. true) ≡ k
counted_all zero = refl
counted_all (suc k) = ap suc (counted_all k)

-- a member is counted
counted : (k : ℕ) (t : ℕ → Bool) (i : ℕ) → i < k → So (t i) → 1 ≤ count_below k t
counted zero t i h p = absurd (not-suc-le-zero h)
counted (suc k) t i h p = elim (split (t k)) [
  | inl q ↦ rw q (let z : 1 ≤ suc (count_below k t) = omega arith in z)
  | inr q ↦ elim (ℕ_discrete i k) [
    | yes e ↦ clash p (ap t e ∙ q)
    | no e ↦ rw q (counted k t i (omega arith) p)
  ]
]

-- with a member below n and every number from n on, more than what lies from n on
counted_from : (k n : ℕ) (t : ℕ → Bool) → n ≤ k → 1 ≤ count_below n t → ((j : ℕ) → n ≤ j → j < k → So (t j))
    → k < n + count_below k t
counted_from zero n t h m u = let z : n ≡ 0 = omega arith in absurd (omega (arith, ap (λ (j : ℕ). count_below j t) z, m))
counted_from (suc k) n t h m u = elim (ℕ_discrete n (suc k)) [
  | yes e ↦ let z : 1 ≤ count_below (suc k) t = rw e at m in omega (arith, z, e)
  | no e ↦
      let l : n ≤ k = omega arith in
      let r : k < n + count_below k t = counted_from k n t l m (λ j a b. u j a (omega arith)) in
      rw (u k l (omega arith)) (let z : suc k < n + suc (count_below k t) = omega arith in z)
]

-- where the first n fail, at most the others are counted
counted_rest : (k n : ℕ) (t : ℕ → Bool) → n ≤ k → ((j : ℕ) → j < n → t j ≡ false) → n + count_below k t ≤ k
counted_rest zero n t h u = omega arith
counted_rest (suc k) n t h u = elim (split (t k)) [
  | inl q ↦ elim (ℕ_discrete n (suc k)) [
    | yes e ↦ clash q (u k (omega arith))
    | no e ↦ let r : n + count_below k t ≤ k = counted_rest k n t (omega arith) u in
        rw q (let z : n + suc (count_below k t) ≤ suc k = omega arith in z)
  ]
  | inr q ↦ elim (ℕ_discrete n (suc k)) [
    | yes e ↦
        let r : k + count_below k t ≤ k = counted_rest k k t (omega arith) (λ j l. u j (omega arith)) in
        rw q (let z : n + count_below k t ≤ suc k = omega arith in z)
    | no e ↦ let r : n + count_below k t ≤ k = counted_rest k n t (omega arith) u in
        rw q (let z : n + count_below k t ≤ suc k = omega arith in z)
  ]
]

module _ (C : Chart) where
  -- the regions that a cut lacks
  abbrev left : (ℕ → Bool) → ℕ
  left c = count_below C.regions (λ i. not (c i))

  left_falls : (c : ℕ → Bool) (s : ℕ) → Ready C c s → suc (left (add C c s)) ≡ left c
  unfolding add
  left_falls c s R = count_falls C.regions c s R.region R.unfired

  left_none : left (λ i. false) ≡ C.regions
  left_none = counted_all C.regions

  -- no run adds more regions than it has letters
  run_adds : {w : Snoc Letter} {z : Config} → Run C initial w z → C.regions ≤ left z.cut + heard w
  run_adds here = let z : left (λ i. false) ≡ C.regions = left_none in omega arith
  run_adds (step {w} {y} R (synchronization s F p h)) =
      let a : C.regions ≤ left y.cut + heard w = run_adds R in
      let b : suc (left (add C y.cut s)) ≡ left y.cut = left_falls y.cut s F in
      omega arith
  run_adds (step {w} {y} R (silent_advancement s F p h)) =
      let a : C.regions ≤ left y.cut + heard w = run_adds R in
      let b : suc (left (add C y.cut s)) ≡ left y.cut = left_falls y.cut s F in
      omega arith
  run_adds (step {w} {y} R (premature_termination s F p h)) = let z : left (λ i. false) ≡ C.regions = left_none in
      omega arith
  run_adds (step R (time_delay d s F h)) = run_adds R

  -- a prompt run adds just as many
  prompt_adds : {w : Snoc Letter} {z : Config} → Prompt C initial w z → left z.cut + heard w ≡ C.regions
  prompt_adds begins = let z : left (λ i. false) ≡ C.regions = left_none in omega arith
  prompt_adds (settles {w} {y} P s N a) =
      let e : left y.cut + heard w ≡ C.regions = prompt_adds P in
      let b : suc (left (add C y.cut s)) ≡ left y.cut = left_falls y.cut s N.follows in
      omega arith
  prompt_adds (goes {w} {y} P B n (synchronization s F p h)) =
      let e : left y.cut + heard w ≡ C.regions = prompt_adds P in
      let b : suc (left (add C y.cut s)) ≡ left y.cut = left_falls y.cut s F in
      omega arith
  prompt_adds (goes P B n (silent_advancement s F p h)) = absurd (n refl)
  prompt_adds (goes P B n (premature_termination s F p h)) = absurd (n refl)
  prompt_adds (goes P B n (time_delay d s F h)) = prompt_adds P

  -- a beginning of the word with a run to the first n regions: the prompt run lacks no more than the others
  lacks_few : (n : ℕ) → n ≤ C.regions → {w : Snoc Letter} {z : Config} → Prompt C initial w z → Satisfies C n w
      → n + left z.cut ≤ C.regions
  unfolding Maximal
  lacks_few n h {w} {z} P S =
      let a : left z.cut + heard w ≡ C.regions = prompt_adds P in
      let b : C.regions ≤ left S.end.cut + heard S.prefix = run_adds S.run in
      let c : n + left S.end.cut ≤ C.regions
      = counted_rest C.regions n (λ i. not (S.end.cut i)) h (λ j l. ap not ((S.maximal j).1 l)) in
      let d : heard S.prefix ≤ heard w = subst (λ (u : Snoc Letter). heard S.prefix ≤ heard u) (sym S.parts)
      (heard_more S.prefix S.rest) in
      omega arith

  pub satisfied_exactly : (A : Accepted C) {w : Snoc Letter} {z : Config} → Prompt C initial w z
      → SatisfiesExactly C w z.cut
  unfolding Full PrechartDone
  satisfied_exactly A {w} {z} P =
      record { prechart = (done, done_satisfies C A R); chart = (whole, λ F. (full_completes C R F).satisfies) }
    where
      R : Run C initial w z
      R = prompt_run C P

      done : Satisfies C C.prechart w → PrechartDone C z.cut
      done S i h = elim (split (z.cut i)) [
        | inl q ↦ q
        | inr q ↦
            let m : C.prechart < C.regions = A.has_main in
            let a : C.prechart + left z.cut ≤ C.regions = lacks_few C.prechart (omega arith) P S in
            let b : C.regions < C.prechart + left z.cut
            = counted_from C.regions C.prechart (λ j. not (z.cut j)) (omega arith)
            (counted C.prechart (λ j. not (z.cut j)) i h (ap not q))
            (λ j k l. elim (split (z.cut j)) [
              | inl p ↦ clash ((run_is_cut C R).closed j i p (A.halves i j h k l)) q
              | inr p ↦ ap not p
            ]) in
            absurd (omega arith)
      ]

      whole : Satisfies C C.regions w → Full C z.cut
      whole S i h = elim (split (z.cut i)) [
        | inl q ↦ q
        | inr q ↦
            let a : C.regions + left z.cut ≤ C.regions = lacks_few C.regions (omega arith) P S in
            let b : 1 ≤ left z.cut = counted C.regions (λ j. not (z.cut j)) i h (ap not q) in
            absurd (omega arith)
      ]

  -- silent letters leave nothing of a word
  strip_silent : (w u : Snoc Letter) → strip u ≡ ε → strip (w · u) ≡ strip w
  strip_silent w ε q = refl
  strip_silent w (u ▸ message k) q = absurd (let z : ◌≡◌ {A = ℕ} 0 1 = cc in omega arith)
  strip_silent w (u ▸ silent) q = strip_silent w u q
  strip_silent w (u ▸ delay d) q = absurd (let z : ◌≡◌ {A = ℕ} 0 1 = cc in omega arith)

  pub completed_whole : (n : ℕ) (w : Snoc Letter) (K : CompletedBy C n w) → strip K.satisfies.prefix ≡ strip w
  completed_whole n w K =
      let S : Satisfies C n w = K.satisfies in
      sym (ap strip S.parts ∙ strip_silent S.prefix S.rest K.nothing_more)

  -- the cut to which the prechart's run leads has no region of the main chart
  pub main_starts : {w : Snoc Letter} (S : Satisfies C C.prechart w) (i : ℕ) → C.prechart ≤ i
      → S.end.cut i ≡ false
  unfolding Maximal
  main_starts S i h = elim (split (S.end.cut i)) [ inl q ↦ absurd (omega (arith, h, (S.maximal i).0 q)) | inr q ↦ q ]
