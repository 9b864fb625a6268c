-- Stored places and what they show: clocks reset, a region fired, the opening. Assumes nothing.
use mathlib.Core.Path.{◌≡◌, refl, ap, ◌∙◌, fun_ext}
use mathlib.Core.Logic.{inl, inr}
use mathlib.Core.Bool.{Bool, true, false, So, cond, ◌||◌, or_comm}
use mathlib.Core.List.{List}
use Prim.Native.Nat.{ℕ, ◌+◌, ◌≤◌, ◌<◌, ◌-◌, ◌^◌}
use native.Mathlib.Decide.{dec_lt, ℕ_discrete}
use native.Mathlib.Nat.{not-suc-le-zero}
use native.Mathlib.Omega.{arith}
use lib.Dec.{eqb, ltb}
use lib.ListN.{length, get_or, set, replicate, get_or-replicate, get_or-eq_default}
use lib.Seq.{get_or-set_same, get_or-set_other}
use Rattle.bitset.specs.Set.{contains, inserted}
use Rattle.bitset.proofs.Laws.{contains_inserted, contains_empty, contains_below}
use Rattle.model.specs.declared.Moment.{Moment}
use Rattle.model.specs.declared.Place.{Place}
use Rattle.model.specs.Chart.{most_clocks}
use Rattle.rounds.specs.Chart.{Chart}
use Rattle.rounds.specs.Rows.{opened}
use Rattle.rounds.specs.Machine.{Place as AbstractPlace, opening}
use Rattle.base.proofs.Bools.{split}
use Rattle.firing.specs.Places.{place_at, moments_of}
use Rattle.firing.specs.Parts.{fire_by}

ticks : Moment → ℕ
ticks m = m.0

module _ (s t : ℕ) (old : List Moment) where
  -- the clocks of s below k are reset at moment t
  pub record ResetSoFar (k : ℕ) (out : List Moment) : Type 0 where
    pub done : (c : ℕ) → c < k → moments_of out c ≡ cond (contains s c) t (moments_of old c)
    pub left : (c : ℕ) → k ≤ c → moments_of out c ≡ moments_of old c

  pub reset_start : ResetSoFar 0 old
  reset_start = record { done = λ c l. absurd (not-suc-le-zero l); left = λ c l. refl }

  pub reset_next : {k : ℕ} {out : List Moment} (v : Moment) → ResetSoFar k out → k < length out
      → v.0 ≡ cond (contains s k) t (moments_of old k)
      → ResetSoFar (k + 1) (set out k v)
  unfolding ticks
  reset_next {k} {out} v R l e = record {
    done = λ c h. elim (ℕ_discrete c k) [
      | yes q ↦ rw q (ap ticks (get_or-set_same out k v (record { 0 = 0 }) l) ∙ e)
      | no q ↦ ap ticks (get_or-set_other out k c v (record { 0 = 0 }) q) ∙ R.done c (omega arith)
    ];
    left = λ c h. ap ticks (get_or-set_other out k c v (record { 0 = 0 }) (λ q. omega arith)) ∙ R.left c (omega arith);
  }

  pub reset_all : {k : ℕ} {out : List Moment} → ((c : ℕ) → So (contains s c) → c < k) → ResetSoFar k out
      → (c : ℕ) → moments_of out c ≡ cond (contains s c) t (moments_of old c)
  reset_all {k} own R c = elim (dec_lt c k) [
    | yes l ↦ R.done c l
    | no l ↦ elim (split (contains s c)) [ inl q ↦ absurd (l (own c q)) | inr q ↦ rw q (R.left c (omega arith)) ]
  ]

pub fires : (resets : List ℕ) (p : Place) (i t f : ℕ) (r : List Moment) → f ≡ inserted p.fired i
    → ((c : ℕ) → moments_of r c ≡ cond (contains (get_or resets i 0) c) t (moments_of p.resets c))
    → place_at (record { fired = f; resets = r }) ≡ fire_by resets t p i
fires resets p i t f r e h =
    let k : contains f ≡ (λ j. eqb j i || contains p.fired j) = fun_ext
    (λ j. rw e (contains_inserted p.fired i j ∙ or_comm (contains p.fired j) (eqb j i))) in
    let m : moments_of r ≡ (λ c. cond (contains (get_or resets i 0) c) t (moments_of p.resets c)) = fun_ext h in
    λ j. record { fired = k j; clocks = m j }

-- if no reset moment of a place is above t, none is after a region fires at t
pub fired_early : (resets : List ℕ) (t : ℕ) (p r : Place) (i : ℕ) → place_at r ≡ fire_by resets t p i
    → ((c : ℕ) → moments_of p.resets c ≤ t)
    → (c : ℕ) → moments_of r.resets c ≤ t
fired_early resets t p r i e h c = rw (ap (λ (q : AbstractPlace). q.clocks c) e) (early (contains (get_or resets i 0) c))
  where
    early : (b : Bool) → cond b t (moments_of p.resets c) ≤ t
    early true = omega arith
    early false = h c

pub zeros : (c : ℕ) → moments_of (replicate most_clocks (record { 0 = 0 })) c ≡ 0
unfolding ticks
zeros c = elim (dec_lt c most_clocks) [
  | yes l ↦ ap ticks (get_or-replicate most_clocks c (record { 0 = 0 }) (record { 0 = 0 }) l)
  | no l ↦ let h : most_clocks ≤ c = omega arith in
      ap ticks (get_or-eq_default (replicate most_clocks (record { 0 = 0 })) (record { 0 = 0 }) h)
]

-- nothing fired, and the chart's clocks reset
pub opens : (C : Chart) (t : ℕ) (r : List Moment) {n : ℕ} → C.clocks ≡ n
    → ((c : ℕ) → moments_of r c ≡ cond (contains (2 ^ n - 1) c) t
    (moments_of (replicate most_clocks (record { 0 = 0 })) c))
    → place_at (record { fired = 0; resets = r }) ≡ opening C t
unfolding opening opened
opens C t r {n} q h =
    let k : contains 0 ≡ (λ i. false) = fun_ext contains_empty in
    let m : moments_of r ≡ (λ c. cond (ltb c C.clocks) t 0) = fun_ext
    (λ c. h c ∙ rw (contains_below n c, q) (ap (λ (z : ℕ). cond (ltb c n) t z) (zeros c))) in
    λ j. record { fired = k j; clocks = m j }
