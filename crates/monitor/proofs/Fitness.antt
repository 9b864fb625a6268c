-- The test of a monitor is the list of M10. Assumes nothing.
use mathlib.Core.Path.{◌≡◌, refl, sym, ap, subst, ◌∙◌}
use mathlib.Core.Logic.{inl, inr, ◌↔◌}
use mathlib.Core.Bool.{Bool, true, false, true≢false, false≢true, not, So, ◌&&◌, ◌||◌}
use mathlib.Core.Option.{Option, none, some}
use mathlib.Core.List.{List}
use Prim.Native.Nat.{ℕ, ◌+◌, ◌*◌, ◌-◌, ◌≤◌, ◌<◌, ◌^◌}
use native.Mathlib.Omega.{arith}
use native.Mathlib.Decide.{dec_lt}
use native.Mathlib.Nat.{lt_of_le_of_lt}
use borrow.Author.Tests.{leb-true, le-leb, lt-ltb, le-ltb, eqb-true, eq-eqb, not-true}
use lib.Bits.{bit_and, and_le_r}
use lib.Pow.{ones_lt}
use lib.Dec.{eqb, leb, ltb}
use lib.ListN.{length, get_or, get_or-eq_default}
use Rattle.bitset.specs.Set.{contains, is_subset, within}
use Rattle.bitset.proofs.Laws.{within_true, lt_within, member_lt, members_subset, contains_below}
use Rattle.model.specs.declared.Moment.{Moment}
use Rattle.model.specs.declared.Place.{Place}
use Rattle.model.specs.declared.Monitor.{Monitor}
use Rattle.model.specs.Chart.{most_clocks}
use Rattle.model.specs.Answers.{most_records}
use Rattle.base.specs.Lists.{all_below}
use Rattle.rounds.specs.Chart.{Chart as Abstract, Accepted}
use Rattle.rounds.specs.Rows.{plain, Ready, Full}
use Rattle.rounds.specs.Machine.{full, ready_plain, Fit}
use Rattle.base.proofs.Bools.{split, clash, and_both, and_left, and_right, or_left, or_right}
use Rattle.base.proofs.Facts.{all_of, all_at, all_same}
use Rattle.rounds.proofs.Machine.{full_true, full_false, plain_none, plain_is_none}
use Rattle.layout.specs.declared.Head.{Head}
use Rattle.std.specs.Prelude.{is_some, Some, None, Option as Found}
use Rattle.firing.specs.Places.{moments_of}
use Rattle.stepping.specs.Monitors.{monitor_at}
use Rattle.layout.specs.View.{plan_chart, Compiled}
use Rattle.firing.specs.Parts.{found_of}
use Rattle.firing.proofs.Ready.{lt_two_pow, subset_all}
use Rattle.monitor.specs.Fit.{closed_upward, is_none, rests_unless_broken, moments_fit, break_fits, counts_fit}
use Rattle.monitor.specs.Fit.{place_fits, fits}
use Rattle.monitor.proofs.Breaks.{break_of, of_break}

-- a set whose members are below n is a number below 2 ^ n
members_within : (n s : ℕ) → ((i : ℕ) → So (contains s i) → i < n) → within n s ≡ true
unfolding is_subset
members_within n s h =
    let e : is_subset s (2 ^ n - 1) ≡ true = members_subset s s (2 ^ n - 1) (lt_two_pow s)
    (λ i l p. contains_below n i ∙ lt-ltb i n (h i p)) in
    let q : bit_and s (2 ^ n - 1) ≡ s = eqb-true _ _ e in
    lt_within n s (subst (λ (x : ℕ). x < 2 ^ n) q (lt_of_le_of_lt (and_le_r s (2 ^ n - 1)) (ones_lt n)))

-- what a place that fits at moment t has, with the record of a break, or 0
pub record FitPlace (C : Abstract) (x : Place) (t b : ℕ) : Type 0 where
  pub closed : (i a : ℕ) → So (contains x.fired i) → So (C.above a i) → So (contains x.fired a)
  pub within : (i : ℕ) → So (contains x.fired i) → i < C.regions
  pub unfinished : ¬ Full C (contains x.fired)
  pub settled : b ≡ 0 → (j : ℕ) → So (plain C j) → ¬ Ready C (contains x.fired) j
  pub moments : (k : ℕ) → moments_of x.resets k ≤ t
  pub unused : (k : ℕ) → C.clocks ≤ k → moments_of x.resets k ≡ 0

module _ (C : Abstract) (A : Accepted C) (x : Place) (t b : ℕ) where
  abbrev fired : ℕ
  fired = x.fired

  beyond : length x.resets ≡ most_clocks → (k : ℕ) → most_clocks ≤ k → moments_of x.resets k ≡ 0
  beyond size k h =
      let l : length x.resets ≤ k = omega arith in
      ap (λ (x : Moment). x.0) (get_or-eq_default x.resets (record { 0 = 0 }) l)

  -- each clause
  closed_of : So (closed_upward C fired) → So (within C.regions fired) → (i a : ℕ) → So (contains fired i)
      → So (C.above a i) → So (contains fired a)
  unfolding closed_upward
  closed_of e w i a p q =
      let l : i < C.regions = member_lt C.regions fired i (within_true _ _ w) p in
      let f = rw p at
      (all_at C.regions
      (λ i. not (contains fired i) || all_below C.regions (λ a. not (C.above a i) || contains fired a)) e i l) in
      rw q at (all_at C.regions (λ a. not (C.above a i) || contains fired a) f a (omega (arith, A.downward a i q)))

  of_closed : ((i a : ℕ) → So (contains fired i) → So (C.above a i) → So (contains fired a))
      → So (closed_upward C fired)
  unfolding closed_upward
  of_closed f =
      all_of C.regions _ (λ i l. elim (split (contains fired i)) [
        | inl p ↦
            rw p (all_of C.regions _
            (λ a k. elim (split (C.above a i)) [ inl q ↦ rw q (f i a p q) | inr q ↦ rw q ]))
        | inr p ↦ rw p
      ])

  rests_of : So (rests_unless_broken C fired b) → b ≡ 0 → (j : ℕ) → So (plain C j) → ¬ Ready C (contains fired) j
  unfolding rests_unless_broken
  rests_of e z = plain_none C A (contains fired) (none_of (ready_plain C (contains fired)) (rw z at e))
    where
      none_of : (o : Option ℕ) → So (is_none o) → o ≡ none
      none_of none e = refl
      none_of (some i) e = clash e refl

  of_rests : (b ≡ 0 → (j : ℕ) → So (plain C j) → ¬ Ready C (contains fired) j) → So (rests_unless_broken C fired b)
  unfolding rests_unless_broken
  of_rests f = elim (split (eqb b 0)) [
    | inl e ↦ rw (e, plain_is_none C A (contains fired) (f (eqb-true _ _ e)))
    | inr e ↦ rw e
  ]

  moments_of_lem : length x.resets ≡ most_clocks → So (moments_fit C.clocks x.resets t) → (k : ℕ)
      → (moments_of x.resets k ≤ t) × (C.clocks ≤ k → moments_of x.resets k ≡ 0)
  unfolding moments_fit
  moments_of_lem size e k = by (dec_lt k most_clocks)
    where
      by : Dec (k < most_clocks) → (moments_of x.resets k ≤ t) × (C.clocks ≤ k → moments_of x.resets k ≡ 0)
      by (yes l) =
          let f = all_at most_clocks
          (λ k. leb (moments_of x.resets k) t && (ltb k C.clocks || eqb (moments_of x.resets k) 0)) e k l in (
            leb-true _ _ (and_left (leb (moments_of x.resets k) t) _ f),
            λ h. eqb-true _ _
                (rw (le-ltb k C.clocks h) at
                (and_right (leb (moments_of x.resets k) t) (ltb k C.clocks || eqb (moments_of x.resets k) 0) f)),
          )
      by (no l) = let z = beyond size k (omega arith) in (omega arith, λ h. z)

  of_moments : ((k : ℕ) → moments_of x.resets k ≤ t) → ((k : ℕ) → C.clocks ≤ k → moments_of x.resets k ≡ 0)
      → So (moments_fit C.clocks x.resets t)
  unfolding moments_fit
  of_moments f g =
      all_of most_clocks _ (λ k l. and_both (le-leb _ _ (f k)) (by k (dec_lt k C.clocks)))
    where
      by : (k : ℕ) → Dec (k < C.clocks) → So (ltb k C.clocks || eqb (moments_of x.resets k) 0)
      by k (yes h) = or_left _ (lt-ltb k C.clocks h)
      by k (no h) = let q : C.clocks ≤ k = omega arith in or_right (ltb k C.clocks) (eq-eqb _ _ (g k q))

  pub place_of : length x.resets ≡ most_clocks → So (place_fits C x t b) → FitPlace C x t b
  unfolding place_fits
  place_of size e =
      let e₁ = and_right (closed_upward C fired) _ e in
      let e₂ = and_right (within C.regions fired) _ e₁ in
      let e₃ = and_right (not (full C (contains fired))) _ e₂ in
      let w = and_left (within C.regions fired) _ e₁ in
      let ms = moments_of_lem size (and_right (rests_unless_broken C fired b) _ e₃) in
      record {
        closed = closed_of (and_left (closed_upward C fired) _ e) w;
        within = λ i p. member_lt C.regions fired i (within_true _ _ w) p;
        unfinished = full_false C (contains fired) (not-true _ (and_left (not (full C (contains fired))) _ e₂));
        settled = rests_of (and_left (rests_unless_broken C fired b) _ e₃);
        moments = λ k. (ms k).0;
        unused = λ k. (ms k).1;
      }

  pub of_place : FitPlace C x t b → So (place_fits C x t b)
  unfolding place_fits
  of_place F =
      and_both (of_closed F.closed)
      (and_both (members_within C.regions fired F.within)
      (and_both (not_full (full C (contains fired)) refl)
      (and_both (of_rests F.settled) (of_moments F.moments F.unused))))
    where
      not_full : (d : Bool) → full C (contains fired) ≡ d → So (not d)
      not_full true e = absurd (F.unfinished (full_true C (contains fired) e))
      not_full false e = refl

module _ (C : Abstract) (A : Accepted C) (m : Monitor) where
  fit_of : length m.place.resets ≡ most_clocks → So (fits C m) → Fit C (monitor_at m)
  unfolding fits counts_fit
  fit_of size e =
      let P = place_of C A m.place m.tally.now.0 m.tally.broken.at size
      (and_left (place_fits C m.place m.tally.now.0 m.tally.broken.at) _ e) in
      let t = and_right (place_fits C m.place m.tally.now.0 m.tally.broken.at) _ e in
      let counts = and_left
      (leb m.tally.records most_records && leb (m.tally.kept + m.tally.dropped) (2 * m.tally.records)) _ t in
      record {
        closed = P.closed;
        within = P.within;
        unfinished = P.unfinished;
        settled = P.settled;
        moments = P.moments;
        unused = P.unused;
        few = leb-true _ _ (and_left (leb m.tally.records most_records) _ counts);
        counts = leb-true _ _ (and_right (leb m.tally.records most_records) _ counts);
        break_fits_case =
            break_of C m.tally.records m.tally.broken (and_right
            (leb m.tally.records most_records && leb (m.tally.kept + m.tally.dropped)
            (2 * m.tally.records)) _ t);
      }

  pub of_fit : Fit C (monitor_at m) → So (fits C m)
  unfolding fits counts_fit
  of_fit F =
      and_both (of_place C A m.place m.tally.now.0 m.tally.broken.at (record {
        closed = F.closed;
        within = F.within;
        unfinished = F.unfinished;
        settled = F.settled;
        moments = F.moments;
        unused = F.unused;
      }))
      (and_both (and_both (le-leb _ _ F.few) (le-leb _ _ F.counts))
      (of_break C m.tally.records m.tally.broken F.break_fits_case))

  -- what the test promises
  pub fit_exactly : length m.place.resets ≡ most_clocks → (r : Bool) → r ≡ fits C m
      → (r ≡ true) ↔ Fit C (monitor_at m)
  fit_exactly size r e = (λ p. fit_of size (sym e ∙ p), λ F. e ∙ of_fit F)

found_none : (o : Found ℕ) (b : Bool) → is_some o ≡ not b → b ≡ is_none (found_of o)
found_none (Some i) true e = absurd (true≢false e)
found_none (Some i) false e = refl
found_none None true e = refl
found_none None false e = absurd (false≢true e)

module _ {h : Head} {keys above resets terms : List ℕ} (K : Compiled h keys above resets terms) where
  abbrev compiled : Abstract
  compiled = plan_chart h keys above resets terms

  closed_same : (f : ℕ) → all_below h.count
      (λ i. not (contains f i) || is_subset (get_or above i 0) f) ≡ closed_upward compiled f
  unfolding closed_upward
  closed_same f =
      all_same h.count _ _
      (λ i l. ap (λ (b : Bool). not (contains f i) || b)
      (subset_all h.count (get_or above i 0) f (λ a p. omega (arith, K.accepted.downward a i p))))

  -- the tests of a place joined as the code joins them
  pub tested : (x : Place) (t b : ℕ) (closed set all rests moments : Bool) (o : Found ℕ)
      → closed ≡ all_below h.count (λ i. not (contains x.fired i) || is_subset (get_or above i 0) x.fired)
      → set ≡ within h.count x.fired
      → all ≡ all_below h.count (contains x.fired)
      → found_of o ≡ ready_plain compiled (contains x.fired)
      → is_some o ≡ not rests
      → moments ≡ moments_fit h.clocks x.resets t
      → (closed && (set && (not all && ((not (eqb b 0) || rests) && moments)))) ≡ place_fits compiled x t b
  unfolding place_fits full rests_unless_broken
  tested x t b closed set all rests moments o e₁ e₂ e₃ f e₄ e₅ =
      λ i. (e₁ ∙ closed_same x.fired) i &&
      (e₂ i && (not (e₃ i) && ((not (eqb b 0) || (found_none o rests e₄ ∙ ap is_none f) i) && e₅ i)))

  -- what `is_fit` promises, from the tests of the place and of the tally
  pub fit_test : (m : Monitor) → length m.place.resets ≡ most_clocks → (place counts break : Bool)
      → place ≡ place_fits compiled m.place m.tally.now.0 m.tally.broken.at → counts ≡ counts_fit m.tally
      → break ≡ break_fits compiled m.tally.records m.tally.broken
      → ((place && (counts && break)) ≡ fits compiled m)
      × (((place && (counts && break)) ≡ true) ↔ Fit compiled (monitor_at m))
  unfolding fits
  fit_test m size place counts break e₁ e₂ e₃ = (same, fit_exactly compiled K.accepted m size _ same)
    where
      same : (place && (counts && break)) ≡ fits compiled m
      same = λ i. e₁ i && (e₂ i && e₃ i)
