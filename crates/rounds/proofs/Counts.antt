-- No more rounds have ended than records came, and one fewer while a region is fired: a record starts one round at most.
-- Assumes nothing.
use mathlib.Core.Path.{◌≡◌, refl}
use mathlib.Core.Logic.{inl, inr}
use mathlib.Core.Bool.{Bool, true, false, cond, not, So, ◌&&◌}
use Prim.Native.Nat.{ℕ, suc, ◌+◌, ◌≤◌, ◌<◌}
use native.Mathlib.Omega.{arith}
use lib.Dec.{eqb, ltb, leb}
use Rattle.base.specs.Lists.{Snoc, ε, ◌▸◌, some_below}
use Rattle.model.specs.declared.Cause.{Cause}
use Rattle.model.specs.Answers.{most_records}
use Rattle.rounds.specs.Chart.{Chart}
use Rattle.rounds.specs.Rows.{LogRecord, chart_message}
use Rattle.rounds.specs.Feeds.{Answer}
use Rattle.rounds.specs.Machine.{Place, Monitor, fresh, Step, Move, stuck, fails, rests, take_message, opening, full}
use Rattle.rounds.specs.Machine.{prechart_done, go_on, keep_round, drop_round, break_round, conclude, offer, missed}
use Rattle.rounds.specs.Machine.{fits_opening, reopened, accept, feed, after}
use Rattle.base.proofs.Bools.{split, clash, and_left}
use Rattle.base.proofs.Loops.{some_at}
use Rattle.rounds.proofs.Offers.{missed_parts}

-- 1 while a region is fired
started : Chart → Monitor → ℕ
started C m = cond (some_below C.regions m.place.fired) 1 0

Few : Chart → Monitor → Type 0
Few C m = m.tally.kept + m.tally.dropped + started C m ≤ m.tally.records

module _ (C : Chart) where
  -- wherever the round stands, if there is one record to spare
  few_anywhere : (m : Monitor) → m.tally.kept + m.tally.dropped < m.tally.records → Few C m
  unfolding Few started
  few_anywhere m h = elim (split (some_below C.regions m.place.fired)) [
    | inl t ↦ rw t (omega (arith, h))
    | inr t ↦ rw t (omega (arith, h))
  ]

  -- or with nothing fired
  few_opened : (m : Monitor) → ((i : ℕ) → m.place.fired i ≡ false)
      → m.tally.kept + m.tally.dropped ≤ m.tally.records → Few C m
  unfolding Few started
  few_opened m z h = elim (split (some_below C.regions m.place.fired)) [
    | inl t ↦ let f = some_at C.regions m.place.fired t in clash f.1 (z f.0)
    | inr t ↦ rw t (omega (arith, h))
  ]

  either_few : (b : Bool) (x y : Step) → Few C x.next → Few C y.next → Few C (cond b x y).next
  either_few true x y p q = p
  either_few false x y p q = q

  -- one offer to a monitor, whether a region is fired or not
  module _ (m : Monitor) (e : LogRecord) (within : m.tally.kept + m.tally.dropped ≤ m.tally.records) where
    broken_few : (k : ℕ) (x : Cause) (p : Place) → Few C (break_round C m e k x p).next
    unfolding break_round
    broken_few k x p = few_anywhere (break_round C m e k x p).next (omega (arith, within))

    dropped_few : (x : Cause) → Few C (drop_round C m e x).next
    unfolding drop_round opening
    dropped_few x = few_opened (drop_round C m e x).next (λ i. refl) (omega (arith, within))

    kept_few : Few C (keep_round C m e).next
    unfolding keep_round opening
    kept_few = few_opened (keep_round C m e).next (λ i. refl) (omega (arith, within))

    on_few : (a : Answer) (p : Place) → Few C (go_on C m e a p).next
    unfolding go_on
    on_few a p = few_anywhere (go_on C m e a p).next (omega (arith, within))

    conclude_few : (v : Move) → Few C (conclude C m e v).next
    unfolding conclude
    conclude_few stuck = either_few (prechart_done C m.place.fired) _ _ (broken_few _ _ _) (dropped_few _)
    conclude_few (fails i term p) = either_few (C.hot i) _ _ (broken_few _ _ _) (dropped_few _)
    conclude_few (rests p) = either_few (full C p.fired) _ _ kept_few (on_few _ _)

    offer_few : Few C (offer C m e).next
    unfolding offer
    offer_few = either_few (chart_message C e) _ _ (conclude_few (take_message C m.place e)) (on_few _ _)

  -- the round that missed a record was started, so the drop has a record to itself
  missed_within : (m : Monitor) (e : LogRecord) → Few C m → So (missed C m e)
      → suc (m.tally.kept + m.tally.dropped) ≤ m.tally.records
  unfolding Few started
  missed_within m e F h =
      let G : m.tally.kept + m.tally.dropped + 1 ≤ m.tally.records = rw (missed_parts C m e h).started at F in
      omega (arith, G)

  few_within : (m : Monitor) → Few C m → m.tally.kept + m.tally.dropped ≤ m.tally.records
  unfolding Few
  few_within m F = omega (arith, F)

  accept_few : (m : Monitor) (e : LogRecord) → Few C m → Few C (accept C m e).next
  unfolding accept reopened
  accept_few m e F = elim (split (missed C m e && fits_opening C e)) [
    | inl t ↦
        let w = missed_within m e F (and_left (missed C m e) (fits_opening C e) t) in
        rw t (offer_few (reopened C m e) e (omega (arith, w)))
    | inr t ↦ rw t (offer_few m e (few_within m F))
  ]

  feed_few : (m : Monitor) (e : LogRecord) → Few C m → Few C (feed C m e).next
  unfolding feed
  feed_few m e F = either_few (not (eqb m.tally.broken.at 0)) _ _ F
      (either_few (ltb e.time m.tally.now) _ _ F
      (either_few (leb most_records m.tally.records) _ _ F (accept_few m e F)))

  after_few : (fs : Snoc LogRecord) → Few C (after C fs)
  unfolding after
  after_few ε = few_opened fresh (λ i. refl) (omega arith)
  after_few (fs ▸ e) = feed_few (after C fs) e (after_few fs)

  pub few_rounds : (fs : Snoc LogRecord) → let x = (after C fs).tally in x.kept + x.dropped ≤ x.records
  few_rounds fs = few_within (after C fs) (after_few fs)
