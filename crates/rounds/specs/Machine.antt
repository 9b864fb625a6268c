-- T1 to T34 as a machine over an abstract chart, step by step, and which monitors are fit (M10).
use Rattle.std.specs.Prelude.{◌≡◌, ◌⊎◌, Bool, false, not, cond, ◌&&◌, ◌||◌, ℕ, zero, suc, ◌+◌, ◌*◌, ◌≤◌, ◌<◌, eqb, ltb, leb}
use Rattle.std.proofs.Math.Bool.{So}
use Rattle.std.proofs.Math.Option.{Option}
use Rattle.base.specs.Lists.{Snoc, ε, ◌▸◌, all_below, some_below, count_below, first, on_found, is_found}
use Rattle.model.specs.declared.Cause.{Cause}
use Rattle.model.specs.Monitor.{no_cause, cause_of}
use Rattle.model.specs.Answers.{time_falls, too_many_records, most_records}
use Rattle.rounds.specs.Chart.{Chart, condition_of}
use Rattle.rounds.specs.Rows.{LogRecord, chart_message, plain, Ready, Full, values, opened}
use Rattle.rounds.specs.Tally.{Tally, fresh_tally, counted, counted_kept, counted_dropped, counted_broken}
use Rattle.rounds.specs.Tally.{reopened_tally}
use Rattle.rounds.specs.Feeds.{no_ready_region, condition_fails, Answer}
use Rattle.rounds.specs.Feeds.{refused, broken_at, kept_now, dropped_now, entered, moved, quiet}

-- T1: which regions are fired, and when each clock was last reset
pub record Place : Type 0 where
  pub fired : ℕ → Bool
  pub clocks : ℕ → ℕ

-- T1: a place, and the tally with now, the counts and the break
pub record Monitor : Type 0 where
  pub place : Place
  pub tally : Tally

-- T2: no region is fired, and every number is 0
abbrev pub fresh : Monitor
fresh = record { place = record { fired = λ i. false; clocks = λ c. 0 }; tally = fresh_tally }

-- what a feed gives: the answer, and the monitor handed back
pub record Step : Type 0 where
  pub answer : Answer
  pub next : Monitor

-- how steps 3 and 4 end: no ready region has the message; a region's condition fails, with its first failing term and
-- the place just before it; or no plain region is ready any more, with the place then
pub data Move : Type 0 where
  stuck : Move
  fails : ℕ → ℕ → Place → Move
  rests : Place → Move

module _ (C : Chart) where
  -- O5: not fired, while each region above is
  unfoldable pub ready : (ℕ → Bool) → ℕ → Bool
  ready fired i = not (fired i) && all_below C.regions (λ a. not (C.above a i) || fired a)

  -- T11: the ready region with the record's message
  unfoldable pub ready_for : (ℕ → Bool) → LogRecord → Option ℕ
  ready_for fired e = first C.regions (λ i. eqb (C.key i) e.code && ready fired i)

  -- T13: the lowest plain region that is ready
  unfoldable pub ready_plain : (ℕ → Bool) → Option ℕ
  ready_plain fired = first C.regions (λ i. plain C i && ready fired i)

  -- T12: region i is fired at moment t, and its clocks are reset
  unfoldable pub fire : ℕ → Place → ℕ → Place
  fire t p i = record { fired = λ j. eqb j i || p.fired j; clocks = λ c. cond (C.resets i c) t (p.clocks c) }

  -- the number of unfired regions
  unfoldable pub unfired : (ℕ → Bool) → ℕ
  unfired fired = count_below C.regions (λ i. not (fired i))

  -- T12, C19: region i is tried at moment t; the move is `next` if its condition holds
  unfoldable pub try_region : ℕ → Place → ℕ → Move → Move
  try_region t p i next = cond (condition_of C i (values C t p.clocks)) next
      (fails i (C.failing i (values C t p.clocks)) p)

  -- T13 to T15: plain regions are tested and fired at moment t until none is ready. The second number bounds the turns
  -- of the loop.
  unfoldable pub settle : ℕ → ℕ → Place → Move
  settle t zero p = rests p
  settle t (suc k) p = on_found (ready_plain p.fired) (rests p) (λ i. try_region t p i (settle t k (fire t p i)))

  -- T11, T12: the message's region is tested and fired, its resets come after the test; then T13
  unfoldable pub take_message : Place → LogRecord → Move
  take_message p e = on_found (ready_for p.fired e) stuck
      (λ i. try_region e.time p i (let q = fire e.time p i in settle e.time (unfired q.fired) q))

  -- T22: how a round opens at moment t
  unfoldable pub opening : ℕ → Place
  opening t = record { fired = λ i. false; clocks = opened C t }

  -- T17: no region is left to fire
  unfoldable pub full : (ℕ → Bool) → Bool
  full fired = all_below C.regions fired

  -- T6: the phase is main
  unfoldable pub prechart_done : (ℕ → Bool) → Bool
  prechart_done fired = all_below C.prechart fired

  -- Each of the next four counts the record and sets now (T9). The round runs on at place p:
  unfoldable pub go_on : Monitor → LogRecord → Answer → Place → Step
  go_on m e a p = record { answer = a; next = record { place = p; tally = counted m.tally e.time } }

  -- T17, T18: one more round is kept, or dropped with cause z (T31), and another opens
  unfoldable pub keep_round : Monitor → LogRecord → Step
  keep_round m e = record {
    answer = kept_now;
    next = record { place = opening e.time; tally = counted_kept m.tally e.time };
  }

  unfoldable pub drop_round : Monitor → LogRecord → Cause → Step
  drop_round m e z = record {
    answer = dropped_now z;
    next = record { place = opening e.time; tally = counted_dropped m.tally e.time };
  }

  -- T23 to T25, T32: the break has this record, reason k and cause z, and the place is p
  unfoldable pub break_round : Monitor → LogRecord → ℕ → Cause → Place → Step
  break_round m e k z p = record {
    answer = broken_at (suc m.tally.records) k z;
    next = record { place = p; tally = counted_broken m.tally e.time k z };
  }

  -- T18, T19: no ready region has the message; the phase says whether the round is dropped or broken. T21: a condition
  -- fails, cold or hot. T17: all regions are fired; if not, T28 and T29.
  unfoldable pub conclude : Monitor → LogRecord → Move → Step
  conclude m e stuck =
      cond (prechart_done m.place.fired) (break_round m e no_ready_region no_cause m.place) (drop_round m e no_cause)
  conclude m e (fails i term p) =
      cond (C.hot i) (break_round m e condition_fails (cause_of i term) p) (drop_round m e (cause_of i term))
  conclude m e (rests p) = cond (full p.fired) (keep_round m e)
      (go_on m e (cond (not (prechart_done m.place.fired) && prechart_done p.fired) entered moved) p)

  -- One offer of a record, steps 1 to 7. T10: one that is no chart message is counted, and that is all
  unfoldable pub offer : Monitor → LogRecord → Step
  offer m e = cond (chart_message C e) (conclude m e (take_message m.place e)) (go_on m e quiet m.place)

  -- T33: a chart message drops the round by T18, and a region was fired in it before
  unfoldable pub missed : Monitor → LogRecord → Bool
  missed m e = chart_message C e && (not (prechart_done m.place.fired)
      && (some_below C.regions m.place.fired && not (is_found (ready_for m.place.fired e))))

  -- T33: a region that is ready at the opening has the message, whatever its condition
  unfoldable pub fits_opening : LogRecord → Bool
  fits_opening e = is_found (ready_for (λ i. false) e)

  -- T34: between the two offers the round stands at the opening, at the record's time, and its drop is counted
  unfoldable pub reopened : Monitor → LogRecord → Monitor
  reopened m e = record { place = opening e.time; tally = reopened_tally m.tally e.time }

  -- T33, T34: a record that the round missed and that fits is offered to the round that opens; any other once
  unfoldable pub accept : Monitor → LogRecord → Step
  accept m e = cond (missed m e && fits_opening e) (offer (reopened m e) e) (offer m e)

  -- M12 to M14: broken again, 22 or 23, each with the monitor unchanged; or the record is taken
  unfoldable pub feed : Monitor → LogRecord → Step
  feed m e = cond (not (eqb m.tally.broken.at 0))
      (let b = m.tally.broken in record { answer = broken_at b.at b.reason b.cause; next = m })
      (cond (ltb e.time m.tally.now) (record { answer = refused time_falls; next = m })
      (cond (leb most_records m.tally.records) (record { answer = refused too_many_records; next = m })
      (accept m e)))

  -- W10: where a list of feeds leads from a fresh monitor, and what is answered on the way
  unfoldable pub after : Snoc LogRecord → Monitor
  after ε = fresh
  after (fs ▸ e) = (feed (after fs) e).next

  unfoldable pub answers : Snoc LogRecord → Snoc Answer
  answers ε = ε
  answers (fs ▸ e) = answers fs ▸ (feed (after fs) e).answer

-- M10: the cause is a region of the chart, with one of its terms
pub record CauseIn (C : Chart) (x : Cause) : Type 0 where
  pub region : ℕ
  pub term : ℕ
  pub is_region : region < C.regions
  pub is_term_case : (1 ≤ term) × (term ≤ C.terms region)
  pub both : x ≡ cause_of region term

-- M10: the monitor fits the chart.
pub record Fit (C : Chart) (m : Monitor) : Type 0 where
  -- the fired regions are a cut (O7)
  pub closed : (i a : ℕ) → So (m.place.fired i) → So (C.above a i) → So (m.place.fired a)
  -- and regions of the chart
  pub within : (i : ℕ) → So (m.place.fired i) → i < C.regions
  -- some region is not fired
  pub unfinished : ¬ Full C m.place.fired
  -- there is a break, or no plain region is ready
  pub settled : m.tally.broken.at ≡ 0 → (j : ℕ) → So (plain C j) → ¬ Ready C m.place.fired j
  -- no reset moment is above now; a clock that the chart has not has 0
  pub moments : (c : ℕ) → m.place.clocks c ≤ m.tally.now
  pub unused : (c : ℕ) → C.clocks ≤ c → m.place.clocks c ≡ 0
  -- records is not above the most that there can be
  pub few : m.tally.records ≤ most_records
  -- each record ends two rounds at most
  pub counts : m.tally.kept + m.tally.dropped ≤ 2 * m.tally.records
  -- no break, no reason and no cause; or a break at a record that was counted, with a condition's cause for reason 2
  pub break_fits_case : ((m.tally.broken.at ≡ 0) × (m.tally.broken.reason ≡ 0) × (m.tally.broken.cause ≡ no_cause))
      ⊎ ((1 ≤ m.tally.broken.at) × (m.tally.broken.at ≤ m.tally.records)
      × (((m.tally.broken.reason ≡ no_ready_region) × (m.tally.broken.cause ≡ no_cause))
      ⊎ ((m.tally.broken.reason ≡ condition_fails) × CauseIn C m.tally.broken.cause)))
