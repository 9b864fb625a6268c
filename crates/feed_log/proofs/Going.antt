-- The records taken so far, and one more. Assumes nothing.
use mathlib.Core.Path.{◌≡◌, refl, sym, ap, subst, ◌∙◌}
use mathlib.Core.Logic.{inl, inr}
use mathlib.Core.List.{List}
use Prim.Native.Nat.{ℕ, ◌+◌, ◌-◌, ◌≤◌, ◌<◌}
use native.Mathlib.Omega.{arith}
use borrow.Author.Tests.{ltb-false, leb-false, eq-eqb, ne_eqb}
use lib.ListN.{length, get_or, set}
use Rattle.base.specs.Lists.{Snoc, ε, ◌▸◌, size}
use Rattle.model.specs.declared.Moment.{Moment}
use Rattle.model.specs.declared.Monitor.{Monitor}
use Rattle.model.specs.declared.Answer.{Answer}
use Rattle.model.specs.Answers.{most_records, answer_number}
use Rattle.model.specs.Monitor.{time_of}
use Rattle.rounds.specs.Chart.{Chart as Abstract, Accepted}
use Rattle.rounds.specs.Machine.{Monitor as AbstractMonitor, Step as AbstractStep, Fit, accept, feed}
use Rattle.rounds.proofs.Fitness.{feed_fit}
use Rattle.stepping.specs.declared.Answered.{Answered}
use Rattle.stepping.specs.Monitors.{monitor_at, answered_of, record_of}
use Rattle.chart_value.specs.Records.{record_code, log_record}
use Rattle.log_clock.specs.declared.Kind.{Kind}
use Rattle.log_check.specs.Check.{Going}
use Rattle.log_check.specs.declared.pace.Pace.{Pace}
use Rattle.std.specs.Prelude.{None}
use Rattle.log_check.specs.Check.{step_at}
use Rattle.log_check.specs.Met.{kind_in, met_at}
use Rattle.log_check.proofs.Laws.{Went, went, going_past, end_over}
use Rattle.log_check.proofs.Meets.{Goes, over_there}
use Rattle.log_pass.proofs.Codes.{code_of}
use Rattle.log_pass.proofs.Fed.{accept_counted, accept_fed}
use Rattle.monitor_image.proofs.Laws.{Small, monitor_read}
use Rattle.feed_log.specs.declared.Run.{Run}
use Rattle.feed_log.specs.Feeds.{last_number, counts_of}
use Rattle.feed_log.specs.Run.{kind_now, reached_as, Takes, none_yet, one_more, Stops, Ran}
use Rattle.feed_log.proofs.Agree.{Agrees, agrees_going, agrees_ending}
use Rattle.feed_log.proofs.Counts.{in_counts, counted, count_there}

-- records were taken up to an offset
pub record Reached (C : Abstract) (s : List ℕ) (k : Kind) (p : Pace) (first m : Monitor) (at last : ℕ)
    (counts : List ℕ) : Type 0 where
  pub answers : Snoc Answer
  pub takes : Takes C s k first at (kind_now k p m.tally.now last) m answers
  pub is_taken : m.tally.records ≡ first.tally.records + size answers
  pub is_last : last ≡ last_number answers
  pub is_counts : counts ≡ counts_of answers

-- and the next may follow: nothing is broken
pub record SoFar (C : Abstract) (s : List ℕ) (k : Kind) (p : Pace) (first m : Monitor) (at last : ℕ)
    (counts : List ℕ) : Type 0 where
  pub reached : Reached C s k p first m at last counts
  pub agrees : Agrees s at p (kind_now k p m.tally.now last) m.tally.now m.tally.records
  pub fit : Fit C (monitor_at m)
  pub whole : m.tally.broken.at ≡ 0

pub so_far_start : (C : Abstract) (s : List ℕ) (k : Kind) (p : Pace) (first : Monitor) (counts : List ℕ)
    → Agrees s 0 p k first.tally.now first.tally.records → Fit C (monitor_at first)
    → first.tally.broken.at ≡ 0 → counts ≡ counts_of ε → SoFar C s k p first first 0 0 counts
so_far_start C s k p first counts A F b e = record {
  reached = record { answers = ε; takes = none_yet; is_taken = omega arith; is_last = refl; is_counts = e };
  agrees = A;
  fit = F;
  whole = b;
}

-- the run is over
pub ran : {C : Abstract} {s : List ℕ} {k : Kind} {p : Pace} {first m : Monitor} {at last : ℕ} {counts : List ℕ}
    → Reached C s k p first m at last counts → Stops s at (kind_now k p m.tally.now last) m → (r : Run)
    → r ≡ reached_as k p m at last counts → Ran C s k first r
ran {C} {s} {k} {first = first} R h r e = subst (λ (x : Run). Ran C s k first x) (sym e) (record {
  answers = R.answers;
  takes = R.takes;
  stops = h;
  is_taken = R.is_taken;
  is_last = R.is_last;
  is_counts = R.is_counts;
})

module _ {C : Abstract} {s : List ℕ} {k : Kind} {p : Pace} {first m : Monitor} {at last : ℕ} {counts : List ℕ}
    (G : SoFar C s k p first m at last counts) where
  abbrev now : Moment
  now = m.tally.now

  abbrev kind : Kind
  kind = kind_now k p now last

  -- nothing more is taken
  pub stops_end : length s ≤ at → Stops s at kind m
  stops_end h = inr (_, end_over s at kind now m.tally.records h)

  pub stops_other : None ≡ met_at s at p now m.tally.records → Stops s at kind m
  stops_other e =
      inr (agrees_ending s at p kind now m.tally.records G.agrees (over_there s at p now m.tally.records e))

  -- there is room for one more count
  pub count_room : (i : ℕ) → m.tally.records < most_records → get_or counts i 0 < most_records
  count_room i h =
      let R = G.reached in
      let c : get_or (counts_of R.answers) i 0 ≤ size R.answers = count_there R.answers i in
      let t = R.is_taken in
      subst (λ (x : List ℕ). get_or x i 0 < most_records) (sym R.is_counts) (omega (arith, c, t, h))

  -- a record that was met is taken
  module _ (code : ℕ) (t : Moment) (past : ℕ) (M : Goes s at p now m.tally.records code t past) where
    step : step_at s at kind now m.tally.records ≡ Going past (kind_in p t) t (m.tally.records + 1)
    step =
        agrees_going s at p kind now m.tally.records G.agrees past (kind_in p t) t (m.tally.records + 1)
        M.step

    met : Went s at kind now m.tally.records past (kind_in p t) t (m.tally.records + 1)
    met = went s at kind now m.tally.records past (kind_in p t) t (m.tally.records + 1) step

    pub met_later : m.tally.now.0 ≤ t.0
    met_later = ltb-false t.0 m.tally.now.0 met.later

    pub met_few : m.tally.records < most_records
    met_few = leb-false most_records m.tally.records met.few

    pub met_past : (at < past) × (past ≤ length s)
    met_past = going_past s at kind now m.tally.records past (kind_in p t) t (m.tally.records + 1) step

    module _ (r : Answered) (a : answered_of r ≡ accept C (monitor_at m) (record_of code t.0)) where
      next_now : r.next.tally.now ≡ t
      next_now =
          let z : r.next.tally.now.0 ≡ t.0 =
          ap (λ (y : AbstractStep). y.next.tally.now) a
          ∙ (accept_counted C (monitor_at m) (record_of code t.0)).now in
          λ i. record { 0 = z i }

      next_count : r.next.tally.records ≡ m.tally.records + 1
      next_count =
          ap (λ (y : AbstractStep). y.next.tally.records) a
          ∙ (accept_counted C (monitor_at m) (record_of code t.0)).records ∙ omega arith

      one : record_of code t.0 ≡ log_record met.e
      one =
          let c : code ≡ record_code met.e =
          M.is_code ∙ code_of s at kind now met.e (kind_in p t) past met.found in
          let u : t.0 ≡ (time_of met.e).0 = ap (λ (x : Moment). x.0) (sym met.is_time) in
          λ i. record { time = u i; code = c i }

      fed : answered_of r ≡ feed C (monitor_at m) (log_record met.e)
      fed =
          a ∙ accept_fed C (monitor_at m) (record_of code t.0) G.whole met.later met.few
          ∙ ap (feed C (monitor_at m)) one

      -- the kind with it
      kind_now_lem : (j : ℕ) → j ≡ answer_number r.answer → kind_now k p r.next.tally.now j ≡ kind_in p t
      kind_now_lem j e =
          let b = in_counts r.answer in
          rw (ne_eqb j 0 (λ z. omega (arith, z, e, b))) (ap (kind_in p) next_now)

      pub took : Small r.next → (j : ℕ) → j ≡ answer_number r.answer → (cs : List ℕ)
          → cs ≡ set counts (j - 1) (get_or counts (j - 1) 0 + 1)
          → Reached C s k p first r.next past j cs
      took S j e cs q =
          let R = G.reached in
          record {
            answers = R.answers ▸ r.answer;
            takes =
                subst (λ (x : Kind). Takes C s k first past x r.next (R.answers ▸ r.answer))
                (sym (kind_now_lem j e))
                (one_more met.e (kind_in p t) past r R.takes (rw (eq-eqb m.tally.broken.at 0 G.whole))
                met.found fed (λ rest. monitor_read r.next rest S));
            is_taken = let c = next_count in let t = R.is_taken in omega (arith, c, t);
            is_last = e;
            is_counts =
                q ∙ (λ i. set (R.is_counts i) (e i - 1) (get_or (R.is_counts i) (e i - 1) 0 + 1))
                ∙ counted R.answers r.answer;
          }

      -- after it the run goes on
      pub goes_on : Accepted C → Small r.next → (j : ℕ) → j ≡ answer_number r.answer → (cs : List ℕ)
          → cs ≡ set counts (j - 1) (get_or counts (j - 1) 0 + 1) → r.next.tally.broken.at ≡ 0
          → SoFar C s k p first r.next past j cs
      goes_on A S j e cs q b = record {
        reached = took S j e cs q;
        agrees =
            inl (ap (λ (x : Kind). step_at s past x r.next.tally.now r.next.tally.records)
            (kind_now_lem j e ∙ ap (kind_in p) (sym next_now)));
        fit =
            subst (λ (x : AbstractMonitor). Fit C x) (sym (ap (λ (y : AbstractStep). y.next) fed))
            (feed_fit C A (monitor_at m) (log_record met.e) G.fit);
        whole = b;
      }
