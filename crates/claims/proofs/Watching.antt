-- A log's records fed one after the other. Assumes nothing.
use mathlib.Core.Path.{◌≡◌, sym, ap, ap₂, subst, ◌∙◌}
use native.Mathlib.Omega.{arith}
use mathlib.Core.Logic.{◌≢◌}
use mathlib.Core.List.{List}
use Rattle.std.specs.Prelude.{None, Ok, Err}
use Prim.Native.Nat.{ℕ, ◌+◌, ◌-◌, ◌<◌, ◌≤◌}
use lib.ListN.{length}
use Rattle.model.specs.declared.Chart.{Chart}
use Rattle.model.specs.declared.Moment.{Moment}
use Rattle.model.specs.declared.Monitor.{Monitor}
use Rattle.model.specs.declared.Record.{Record}
use Rattle.model.specs.declared.Verdict.{Verdict}
use Rattle.model.specs.Monitor.{zero_monitor, time_of}
use Rattle.chart_reader.specs.declared.ChartRead.{ChartRead}
use Rattle.chart_reader.specs.Read.{read_chart}
use Rattle.chart_reader.specs.Said.{Said, said, accepted_as, number_of, offset_of}
use Rattle.chart_value.proofs.Shown.{shown_of, shown}
use Rattle.chart_value.proofs.Sound.{sound}
use Rattle.log_clock.specs.declared.Kind.{Kind}
use Rattle.log_clock.specs.declared.Kind.TheVariants.{Unset}
use Rattle.log_clock.specs.declared.Undated.{Undated}
use Rattle.log_clock.specs.Dated.{dated_record, dated_at}
use Rattle.base.specs.Lists.{Snoc, ε, ◌▸◌}
use Rattle.rounds.specs.Feeds.{Answer as AbstractAnswer}
use Rattle.rounds.specs.Machine.{Monitor as AbstractMonitor}
use Rattle.rounds.specs.Demand3.{Meaning, Agrees}
use Rattle.verdict.specs.Verdict.{verdict_of}
use Rattle.paper.proofs.Demand2.{demand_2}
use Rattle.rounds.proofs.Demand3.{demand_3}
use Rattle.chart_value.specs.View.{chart_of}
use Rattle.log_reader.specs.Record as found
use Rattle.chart_value.specs.Given.{Given}
use Rattle.log_claims.specs.Logs.{FindsAs, Walk}
use Rattle.claims.specs.Demand1.{JudgesAs, judged_log, judges}
use Rattle.stepping.specs.declared.Step.{Step}
use Rattle.stepping.specs.Monitors.{step_of}
use Rattle.monitor.specs.Feed.{feed_of}
use Rattle.monitor.specs.History.{History, none_yet, one_more}
use Rattle.chart_value.specs.Records.{logged}
use Rattle.monitor.proofs.History.{feeding}
use Rattle.claims.specs.declared.Watched.{Watched}
use Rattle.claims.specs.Watch.{FedAll, Watches}
use Rattle.claims.specs.Claims.{Demands}
use Rattle.claims.proofs.Standing.{same_verdict}
use Rattle.log_clock.specs.Records.{records_from, records_in}
use Rattle.log_clock.proofs.Records.{one_record}

-- the demands, of every chart that is read
pub demands_read : (bytes : List ℕ) (c : Chart) → read_chart bytes ≡ accepted_as c → Demands c
demands_read bytes c e =
    let A = (shown_of bytes c e).accepted in
    record {
      second = demand_2 (chart_of c) A;
      third = demand_3 (chart_of c) A;
      feeding = feeding c (sound bytes c e).fine A;
    }

-- n records fed before an offset, of a kind, the last at the moment `last`; they and those left are the log's
pub record SoFar (c : Chart) (s : List ℕ) (m : Monitor) (at n : ℕ) (k : Kind) (last : Moment) : Type 0 where
  pub before : Snoc Record
  pub ans : Snoc AbstractAnswer
  pub history : History c before ans m
  pub rest : records_from (length s - n) s at k last before ≡ records_in s

pub at_start : {c : Chart} {s : List ℕ} (m : Monitor) → m ≡ zero_monitor
    → SoFar c s m 0 0 Unset (record { 0 = 0 })
unfolding records_in
at_start {c} {s} m e =
    let z : length s - 0 ≡ length s = omega arith in
    record {
      before = ε;
      ans = ε;
      history = subst (λ (x : Monitor). History c ε ε x) (sym e) none_yet;
      rest = ap (λ (f : ℕ). records_from f s 0 Unset (record { 0 = 0 }) ε) z;
    }

module _ {c : Chart} {s : List ℕ} {m : Monitor} {at n : ℕ} {k : Kind} {last : Moment}
    (S : SoFar c s m at n k last) (h : n < length s) where
  some_left : 0 < length s - n
  some_left = omega (arith, h)

  pub fed_one : (e : Record) (kind : Kind) (past : ℕ) → dated_at s at k last ≡ dated_record e kind past → (r : Step)
      → step_of r ≡ feed_of c m e → (t : Moment) → t ≡ time_of e → SoFar c s r.next past (n + 1) kind t
  fed_one e kind past q r f t z = record {
    before = S.before ▸ e;
    ans = _;
    history = one_more e r S.history f;
    rest =
        let w : length s - (n + 1) ≡ length s - n - 1 = omega arith in
        ap₂ (λ (f : ℕ) (x : Moment). records_from f s past kind x (S.before ▸ e)) w z
        ∙ sym (one_record s at (length s - n) some_left k last S.before (dated_record e kind past) q) ∙ S.rest;
  }

module _ {c : Chart} {s : List ℕ} {m : Monitor} {at n : ℕ} {k : Kind} {last : Moment} (S : SoFar c s m at n k last) where
  done : S.before ≡ records_in s → FedAll c (records_in s) m
  done e = record { ans = S.ans; history = subst (λ (es : Snoc Record). History c es S.ans m) e S.history }

  -- no record with a moment stands at the offset
  pub fed_none : n < length s → dated_at s at k last ≡ Ok None → FedAll c (records_in s) m
  fed_none h q = done (sym (one_record s at (length s - n) (some_left S h) k last S.before (Ok None) q) ∙ S.rest)

  pub fed_bad : n < length s → (f : Undated) → dated_at s at k last ≡ Err f → FedAll c (records_in s) m
  fed_bad h f q = done (sym (one_record s at (length s - n) (some_left S h) k last S.before (Err f) q) ∙ S.rest)

  pub fed_end : length s ≤ n → FedAll c (records_in s) m
  unfolding records_from
  fed_end h = let z : length s - n ≡ 0 = omega (arith, h) in done (sym (ap (λ (j : ℕ). records_from j s at k last S.before) z) ∙ S.rest)

-- what `watch` promises of a chart that is read
pub watched : (chart log : List ℕ) (x : ChartRead) (r : Watched) → said x ≡ read_chart chart → r.answer ≡ x.answer
    → ((read_chart chart).number ≢ 0 → r.monitor ≡ zero_monitor)
    → (number_of x.answer ≡ 0 → FedAll x.chart (records_in log) r.monitor) → Watches chart log r
watched chart log x r e a z f = record {
  number = ap number_of a ∙ ap (λ (s : Said). s.number) e;
  offset = ap offset_of a ∙ ap (λ (s : Said). s.offset) e;
  refused = z;
  fed = fed;
  agrees = λ c q M.
      let D = demands_read chart c q in
      subst (Agrees (chart_of c) M.accepted M.stretches M.last) (sym (D.feeding.leads (fed c q).history))
      (D.third.monitor_agrees M).1;
}
  where
    fed : (c : Chart) → read_chart chart ≡ accepted_as c → FedAll c (records_in log) r.monitor
    fed c q =
        subst (λ (d : Chart). FedAll d (records_in log) r.monitor) (ap (λ (s : Said). s.chart) (e ∙ q))
        (f (ap (λ (s : Said). s.number) (e ∙ q)))

-- the verdict, by the stretches
pub judged_walk : (c : Chart) → Given c → (log : List ℕ) {es : Snoc Record} {k : Kind} {at last : ℕ}
    → Walk log es k at last → FindsAs log at (found.end at)
    → (M : Meaning (chart_of c) (logged es)) (m : AbstractMonitor)
    → Agrees (chart_of c) M.accepted M.stretches M.last m
    → JudgesAs c log (judged_log (verdict_of c m))
judged_walk c g log W F M m G =
    subst (λ (v : Verdict). JudgesAs c log (judged_log v))
    (sym (same_verdict c (shown c g).accepted M m G)) (judges g W F)
