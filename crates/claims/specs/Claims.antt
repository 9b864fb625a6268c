-- The claims, on one page.
use Rattle.std.specs.Prelude.{◌≡◌, ◌↔◌, List, ℕ, ◌-◌, ◌≤◌, get_or}
use Rattle.bitset.specs.Set.{contains}
use Rattle.model.specs.declared.Chart.{Chart}
use Rattle.model.specs.declared.Cause.{Cause}
use Rattle.model.specs.declared.Monitor.{Monitor}
use Rattle.model.specs.declared.Record.{Record}
use Rattle.model.specs.Answers.{Fed, most_records}
use Rattle.condition.specs.Condition.{Tells}
use Rattle.condition.specs.Table.{TableRule}
use Rattle.chart_reader.specs.declared.ChartRead.{ChartRead}
use Rattle.chart_reader.specs.Said as read
use Rattle.chart_reader.specs.Read.{read_chart}
use Rattle.chart_reader.specs.Said.{accepted_as}
use Rattle.chart_faults.specs.Claims.{Faults}
use Rattle.chart_value.specs.Given.{Given}
use Rattle.chart_value.specs.View.{region_of, chart_of, Shown, CodesTell}
use Rattle.chart_value.specs.Marks.{MarksApart}
use Rattle.chart_value.specs.Guards.{NeverFire}
use Rattle.base.specs.Lists.{Snoc, size}
use Rattle.rounds.specs.Rows.{LogRecord, Row, Lawful}
use Rattle.rounds.specs.Feeds.{unended, after_break}
use Rattle.rounds.specs.Machine.{Monitor as AbstractMonitor}
use Rattle.rounds.specs.Demand3.{Demand3, Meaning, Agrees}
use Rattle.paper.specs.Demand2.{Demand2}
use Rattle.stepping.specs.Answers.{fed_answer}
use Rattle.stepping.specs.declared.Step.{Step}
use Rattle.stepping.specs.Monitors.{monitor_at, step_of}
use Rattle.log_reader.specs.Record.{RecordRead}
use Rattle.log_reader.specs.Record as found
use Rattle.log_clock.specs.declared.Kind.{Kind}
use Rattle.log_clock.specs.declared.Kind.TheVariants.{Raw}
use Rattle.log_clock.specs.Records.{records_in}
use Rattle.log_clock.specs.TrueTimes.{shown_at, Passing, TrueTimes}
use Rattle.monitor.specs.History.{Feeding, ViewTells}
use Rattle.chart_value.specs.Records.{logged}
use Rattle.judge.specs.declared.Judgement.{Judgement}
use Rattle.judge.specs.Said as judge
use Rattle.verdict.specs.Verdict.{broken, standing_of, verdict_of}
use Rattle.log_claims.specs.Logs.{FindsAs, Walk, Stamped}
use Rattle.claims.specs.Demand1.{JudgesAs, judged_log}
use Rattle.claims.specs.Standing.{StandsAs}
use Rattle.examples.specs.Examples.{examples, AllSaid}

-- what is said of an answer fixes it: two answers of which the same is said are the same value
pub record AnswersTell : Type 0 where
  pub charts : (x y : ChartRead) → read.said x ≡ read.said y → x ≡ y
  pub judgements : (x y : Judgement) → judge.said x ≡ judge.said y → x ≡ y
  pub records : (at : ℕ) (x y : RecordRead) → found.said at x ≡ found.said at y → x ≡ y
  pub feeds : (x y : Fed) → fed_answer x ≡ fed_answer y → x ≡ y

-- the view of a stored monitor shows each field as it is stored
pub record Views (m : Monitor) : Type 0 where
  pub fired : (i : ℕ) → (monitor_at m).place.fired i ≡ contains m.place.fired i
  pub clocks : (k : ℕ) → (monitor_at m).place.clocks k ≡ (get_or m.place.resets k (record { 0 = 0 })).0
  pub now : (monitor_at m).tally.now ≡ m.tally.now.0
  pub records : (monitor_at m).tally.records ≡ m.tally.records
  pub kept : (monitor_at m).tally.kept ≡ m.tally.kept
  pub dropped : (monitor_at m).tally.dropped ≡ m.tally.dropped
  pub break : (monitor_at m).tally.broken.at ≡ m.tally.broken.at
  pub reason : (monitor_at m).tally.broken.reason ≡ m.tally.broken.reason
  pub cause : (monitor_at m).tally.broken.cause ≡ m.tally.broken.cause

-- the second and the third demand of the abstract chart that c shows; and that the real operation gives what the
-- machine gives of which they speak
pub record Demands (c : Chart) : Type 0 where
  pub second : Demand2 (chart_of c)
  pub third : Demand3 (chart_of c)
  pub feeding : Feeding c

pub record Claims : Type 0 where
  -- number, offset, chart, verdict and record fix the answers
  pub answers_tell : AnswersTell
  -- the definition that reading a chart cites refuses exactly the first fault, and accepts exactly the chart that the
  -- commands describe
  pub faults : Faults
  -- a chart that accepted bytes give shows an accepted abstract chart, whose order is the closure over shared lines
  pub shown : (c : Chart) → Given c → Shown c
  -- C20, J14: the abstract chart, of which rows, stretches, answers and counts are said, does not show the marks of
  -- places to rest
  pub marks_apart : MarksApart
  -- messages with the same code are the same
  pub codes_tell : CodesTell
  -- each entry of the table that decides terms is yes exactly if its relation holds for differences of its sign
  pub relations : TableRule
  -- C19: the test of a region's condition gives 0 exactly if every term holds, and a term exactly if it fails and each
  -- before it holds
  pub which_term : (c : Chart) (i : ℕ) (value : ℕ → ℕ) (k : ℕ)
      → ((chart_of c).failing i value ≡ k) ↔ Tells (region_of c i) value k
  -- the guards of the reader's definition never fire
  pub guards : NeverFire
  -- of every chart that is read from bytes: the second and the third demand, and that feeding does what they say
  pub demands : (bytes : List ℕ) (c : Chart) → read_chart bytes ≡ accepted_as c → Demands c
  -- the verdict over a log without a fault is what the stretches of its records give: that of each monitor that agrees
  -- with them
  pub judged : (c : Chart) → Given c → (log : List ℕ) {es : Snoc Record} {k : Kind} {at last : ℕ}
      → Walk log es k at last → FindsAs log at (found.end at)
      → (M : Meaning (chart_of c) (logged es)) (m : AbstractMonitor)
      → Agrees (chart_of c) M.accepted M.stretches M.last m
      → JudgesAs c log (judged_log (verdict_of c m))
  -- J8, J13: if the last stretch has no end, the standing is the one that its row gives, and no other; after a broken
  -- stretch it is 3
  pub stands : (c : Chart) → Given c → {fs : Snoc LogRecord} (M : Meaning (chart_of c) fs) (m : AbstractMonitor)
      → Agrees (chart_of c) M.accepted M.stretches M.last m → (o : ℕ) (s : Snoc LogRecord)
      → M.last ≡ unended o s → (r : Row) → Lawful (chart_of c) o s r → (k : ℕ) → (standing_of c m ≡ k) ↔ StandsAs c r k
  pub stands_broken : (c : Chart) → Given c → {fs : Snoc LogRecord} (M : Meaning (chart_of c) fs) (m : AbstractMonitor)
      → Agrees (chart_of c) M.accepted M.stretches M.last m → {k : ℕ} {x : Cause} → M.last ≡ after_break k x
      → standing_of c m ≡ broken
  -- and these are the records that are fed from its bytes
  pub walked : (log : List ℕ) {es : Snoc Record} {k : Kind} {at last : ℕ} → Walk log es k at last
      → FindsAs log at (found.end at) → records_in log ≡ es
  -- L13: the moments of raw stamps are the true times since the first; of stamps, both ways, and of a log's raw
  -- records, which are walked without a fault
  pub true_times : TrueTimes
  pub true_walk : (log : List ℕ) (first : ℕ) {ts : Snoc ℕ} {t : ℕ} → Passing first ts t → {es : Snoc Record} {at : ℕ}
      → Stamped log first ts es at → size es ≤ most_records → Walk log es (Raw (shown_at t)) at (t - first)
  -- the view in which feeding's contract is stated shows every field of a monitor, and fixes the monitor; a step's
  -- answer and monitor are shown likewise
  pub views : (m : Monitor) → Views m
  pub steps : (r : Step) → ((step_of r).answer ≡ fed_answer r.answer) × ((step_of r).next ≡ monitor_at r.next)
  pub view_tells : ViewTells
  -- the examples X3 to X11, X13 and X14
  pub examples_said : AllSaid examples
