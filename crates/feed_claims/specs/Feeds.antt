-- The first demand, of monitors: what making one and feeding it answers, or refuses and in which order, case by case. A
-- case says when it applies.
use Rattle.std.specs.Prelude.{◌≡◌, ◌≢◌, ◌≤◌, ◌<◌, Ok, Err}
use Rattle.model.specs.declared.Chart.{Chart}
use Rattle.model.specs.declared.Monitor.{Monitor}
use Rattle.model.specs.declared.Record.{Record}
use Rattle.model.specs.Monitor.{zero_monitor}
use Rattle.model.specs.Answers.{not_a_chart, not_fit, time_falls, too_many_records, most_records}
use Rattle.chart_value.specs.Given.{Given}
use Rattle.chart_value.specs.View.{chart_of}
use Rattle.chart_value.specs.Records.{log_record}
use Rattle.rounds.specs.Feeds.{Answer as AbstractAnswer, refused, broken_at}
use Rattle.rounds.specs.Machine.{Fit}
use Rattle.paper.specs.Taken.{Taken, status_of, Acceptable}
use Rattle.stepping.specs.Monitors.{monitor_at}
use Rattle.monitor.specs.declared.Made.{Made}
use Rattle.monitor.specs.Stored.{Stored}

-- Making a monitor (M8): a fresh one; or 20, where no accepted bytes give the chart value. Zeros in both cases.
pub data MakesAs (c : Chart) : Made → Type 0 where
  makes : Given c → MakesAs c (record { answer = Ok tt; monitor = zero_monitor })
  no_chart : ¬ Given c → MakesAs c (record { answer = Err (record {}); monitor = zero_monitor })

-- Feeding a record (M12 to M14): 20, 21, the broken answer again, 22, 23, in this order, each with the monitor that
-- came; any other record is taken, by the steps of S20, and leaves a fit monitor.
pub data FeedsAs (c : Chart) (m : Monitor) (e : Record) : AbstractAnswer → Monitor → Type 0 where
  not_a_chart_case : ¬ Given c → FeedsAs c m e (refused not_a_chart) m
  unfit : Given c → ¬ Fit (chart_of c) (monitor_at m) → FeedsAs c m e (refused not_fit) m
  broken_again : Given c → Fit (chart_of c) (monitor_at m) → m.tally.broken.at ≢ 0
      → FeedsAs c m e (broken_at m.tally.broken.at m.tally.broken.reason m.tally.broken.cause) m
  time_falls_case : Given c → Fit (chart_of c) (monitor_at m) → m.tally.broken.at ≡ 0 → (log_record e).time < m.tally.now.0
      → FeedsAs c m e (refused time_falls) m
  too_many : Given c → Fit (chart_of c) (monitor_at m) → m.tally.broken.at ≡ 0 → m.tally.now.0 ≤ (log_record e).time
      → most_records ≤ m.tally.records
      → FeedsAs c m e (refused too_many_records) m
  takes : Given c → Acceptable (chart_of c) (monitor_at m) (log_record e) → (a : AbstractAnswer) (n : Monitor)
      → Taken (chart_of c) (status_of (chart_of c) (monitor_at m)) (log_record e) (status_of (chart_of c) (monitor_at n)) a
      → Fit (chart_of c) (monitor_at n) → FeedsAs c m e a n

-- this answer and this monitor alone, of all monitors that the types allow
pub record FeedsJust (c : Chart) (m : Monitor) (e : Record) (a : AbstractAnswer) (n : Monitor) : Type 0 where
  pub holds : FeedsAs c m e a n
  pub only : (b : AbstractAnswer) (k : Monitor) → Stored k → FeedsAs c m e b k → (b ≡ a) × (k ≡ n)
