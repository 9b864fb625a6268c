-- Charts and logs in bytes: the records of a log, each fed to the chart's monitor, whatever the feeds answer.
use Rattle.std.specs.Prelude.{◌≡◌, ◌≢◌, List, ℕ}
use Rattle.model.specs.declared.Chart.{Chart}
use Rattle.model.specs.declared.Monitor.{Monitor}
use Rattle.model.specs.declared.Record.{Record}
use Rattle.model.specs.Monitor.{zero_monitor}
use Rattle.chart_reader.specs.Read.{read_chart}
use Rattle.chart_reader.specs.Said.{accepted_as, number_of, offset_of}
use Rattle.log_clock.specs.Records.{records_in}
use Rattle.base.specs.Lists.{Snoc}
use Rattle.rounds.specs.Feeds.{Answer as AbstractAnswer}
use Rattle.rounds.specs.Demand3.{Meaning, Agrees}
use Rattle.chart_value.specs.View.{chart_of}
use Rattle.stepping.specs.Monitors.{monitor_at}
use Rattle.monitor.specs.History.{History}
use Rattle.chart_value.specs.Records.{logged}
use Rattle.claims.specs.declared.Watched.{Watched}

-- the monitor m after feeding these records to a fresh one, with the answers given
pub record FedAll (c : Chart) (es : Snoc Record) (m : Monitor) : Type 0 where
  pub ans : Snoc AbstractAnswer
  pub history : History c es ans m

pub record Watches (chart log : List ℕ) (r : Watched) : Type 0 where
  -- reading the chart says this
  pub number : number_of r.answer ≡ (read_chart chart).number
  pub offset : offset_of r.answer ≡ (read_chart chart).offset
  -- a chart that is refused has the monitor of zeros
  pub refused : (read_chart chart).number ≢ 0 → r.monitor ≡ zero_monitor
  -- an accepted one has the monitor after the log's records were fed, which is what their stretches give
  pub fed : (c : Chart) → read_chart chart ≡ accepted_as c → FedAll c (records_in log) r.monitor
  pub agrees : (c : Chart) → read_chart chart ≡ accepted_as c → (M : Meaning (chart_of c) (logged (records_in log)))
      → Agrees (chart_of c) M.accepted M.stretches M.last (monitor_at r.monitor)
