-- Making a monitor and feeding it a record, as it is computed.
use Rattle.std.specs.Prelude.{◌≡◌, cond, not, ℕ, Result, Ok, Err}
use Rattle.model.specs.declared.Chart.{Chart}
use Rattle.model.specs.declared.Monitor.{Monitor}
use Rattle.model.specs.declared.Record.{Record}
use Rattle.model.specs.Monitor.{zero_monitor}
use Rattle.model.specs.declared.FeedRefusal.{FeedRefusal}
use Rattle.model.specs.declared.FeedRefusal.TheVariants.{NotAChart, Unfit}
use Rattle.model.specs.Answers.{not_a_chart, feed_refusal_number}
use Rattle.chart_value.specs.WellFormed.{well_formed}
use Rattle.chart_value.specs.Records.{log_record}
use Rattle.chart_value.specs.View.{chart_of}
use Rattle.rounds.specs.Feeds.{refused}
use Rattle.rounds.specs.Machine as machine
use Rattle.stepping.specs.Monitors.{monitor_at}
use Rattle.chart_value.specs.declared.accepted.NotAChart as declared
use Rattle.monitor.specs.declared.Made.{Made}
use Rattle.monitor.specs.Stored.{Stored}
use Rattle.monitor.specs.Fit.{fits}

-- M8: 0 made, 20 no chart
abbrev pub made_number : Result (Unit {0}) declared.NotAChart → ℕ
made_number (Ok x) = 0
made_number (Err e) = not_a_chart

-- M8: making a monitor; with both answers it is a monitor of zeros.
pub record MadeOf (c : Chart) (r : Made) : Type 0 where
  pub number : made_number r.answer ≡ cond (well_formed c) 0 not_a_chart
  pub monitor : r.monitor ≡ zero_monitor
  pub stored : Stored r.monitor

-- M14: a refusal, with the monitor that came
abbrev pub refuse : FeedRefusal → Monitor → machine.Step
refuse k m = record { answer = refused (feed_refusal_number k); next = monitor_at m }

-- M12, M13: feeding tries 20, 21, then the broken answer again, 22 and 23; else the record is taken (T).
unfoldable pub feed_of : Chart → Monitor → Record → machine.Step
feed_of c m e =
    cond (not (well_formed c)) (refuse NotAChart m)
    (cond (not (fits (chart_of c) m)) (refuse Unfit m)
    (machine.feed (chart_of c) (monitor_at m) (log_record e)))
