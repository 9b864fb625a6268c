-- Lists of feeds, and that they give what the machine gives.
use Rattle.std.specs.Prelude.{◌≡◌, ◌≢◌, Err}
use Rattle.model.specs.declared.Chart.{Chart}
use Rattle.model.specs.declared.Monitor.{Monitor}
use Rattle.model.specs.declared.Record.{Record}
use Rattle.model.specs.Monitor.{zero_monitor}
use Rattle.model.specs.declared.FeedRefusal.TheVariants.{NotAChart, Unfit}
use Rattle.chart_value.specs.View.{chart_of}
use Rattle.base.specs.Lists.{Snoc, ε, ◌▸◌}
use Rattle.rounds.specs.Feeds.{Answer as AbstractAnswer}
use Rattle.rounds.specs.Machine.{Fit, feed, after, answers}
use Rattle.stepping.specs.declared.Step.{Step}
use Rattle.stepping.specs.Answers.{fed_answer}
use Rattle.stepping.specs.Monitors.{monitor_at, step_of}
use Rattle.monitor.specs.Feed.{feed_of}
use Rattle.monitor.specs.Stored.{Stored}
use Rattle.chart_value.specs.Records.{log_record, logged}

-- W10: a list of feeds for one chart: the records fed, the answers, and the monitor after them. The first feed has a
-- fresh monitor, each other the one that the feed before it handed back; each gives what its definition says.
pub data History (c : Chart) : Snoc Record → Snoc AbstractAnswer → Monitor → Type 0 where
  none_yet : History c ε ε zero_monitor
  one_more : {es : Snoc Record} {ans : Snoc AbstractAnswer} {m : Monitor} (e : Record) (r : Step) → History c es ans m
      → step_of r ≡ feed_of c m e
      → History c (es ▸ e) (ans ▸ fed_answer r.answer) r.next

-- a list of feeds over the records, whose monitor is one that can be stored
pub record HistoryOver (c : Chart) (es : Snoc Record) : Type 0 where
  pub ans : Snoc AbstractAnswer
  pub monitor : Monitor
  pub history : History c es ans monitor
  pub stored : Stored monitor

-- Feeding gives what the machine gives, over the abstract chart that c shows.
pub record Feeding (c : Chart) : Type 0 where
  -- one record to a fit monitor
  pub one : (m : Monitor) (e : Record) → Fit (chart_of c) (monitor_at m)
      → feed_of c m e ≡ feed (chart_of c) (monitor_at m) (log_record e)
  -- every list of records can be fed, whatever was sent and when; its answers and its monitor are the machine's
  pub exists : (es : Snoc Record) → HistoryOver c es
  pub answered : {es : Snoc Record} {ans : Snoc AbstractAnswer} {m : Monitor} → History c es ans m
      → ans ≡ answers (chart_of c) (logged es)
  pub leads : {es : Snoc Record} {ans : Snoc AbstractAnswer} {m : Monitor} → History c es ans m
      → monitor_at m ≡ after (chart_of c) (logged es)
  -- W29: 20 and 21 never occur in it
  pub never_refused : {es : Snoc Record} {ans : Snoc AbstractAnswer} {m : Monitor} → History c es ans m
      → (e : Record) (r : Step) → step_of r ≡ feed_of c m e
      → (r.answer ≢ Err NotAChart) × (r.answer ≢ Err Unfit)

-- the view of a monitor fixes every field of it
abbrev pub ViewTells : Type 0
ViewTells = (m n : Monitor) → Stored m → Stored n → monitor_at m ≡ monitor_at n → m ≡ n
