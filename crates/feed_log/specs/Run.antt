-- The loop over the records, for the functions that make up the call.
use Rattle.std.specs.Prelude.{◌≡◌, ◌⊎◌, ◌≢◌, false, cond, List, ◌++◌, ℕ, ◌+◌, ◌-◌, ◌<◌, eqb, drop, Ok, Err}
use Rattle.base.specs.Lists.{Snoc, ε, ◌▸◌, size}
use Rattle.model.specs.declared.Moment.{Moment}
use Rattle.model.specs.declared.Monitor.{Monitor}
use Rattle.model.specs.declared.Record.{Record}
use Rattle.model.specs.declared.Answer.{Answer}
use Rattle.rounds.specs.Chart.{Chart as Abstract}
use Rattle.rounds.specs.Machine.{feed}
use Rattle.chart_value.specs.Records.{log_record}
use Rattle.stepping.specs.declared.Answered.{Answered}
use Rattle.stepping.specs.Monitors.{monitor_at, answered_of}
use Rattle.log_reader.specs.Record.{RecordRead}
use Rattle.log_clock.specs.declared.Kind.{Kind}
use Rattle.log_clock.specs.declared.Kind.TheVariants.{Unset, Plain, Raw}
use Rattle.log_clock.specs.Clock.{range, gap_of}
use Rattle.log_clock.specs.Dated.{dated_record, dated_at}
use Rattle.log_check.specs.Check.{Over}
use Rattle.log_check.specs.declared.pace.Pace.{Pace}
use Rattle.log_check.specs.Refusal.{log_refusal_number, Checked}
use Rattle.log_check.specs.Check.{step_at}
use Rattle.log_check.specs.Met.{plain_pace, raw_pace, pace_of, kind_in, ended_by}
use Rattle.monitor_image.specs.MonitorImage.{monitor_size, monitor_bytes, monitor_in}
use Rattle.live.specs.Live.{is_broken}
use Rattle.feed_log.specs.declared.LogFed.{LogFed}
use Rattle.feed_log.specs.declared.Run.{Run}
use Rattle.feed_log.specs.declared.Stop.{Stop}
use Rattle.feed_log.specs.Feeds.{counts_of, last_number}

-- the pace of records after those of a kind, the last of them at the moment `last`; the first one decides if there were
-- none
abbrev pub pace_from : Kind → Moment → RecordRead → Pace
pace_from Unset last first = pace_of first
pace_from Plain last first = plain_pace
pace_from (Raw from) last first = raw_pace (gap_of (record { 0 = last.0 }) from)

-- the log's kind after them: the one that came, if there are none
abbrev pub kind_now : Kind → Pace → Moment → ℕ → Kind
kind_now k p now last = cond (eqb last 0) k (kind_in p now)

-- where the run stands
abbrev pub reached_as : Kind → Pace → Monitor → ℕ → ℕ → List ℕ → Run
reached_as k p m at last counts =
    record { monitor = m; at = at; kind = kind_now k p m.tally.now last; last = last; counts = counts }

-- what the types say: 32 bits for the stamp
abbrev pub InRange : Kind → Type 0
InRange Unset = Unit {0}
InRange Plain = Unit {0}
InRange (Raw from) = from.0 < range

-- records taken one by one, from the start of s to an offset: each is fed to the machine, which answers it
pub data Takes (C : Abstract) (s : List ℕ) (k : Kind) (m : Monitor) : ℕ → Kind → Monitor → Snoc Answer → Type 0 where
  none_yet : Takes C s k m 0 k m ε
  one_more : {at : ℕ} {j : Kind} {n : Monitor} {ans : Snoc Answer} (e : Record) (i : Kind) (past : ℕ) (r : Answered)
      → Takes C s k m at j n ans → is_broken n ≡ false → dated_at s at j n.tally.now ≡ dated_record e i past
      → answered_of r ≡ feed C (monitor_at n) (log_record e)
      → ((rest : List ℕ) → monitor_in (monitor_bytes r.next ++ rest) ≡ r.next)
      → Takes C s k m past i r.next (ans ▸ r.answer)

-- it stopped at a break, or where the check has a fault or the end
abbrev pub Stops : List ℕ → ℕ → Kind → Monitor → Type 0
Stops s at k m = (m.tally.broken.at ≢ 0)
    ⊎ ((c : Checked) × (step_at s at k m.tally.now m.tally.records ≡ Over c))

pub record Ran (C : Abstract) (s : List ℕ) (k : Kind) (m : Monitor) (r : Run) : Type 0 where
  pub answers : Snoc Answer
  pub takes : Takes C s k m r.at r.kind r.monitor answers
  pub stops : Stops s r.at r.kind r.monitor
  pub is_taken : r.monitor.tally.records ≡ m.tally.records + size answers
  pub is_last : r.last ≡ last_number answers
  pub is_counts : r.counts ≡ counts_of answers

-- why it stopped
abbrev pub checked_number : Checked → ℕ
checked_number (Ok n) = 0
checked_number (Err f) = log_refusal_number f.why

abbrev pub stop_number : List ℕ → ℕ → Kind → Monitor → ℕ
stop_number s at k m = cond (is_broken m) 1
    (checked_number (ended_by m.tally.records (step_at s at k m.tally.now m.tally.records)))

-- live bytes after so many records
abbrev pub bytes_after : List ℕ → ℕ → Monitor → List ℕ
bytes_after l taken m = cond (eqb taken 0) l (monitor_bytes m ++ drop monitor_size l)

-- what the call says after a run, and if nothing is taken
abbrev pub finished_as : Stop → ℕ → Run → LogFed
finished_as stop before r = record {
  stop = stop;
  kind = r.kind;
  place = r.at;
  taken = r.monitor.tally.records - before;
  last = r.last;
  counts = r.counts;
}

abbrev pub stopped_as : Stop → Kind → LogFed
stopped_as stop k =
    record { stop = stop; kind = k; place = 0; taken = 0; last = 0; counts = counts_of ε }
