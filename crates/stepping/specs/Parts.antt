-- What the functions of this crate give: the offer that decides a record.
use Rattle.std.specs.Prelude.{◌≡◌, ℕ, ◌+◌, ◌*◌, ◌≤◌, ◌<◌}
use Rattle.bitset.specs.Set.{contains}
use Rattle.model.specs.declared.Monitor.{Monitor}
use Rattle.model.specs.Answers.{most_records}
use Rattle.rounds.specs.Chart.{Chart}
use Rattle.rounds.specs.Rows.{LogRecord, Ready}
use Rattle.rounds.specs.Feeds.{quiet}
use Rattle.rounds.specs.Machine.{Monitor as AbstractMonitor, Step, stuck, go_on, conclude, accept}
use Rattle.firing.specs.declared.Sought.{Sought}
use Rattle.firing.specs.declared.Sought.TheVariants.{Ready as ReadyAt, Unready, Foreign}
use Rattle.firing.specs.Places.{moments_of}
use Rattle.firing.specs.Parts.{taken_at}
use Rattle.stepping.specs.declared.Offer.{Offer}
use Rattle.stepping.specs.Monitors.{monitor_at}

-- what taking a record at moment t asks of a monitor: no clock was reset later, and one more record can be counted
pub record Offerable (m : Monitor) (t : ℕ) : Type 0 where
  pub moments : (c : ℕ) → moments_of m.place.resets c ≤ t
  pub few : m.tally.records < most_records
  pub counts : m.tally.kept + m.tally.dropped ≤ 2 * m.tally.records

-- one offer, by which regions have the record's message
unfoldable pub offered_by : Chart → AbstractMonitor → LogRecord → Sought → Step
offered_by C m e (ReadyAt i) = conclude C m e (taken_at C e.time m.place i)
offered_by C m e Unready = conclude C m e stuck
offered_by C m e Foreign = go_on C m e quiet m.place

-- the offer r decides what monitor m does with record e
pub record Decides (C : Chart) (m : Monitor) (e : LogRecord) (r : Offer) : Type 0 where
  pub same : accept C (monitor_at m) e ≡ offered_by C (monitor_at r.monitor) e r.sought
  pub ready : (i : ℕ) → r.sought ≡ ReadyAt i → Ready C (contains r.monitor.place.fired) i
  pub moments : (c : ℕ) → moments_of r.monitor.place.resets c ≤ e.time
  pub few : r.monitor.tally.records < most_records
  -- between two offers there is a drop more, and its record is not counted yet
  pub counts : r.monitor.tally.kept + r.monitor.tally.dropped ≤ 2 * r.monitor.tally.records + 1
