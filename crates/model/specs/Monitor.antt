-- Monitors and records as values: the cause of a break or a drop, the zeros of a monitor, the time or the stamp of a
-- record.
use Rattle.std.specs.Prelude.{ℕ, ◌+◌, replicate}
use Rattle.model.specs.declared.Cause.{Cause}
use Rattle.model.specs.declared.Break.{Break}
use Rattle.model.specs.declared.Place.{Place}
use Rattle.model.specs.declared.Tally.{Tally}
use Rattle.model.specs.declared.Monitor.{Monitor}
use Rattle.model.specs.declared.Moment.{Moment}
use Rattle.model.specs.declared.Record.{Record}
use Rattle.model.specs.declared.Record.TheVariants.{Message, Time}
use Rattle.model.specs.declared.Stamp.{Stamp}
use Rattle.model.specs.declared.RawRecord.{RawRecord}
use Rattle.model.specs.declared.RawRecord.TheVariants as raw
use Rattle.model.specs.Chart.{most_clocks}

-- T31: no condition decided
abbrev pub no_cause : Cause
no_cause = record { region = 0; term = 0 }

-- T31: the condition of region i, whose number counts from 0 here and from 1 in the cause, with its failing term
abbrev pub cause_of : ℕ → ℕ → Cause
cause_of i term = record { region = i + 1; term = term }

-- T1: there is no break
abbrev pub zero_break : Break
zero_break = record { at = 0; reason = 0; cause = no_cause }

-- T2: no region is fired, and every number is 0
abbrev pub zero_place : Place
zero_place = record { fired = 0; resets = replicate most_clocks (record { 0 = 0 }) }

abbrev pub zero_tally : Tally
zero_tally = record {
  now = record { 0 = 0 };
  records = 0;
  kept = 0;
  dropped = 0;
  broken = zero_break;
}

abbrev pub zero_monitor : Monitor
zero_monitor = record { place = zero_place; tally = zero_tally }

-- L1, L2: when the record came
abbrev pub time_of : Record → Moment
time_of (Message m t) = t
time_of (Time t) = t

-- L7: the counter's stamp
abbrev pub stamp_of : RawRecord → Stamp
stamp_of (raw.Message m s) = s
stamp_of (raw.Time s) = s

-- L11: the raw record as a record at a moment
abbrev pub at_moment : RawRecord → Moment → Record
at_moment (raw.Message m s) t = Message m t
at_moment (raw.Time s) t = Time t
