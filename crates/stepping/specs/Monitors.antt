-- A stored monitor, a record and the result of a feed as the theory has them.
use Rattle.std.specs.Prelude.{ℕ}
use Rattle.model.specs.declared.Break.{Break}
use Rattle.model.specs.declared.Tally.{Tally}
use Rattle.model.specs.declared.Monitor.{Monitor}
use Rattle.rounds.specs.Rows.{LogRecord}
use Rattle.rounds.specs.Tally.{Break as AbstractBreak, Tally as AbstractTally}
use Rattle.rounds.specs.Machine.{Monitor as AbstractMonitor, Step as AbstractStep}
use Rattle.firing.specs.Places.{place_at}
use Rattle.stepping.specs.declared.Step.{Step}
use Rattle.stepping.specs.declared.Answered.{Answered}
use Rattle.stepping.specs.Answers.{answer_of, fed_answer}

-- a stored break and a stored tally
abbrev pub break_at : Break → AbstractBreak
break_at b = record { at = b.at; reason = b.reason; cause = b.cause }

abbrev pub tally_at : Tally → AbstractTally
tally_at x = record {
  now = x.now.0;
  records = x.records;
  kept = x.kept;
  dropped = x.dropped;
  broken = break_at x.broken;
}

-- a stored monitor
abbrev pub monitor_at : Monitor → AbstractMonitor
monitor_at m = record { place = place_at m.place; tally = tally_at m.tally }

-- an answer with the monitor after it, and so for what a feed says
abbrev pub answered_of : Answered → AbstractStep
answered_of s = record { answer = answer_of s.answer; next = monitor_at s.next }

abbrev pub step_of : Step → AbstractStep
step_of s = record { answer = fed_answer s.answer; next = monitor_at s.next }

-- a record by its code, which is 0 for a record of time, and its time
abbrev pub record_of : ℕ → ℕ → LogRecord
record_of code t = record { time = t; code = code }
