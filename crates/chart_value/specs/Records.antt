-- Records as the theory has them.
use Rattle.std.specs.Prelude.{ℕ}
use Rattle.model.specs.declared.Record.{Record}
use Rattle.model.specs.declared.Record.TheVariants.{Message, Time}
use Rattle.model.specs.Monitor.{time_of}
use Rattle.base.specs.Lists.{Snoc, each}
use Rattle.rounds.specs.Rows.{LogRecord}
use Rattle.chart_value.specs.View.{code_of}

-- the code of a record's message; 0 for a record of time
abbrev pub record_code : Record → ℕ
record_code (Message m t) = code_of m
record_code (Time t) = 0

-- a record's time and code
abbrev pub log_record : Record → LogRecord
log_record e = record { time = (time_of e).0; code = record_code e }

-- each record of a list likewise
abbrev pub logged : Snoc Record → Snoc LogRecord
logged es = each log_record es
