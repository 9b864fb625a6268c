-- What the program does with a chart's bytes: command by command, up to the end or to a fault (R1 to R3).
use Rattle.std.specs.Prelude.{ℕ, zero, suc, ◌+◌, false, List, ltb, length, Option, Some, None, Result, Ok, Err}
use Rattle.model.specs.Chart.{zero_region, zero_chart}
use Rattle.chart_command.specs.declared.Decoded.{Decoded}
use Rattle.chart_command.specs.declared.Undecoded.{Undecoded}
use Rattle.chart_command.specs.Command.{decode_at}
use Rattle.chart_step.specs.declared.Refusal.TheVariants.{CutShort}
use Rattle.chart_step.specs.declared.Fault.{Fault}
use Rattle.chart_step.specs.declared.Reading.{Reading}
use Rattle.chart_step.specs.declared.Step.{Step}
use Rattle.chart_step.specs.Refusal.{refusal_of}
use Rattle.chart_step.specs.Reading.{step_of}
use Rattle.chart_reader.specs.Said.{Said, accepted_as, refused_for}

-- before the first command
abbrev pub start_reading : Reading
start_reading =
    record {
      headed = false;
      main = false;
      started = false;
      start = 0;
      touched = 0;
      region = zero_region;
      chart = zero_chart;
    }

-- R4 at one offset: decoding finds 1 and 2, the command's own checks come after
abbrev pub advance_by : List ℕ → ℕ → Reading → Result Decoded Undecoded → Result Step Fault
advance_by s at r (Ok d) = step_of r at d.next (ltb d.next (length s)) d.command
advance_by s at r (Err why) = Err (record { refusal = refusal_of why; offset = at })

unfoldable pub advance_of : List ℕ → ℕ → Reading → Result Step Fault
advance_of s at r = advance_by s at r (decode_at s at)

-- where a command leads: to the next one, or to the end
abbrev pub continue_at : (ℕ → Reading → Said) → Option ℕ → Reading → Said
continue_at k (Some next) r = k next r
continue_at k None r = accepted_as r.chart

abbrev pub continue_by : (ℕ → Reading → Said) → Result Step Fault → Said
continue_by k (Ok st) = continue_at k st.next st.reading
continue_by k (Err f) = refused_for f.refusal f.offset

-- R1, R2: at most n commands from an offset on, up to the first with a fault
unfoldable pub read_from : ℕ → List ℕ → ℕ → Reading → Said
read_from zero s at r = refused_for CutShort (length s)
read_from (suc n) s at r = continue_by (read_from n s) (advance_of s at r)

-- R3: the whole chart. Each command takes a byte at least, so its length and one more bound the number of commands.
unfoldable pub read_chart : List ℕ → Said
read_chart s = read_from (length s + 1) s 0 start_reading
