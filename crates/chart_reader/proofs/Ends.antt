-- How a reading ends. Assumes nothing.
use mathlib.Core.Path.{◌≡◌, sym, ap, ◌∙◌}
use mathlib.Core.List.{List}
use Prim.Native.Nat.{ℕ, zero, suc, ◌+◌}
use Rattle.std.proofs.Common.{Option, Some, None, Result, Ok, Err}
use lib.ListN.{length}
use Rattle.model.specs.declared.Chart.{Chart}
use Rattle.chart_step.specs.declared.Reading.{Reading}
use Rattle.chart_step.specs.declared.Fault.{Fault}
use Rattle.chart_step.specs.declared.Step.{Step}
use Rattle.chart_step.specs.declared.Refusal.{Refusal}
use Rattle.chart_step.specs.declared.Refusal.TheVariants.{CutShort}
use Rattle.chart_reader.specs.Read.{read_chart, read_from, continue_at, continue_by, advance_of, start_reading}
use Rattle.chart_reader.specs.declared.ChartRead.{ChartRead}
use Rattle.chart_reader.specs.Said.{Said, said, number_of, offset_of, accepted_as, refused_for}

-- accepted, or refused with a chart of zeros
pub data Reads : Said → Type 0 where
  accepts : (c : Chart) → Reads (accepted_as c)
  refuses : (f : Refusal) (offset : ℕ) → Reads (refused_for f offset)

reads_from : (n : ℕ) (s : List ℕ) (at : ℕ) (r : Reading) → Reads (read_from n s at r)
unfolding read_from
reads_from zero s at r = refuses CutShort (length s)
reads_from (suc n) s at r = by (advance_of s at r) (λ k q. reads_from n s k q)
  where
    on : (o : Option ℕ) (q : Reading) → ((k : ℕ) (q : Reading) → Reads (read_from n s k q))
        → Reads (continue_at (read_from n s) o q)
    on (Some k) q i = i k q
    on None q i = accepts q.chart

    by : (a : Result Step Fault) → ((k : ℕ) (q : Reading) → Reads (read_from n s k q))
        → Reads (continue_by (read_from n s) a)
    by (Ok st) i = on st.next st.reading i
    by (Err f) i = refuses f.refusal f.offset

pub reads : (s : List ℕ) → Reads (read_chart s)
unfolding read_chart
reads s = reads_from (length s + 1) s 0 start_reading

-- what the bytes say, by the answer
abbrev pub said_as : Chart → Result (Unit {0}) Fault → Said
said_as c a = record { number = number_of a; offset = offset_of a; chart = c }

pub by_answer : (s : List ℕ) (q : ChartRead) (a : Result (Unit {0}) Fault) → said q ≡ read_chart s → q.answer ≡ a
    → said_as q.chart a ≡ read_chart s
by_answer s q a p e = sym (ap (said_as q.chart) e) ∙ p
