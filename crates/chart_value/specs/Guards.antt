-- The guards of the reader's definition: a place among the 32 for the region that is closed, a place among the 4 for a
-- term, a line below 16 for a message. None of them ever fires.
use Rattle.std.specs.Prelude.{◌≡◌, ◌↔◌, Bool, true, List, ℕ, ◌<◌, Some, None, Ok}
use Rattle.model.specs.declared.Chart.{Chart}
use Rattle.model.specs.Chart.{most_lines, most_regions, most_terms}
use Rattle.chart_command.specs.declared.Command.TheVariants.{Message, ClockTerm, DifferenceTerm}
use Rattle.chart_step.specs.declared.Reading.{Reading}
use Rattle.chart_step.specs.Reading.{fault_of}
use Rattle.chart_reader.specs.Read.{advance_of, start_reading, read_chart}
use Rattle.chart_reader.specs.Said.{accepted_as}

-- the states that reading the bytes passes through, each with the offset of the next command
pub data Reached (s : List ℕ) : ℕ → Reading → Type 0 where
  start : Reached s 0 start_reading
  next : {at : ℕ} {r : Reading} (m : ℕ) (q : Reading) → Reached s at r
      → advance_of s at r ≡ Ok (record { reading = q; next = Some m }) → Reached s m q

-- such a state whose command ends the chart, which is then c
pub record EndsAs (s : List ℕ) (c : Chart) : Type 0 where
  pub offset : ℕ
  pub reading : Reading
  pub reached : Reached s offset reading
  pub end : Reading
  pub last : advance_of s offset reading ≡ Ok (record { reading = end; next = None })
  pub chart : end.chart ≡ c

pub record NeverFire : Type 0 where
  -- reading passes through these states, to the end: bytes give a chart exactly if one of them ends it
  pub reaches_end : (s : List ℕ) (c : Chart) → (read_chart s ≡ accepted_as c) ↔ EndsAs s c
  pub room : (s : List ℕ) (at : ℕ) (r : Reading) → Reached s at r → r.started ≡ true → r.chart.count < most_regions
  pub lines : (s : List ℕ) (at : ℕ) (r : Reading) → Reached s at r → (next a b l : ℕ) (more : Bool)
      → fault_of r at next more (Message a b l) ≡ None → (a < most_lines) × (b < most_lines)
  pub clock_term : (r : Reading) (at next k e n : ℕ) (more : Bool)
      → fault_of r at next more (ClockTerm k e n) ≡ None → r.region.count < most_terms
  pub difference_term : (r : Reading) (at next a b e n : ℕ) (more : Bool)
      → fault_of r at next more (DifferenceTerm a b e n) ≡ None → r.region.count < most_terms
