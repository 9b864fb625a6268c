-- V21: what saving a chart in the writer's form returns and writes.
use Rattle.std.specs.Prelude.{ℕ, ◌≡◌, cond, List, eqb, take}
use Rattle.chart_reader.specs.Said.{Said}
use Rattle.chart_reader.specs.Read.{read_chart}
use Rattle.chart_writer.specs.Save.{saved_answer, saved_buffer, saved_number, saved_size}

-- the reader's refusal and its offset, or what saving the chart that was read answers
abbrev pub write_number : Said → List ℕ → ℕ
write_number said out = cond (eqb said.number 0) (saved_number (saved_answer said.chart out)) said.number

abbrev pub write_at : Said → List ℕ → ℕ
write_at said out = cond (eqb said.number 0) (saved_size (saved_answer said.chart out)) said.offset

-- a refused chart leaves the buffer as it was
abbrev pub write_out : Said → List ℕ → List ℕ
write_out said out = cond (eqb said.number 0) (saved_buffer said.chart out) out

-- D5: what was written is read as what the bytes were
pub record ReadsAgain (chart : List ℕ) (number at : ℕ) (out : List ℕ) : Type 0 where
  pub same : number ≡ 0 → read_chart (take at out) ≡ read_chart chart
