-- Saving a chart (D1, D4, D6).
use Rattle.std.specs.Prelude.{cond, List, ℕ, ◌+◌, ◌*◌, Result, Ok, Err}
use Rattle.wire.specs.Writing.{writer_buffer, writer_answer}
use Rattle.model.specs.declared.Chart.{Chart}
use Rattle.model.specs.Chart.{most_regions}
use Rattle.model.specs.Answers.{too_short, not_a_chart}
use Rattle.chart_value.specs.WellFormed.{well_formed}
use Rattle.chart_value.specs.Writer.{chart_bytes}
use Rattle.chart_writer.specs.declared.SaveRefusal.{SaveRefusal}
use Rattle.chart_writer.specs.declared.SaveRefusal.TheVariants.{NotAChart, TooShort}

-- D6: three bytes of heading, 41 for each region, 50 and 7F
abbrev pub most_bytes : ℕ
most_bytes = 3 + most_regions * 41 + 2

-- D1, D4: 20, or a writer's answer for the chart's bytes
abbrev pub saved_answer : Chart → List ℕ → Result ℕ SaveRefusal
saved_answer c out =
    cond (well_formed c) (writer_answer Ok (λ n. Err (TooShort n)) (chart_bytes c) out) (Err NotAChart)

-- D4: and its buffer
abbrev pub saved_buffer : Chart → List ℕ → List ℕ
saved_buffer c out = cond (well_formed c) (writer_buffer (chart_bytes c) out) out

-- an answer's number, and the length that it tells
abbrev pub saved_number : Result ℕ SaveRefusal → ℕ
saved_number (Ok n) = 0
saved_number (Err NotAChart) = not_a_chart
saved_number (Err (TooShort n)) = too_short

abbrev pub saved_size : Result ℕ SaveRefusal → ℕ
saved_size (Ok n) = n
saved_size (Err NotAChart) = 0
saved_size (Err (TooShort n)) = n
