-- What reading a chart says (R3): an answer as its number and its offset, with the chart.
use Rattle.std.specs.Prelude.{ℕ, Result, Ok, Err}
use Rattle.model.specs.declared.Chart.{Chart}
use Rattle.model.specs.Chart.{zero_chart}
use Rattle.chart_step.specs.declared.Refusal.{Refusal}
use Rattle.chart_step.specs.Refusal.{refusal_number}
use Rattle.chart_step.specs.declared.Fault.{Fault}
use Rattle.chart_reader.specs.declared.ChartRead.{ChartRead}

-- R3: what reading says; with a refusal the chart is zeros, without one the offset is 0
pub record Said : Type 0 where
  pub number : ℕ
  pub offset : ℕ
  pub chart : Chart

abbrev pub accepted_as : Chart → Said
accepted_as c = record { number = 0; offset = 0; chart = c }

abbrev pub refused_for : Refusal → ℕ → Said
refused_for refusal offset = record { number = refusal_number refusal; offset = offset; chart = zero_chart }

-- the number and the offset of each answer
abbrev pub number_of : Result (Unit {0}) Fault → ℕ
number_of (Ok u) = 0
number_of (Err f) = refusal_number f.refusal

abbrev pub offset_of : Result (Unit {0}) Fault → ℕ
offset_of (Ok u) = 0
offset_of (Err f) = f.offset

abbrev pub said : ChartRead → Said
said r = record { number = number_of r.answer; offset = offset_of r.answer; chart = r.chart }
