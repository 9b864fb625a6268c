-- V19: what asking whether a log breaks a chart returns and writes.
use Rattle.std.specs.Prelude.{ℕ, cond, true, false, List, [], ◌∷◌, eqb, ltb, length, Ok, Err}
use Rattle.model.specs.Answers.{too_short}
use Rattle.chart_reader.specs.Said as read
use Rattle.chart_reader.specs.Read.{read_chart}
use Rattle.log_check.specs.Refusal.{judge_refusal_number, judge_refusal_offset}
use Rattle.breaks.specs.Numbers.{BreakAnswer, break_number}
use Rattle.breaks.specs.Breaks.{breaks_of}
use Rattle.wire.specs.Writing.{in_room}

-- how many places of a buffer the answer takes
abbrev pub breaks_places : ℕ
breaks_places = 3

-- the part that a refusal speaks of
abbrev pub chart_part : ℕ
chart_part = 1

abbrev pub log_part : ℕ
log_part = 2

-- a refusal: part, number and offset
abbrev pub refusal_numbers : ℕ → ℕ → ℕ → List ℕ
refusal_numbers part number offset = part ∷ number ∷ offset ∷ []

-- K1 to K4: 1 for yes, 0 for no, and two zeros; or the log's refusal; 20 is told of the log, at offset 0
abbrev pub answer_numbers : BreakAnswer → List ℕ
answer_numbers (Ok true) = 1 ∷ 0 ∷ 0 ∷ []
answer_numbers (Ok false) = 0 ∷ 0 ∷ 0 ∷ []
answer_numbers (Err refusal) = refusal_numbers log_part (judge_refusal_number refusal) (judge_refusal_offset refusal)

-- the chart's refusal, or the answer for the chart that was read
abbrev pub asked_numbers : read.Said → List ℕ → List ℕ
asked_numbers said log =
    cond (eqb said.number 0) (answer_numbers (breaks_of said.chart log))
    (refusal_numbers chart_part said.number said.offset)

abbrev pub asked_number : read.Said → List ℕ → ℕ
asked_number said log = cond (eqb said.number 0) (break_number (breaks_of said.chart log)) said.number

-- V19, N9: 12 if out has fewer than 3 places, which then stay as they were; places after the third stay in every case
abbrev pub breaks_number : List ℕ → List ℕ → List ℕ → ℕ
breaks_number chart log out = cond (ltb (length out) breaks_places) too_short (asked_number (read_chart chart) log)

abbrev pub breaks_out : List ℕ → List ℕ → List ℕ → List ℕ
breaks_out chart log out = in_room breaks_places (asked_numbers (read_chart chart) log) out
