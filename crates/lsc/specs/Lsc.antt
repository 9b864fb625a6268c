-- V7, V8: what judging and printing return and write.
use Rattle.std.specs.Prelude.{ℕ, Bool, cond, ◌||◌, List, [], ◌∷◌, eqb, leb, ltb, length, Ok, Err}
use Rattle.wire.specs.Writing.{in_room}
use Rattle.model.specs.Answers.{too_short, time_falls, too_many_records}
use Rattle.chart_step.specs.Refusal.{most_refusal}
use Rattle.model.specs.Numbers.{places, verdict_numbers}
use Rattle.log_reader.specs.Record.{cut_short, unknown_byte}
use Rattle.log_clock.specs.Clock.{too_late, two_kinds}
use Rattle.listing.specs.Listing.{Report, part_number}
use Rattle.respond.specs.Respond.{Response}

-- V7: the verdict; or part, number and offset, and five zeros
abbrev pub report_numbers : Report → List ℕ
report_numbers (Ok v) = verdict_numbers v
report_numbers (Err r) = part_number r.part ∷ r.number ∷ r.offset ∷ 0 ∷ 0 ∷ 0 ∷ 0 ∷ 0 ∷ []

-- 0 judged, or the refusal's number
abbrev pub report_number : Report → ℕ
report_number (Ok v) = 0
report_number (Err r) = r.number

-- V7: 12 if out has fewer than 8 places, which then stay as they were; places after the eighth stay in every case
abbrev pub judged_number : Report → List ℕ → ℕ
judged_number report out = cond (ltb (length out) places) too_short (report_number report)

abbrev pub judged_out : Report → List ℕ → List ℕ
judged_out report out = in_room places (report_numbers report) out

-- the numbers that judging returns: 0, a chart's refusal, 1 to 11 or 13, or 12, or a log's, 22 to 24 or 30 to 32
abbrev pub is_judged_number : ℕ → Bool
is_judged_number n =
    leb n most_refusal || (eqb n time_falls || (eqb n too_many_records || (eqb n too_late
    || (eqb n cut_short || (eqb n unknown_byte || eqb n two_kinds)))))

-- V8: 0 printed, 12 if out may be too short
abbrev pub printed_number : Response → ℕ
printed_number (Ok n) = 0
printed_number (Err e) = too_short
