-- Why a log is refused, by its number; and the fault of a log, with its offset.
use Rattle.std.specs.Prelude.{ℕ, Result}
use Rattle.model.specs.Answers.{too_many_records, not_a_chart}
use Rattle.log_reader.specs.Record.{record_refusal_number}
use Rattle.log_clock.specs.Clock.{moment_refusal_number}
use Rattle.log_clock.specs.declared.Undated.{Undated}
use Rattle.log_clock.specs.declared.Undated.TheVariants as undated
use Rattle.log_check.specs.declared.LogRefusal.{LogRefusal}
use Rattle.log_check.specs.declared.LogRefusal.TheVariants.{NoRecord, NoMoment, TooManyRecords}
use Rattle.log_check.specs.declared.LogFault.{LogFault}
use Rattle.log_check.specs.declared.JudgeRefusal.{JudgeRefusal}
use Rattle.log_check.specs.declared.JudgeRefusal.TheVariants.{NotAChart, Log}

-- J3: 31 and 30 as in E, 32, 22 and 24 as a record has no moment, 23 too many records
abbrev pub log_refusal_number : LogRefusal → ℕ
log_refusal_number (NoRecord k) = record_refusal_number k
log_refusal_number (NoMoment f) = moment_refusal_number f
log_refusal_number TooManyRecords = too_many_records

-- no record with a moment
abbrev pub refusal_of : Undated → LogRefusal
refusal_of (undated.NoRecord f) = NoRecord f
refusal_of (undated.NoMoment f) = NoMoment f

abbrev pub fault : LogRefusal → ℕ → LogFault
fault why at = record { why = why; at = at }

-- what the check of a log comes to: the number of its records, or its first fault
abbrev pub Checked : Type 0
Checked = Result ℕ LogFault

-- 20 at 0, or the fault's number at its offset
abbrev pub judge_refusal_number : JudgeRefusal → ℕ
judge_refusal_number NotAChart = not_a_chart
judge_refusal_number (Log f) = log_refusal_number f.why

abbrev pub judge_refusal_offset : JudgeRefusal → ℕ
judge_refusal_offset NotAChart = 0
judge_refusal_offset (Log f) = f.at
