-- V16: what checking a whole log returns, and asking whether it breaks a chart.
use Rattle.std.specs.Prelude.{ℕ, suc, true, false, Ok, Err}
use Rattle.model.specs.Answers.{most_records}
use Rattle.log_check.specs.Refusal.{Checked, judge_refusal_number}
use Rattle.breaks.specs.Numbers.{BreakAnswer}

-- how many records the log has; one more than the most if it is refused
abbrev pub checked_count : Checked → ℕ
checked_count (Ok n) = n
checked_count (Err f) = suc most_records

-- K1 to K4: 0 for no, 1 for yes, 20 for no chart, or the number of the log's refusal, 22 to 24 or 30 to 32
abbrev pub asked_code : BreakAnswer → ℕ
asked_code (Ok false) = 0
asked_code (Ok true) = 1
asked_code (Err refusal) = judge_refusal_number refusal
