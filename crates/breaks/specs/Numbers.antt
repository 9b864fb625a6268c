-- The number and the offset of an answer whether a log breaks a chart.
use Rattle.std.specs.Prelude.{ℕ, Bool, Result, Ok, Err}
use Rattle.log_check.specs.declared.JudgeRefusal.{JudgeRefusal}
use Rattle.log_check.specs.Refusal.{judge_refusal_number, judge_refusal_offset}

-- yes or no, or why the log is refused
abbrev pub BreakAnswer : Type 0
BreakAnswer = Result Bool JudgeRefusal

-- as judging has them; 0 for yes and for no
abbrev pub break_number : BreakAnswer → ℕ
break_number (Ok x) = 0
break_number (Err refusal) = judge_refusal_number refusal

abbrev pub break_offset : BreakAnswer → ℕ
break_offset (Ok x) = 0
break_offset (Err refusal) = judge_refusal_offset refusal
