-- What judging a log says: the number of each answer, its offset and the verdict.
use Rattle.std.specs.Prelude.{ℕ, Result, Ok, Err}
use Rattle.model.specs.declared.Verdict.{Verdict}
use Rattle.log_check.specs.declared.JudgeRefusal.{JudgeRefusal}
use Rattle.log_check.specs.Refusal.{judge_refusal_number, judge_refusal_offset}
use Rattle.judge.specs.declared.Judgement.{Judgement}

-- What judging says: 0 and the verdict, or a refusal with its offset and zeros for the verdict.
pub record Said : Type 0 where
  pub number : ℕ
  pub offset : ℕ
  pub verdict : Verdict

-- the number and the offset of each answer
abbrev pub number_of : Result (Unit {0}) JudgeRefusal → ℕ
number_of (Ok u) = 0
number_of (Err refusal) = judge_refusal_number refusal

abbrev pub offset_of : Result (Unit {0}) JudgeRefusal → ℕ
offset_of (Ok u) = 0
offset_of (Err refusal) = judge_refusal_offset refusal

abbrev pub said : Judgement → Said
said r = record { number = number_of r.answer; offset = offset_of r.answer; verdict = r.verdict }
