-- What each operation is said to answer fixes its answer: numbers have one meaning. Assumes nothing.
use mathlib.Core.Path.{◌≡◌, refl, sym, ap, ◌∙◌}
use mathlib.Core.Bool.{cond}
use Rattle.std.specs.Prelude.{Result, Ok, Err}
use Prim.Native.Nat.{ℕ}
use lib.Dec.{eqb}
use Rattle.chart_step.proofs.Numbers.{refusal_nonzero, refusal_injective}
use Rattle.std.proofs.Common.{Result, Ok, Err}
use Rattle.chart_step.specs.declared.Fault.{Fault}
use Rattle.chart_reader.specs.declared.ChartRead.{ChartRead}
use Rattle.chart_reader.specs.Said as read
use Rattle.stepping.proofs.Answers.{answer_told}
use Rattle.log_reader.proofs.Said.{said_tells}
use Rattle.log_reader.specs.declared.RecordRefusal.TheVariants.{CutShort, UnknownByte}
use Rattle.log_clock.specs.declared.MomentRefusal.TheVariants.{Mixed, Falls, TooLate}
use Rattle.log_check.specs.declared.LogRefusal.{LogRefusal}
use Rattle.log_check.specs.declared.LogRefusal.TheVariants as log
use Rattle.log_check.specs.declared.JudgeRefusal.{JudgeRefusal}
use Rattle.log_check.specs.declared.JudgeRefusal.TheVariants.{NotAChart, Log}
use Rattle.log_check.specs.Refusal.{log_refusal_number, fault}
use Rattle.log_claims.proofs.Refusals.{log_refusal, refusal_told}
use Rattle.judge.specs.declared.Judgement.{Judgement}
use Rattle.judge.specs.Said as judge
use Rattle.claims.specs.Claims.{AnswersTell}

same_answer : (x y : Result (Unit {0}) Fault) → read.number_of x ≡ read.number_of y → read.offset_of x ≡ read.offset_of y
    → x ≡ y
same_answer (Ok u) (Ok v) e o = refl
same_answer (Ok u) (Err g) e o = absurd (refusal_nonzero g.refusal (sym e))
same_answer (Err f) (Ok v) e o = absurd (refusal_nonzero f.refusal e)
same_answer (Err f) (Err g) e o = λ i. Err (record { refusal = refusal_injective f.refusal g.refusal e i; offset = o i })

charts_tell : (x y : ChartRead) → read.said x ≡ read.said y → x ≡ y
charts_tell x y e =
    let a = same_answer x.answer y.answer (ap (λ (s : read.Said). s.number) e)
    (ap (λ (s : read.Said). s.offset) e) in
    λ i. record { answer = a i; chart = (e i).chart }

-- the judge's answer with a number and an offset
judge_answer : ℕ → ℕ → Result (Unit {0}) JudgeRefusal
judge_answer n o = cond (eqb n 0) (Ok tt) (cond (eqb n 20) (Err NotAChart) (Err (Log (fault (log_refusal n) o))))

told : (k : LogRefusal) (o : ℕ)
    → ◌≡◌ {A = Result (Unit {0}) JudgeRefusal} (Err (Log (fault (log_refusal (log_refusal_number k)) o)))
    (Err (Log (fault k o)))
told k o = ap (λ (x : LogRefusal). Err (Log (fault x o))) (refusal_told k)

-- the number of a log's refusal is neither 0 nor 20
log_answer : (k : LogRefusal) (o : ℕ) → judge_answer (log_refusal_number k) o ≡ Err (Log (fault k o))
unfolding judge_answer
log_answer (log.NoRecord CutShort) o = told (log.NoRecord CutShort) o
log_answer (log.NoRecord UnknownByte) o = told (log.NoRecord UnknownByte) o
log_answer (log.NoMoment Mixed) o = told (log.NoMoment Mixed) o
log_answer (log.NoMoment Falls) o = told (log.NoMoment Falls) o
log_answer (log.NoMoment TooLate) o = told (log.NoMoment TooLate) o
log_answer log.TooManyRecords o = told log.TooManyRecords o

judge_answer_lem : (a : Result (Unit {0}) JudgeRefusal) → judge_answer (judge.number_of a) (judge.offset_of a) ≡ a
unfolding judge_answer
judge_answer_lem (Ok tt) = refl
judge_answer_lem (Err NotAChart) = refl
judge_answer_lem (Err (Log f)) = log_answer f.why f.at

judgements_tell : (x y : Judgement) → judge.said x ≡ judge.said y → x ≡ y
judgements_tell x y e =
    let a : x.answer ≡ y.answer
    = sym (judge_answer_lem x.answer) ∙ ap (λ (s : judge.Said). judge_answer s.number s.offset) e
    ∙ judge_answer_lem y.answer in
    λ i. record { answer = a i; verdict = (e i).verdict }

pub answers_tell : AnswersTell
answers_tell = record {
  charts = charts_tell;
  judgements = judgements_tell;
  records = said_tells;
  feeds = answer_told;
}
