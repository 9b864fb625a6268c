-- The number of a log's refusal tells the refusal. Assumes nothing.
use mathlib.Core.Path.{◌≡◌, refl, sym, ap, ◌∙◌}
use mathlib.Core.Bool.{cond}
use Prim.Native.Nat.{ℕ}
use lib.Dec.{eqb}
use Rattle.log_reader.specs.declared.RecordRefusal.{RecordRefusal}
use Rattle.log_reader.specs.declared.RecordRefusal.TheVariants.{CutShort, UnknownByte}
use Rattle.log_clock.specs.declared.MomentRefusal.TheVariants.{Mixed, Falls, TooLate}
use Rattle.log_check.specs.declared.LogRefusal.{LogRefusal}
use Rattle.log_check.specs.declared.LogRefusal.TheVariants.{NoRecord, NoMoment, TooManyRecords}
use Rattle.log_check.specs.Refusal.{log_refusal_number}

-- the refusal with a number
record_refusal : ℕ → RecordRefusal
record_refusal n = cond (eqb n 30) CutShort UnknownByte

pub log_refusal : ℕ → LogRefusal
log_refusal n =
    cond (eqb n 23) TooManyRecords (cond (eqb n 22) (NoMoment Falls) (cond (eqb n 24) (NoMoment TooLate)
    (cond (eqb n 32) (NoMoment Mixed) (NoRecord (record_refusal n)))))

pub refusal_told : (k : LogRefusal) → log_refusal (log_refusal_number k) ≡ k
unfolding log_refusal record_refusal
refusal_told (NoRecord CutShort) = refl
refusal_told (NoRecord UnknownByte) = refl
refusal_told (NoMoment Mixed) = refl
refusal_told (NoMoment Falls) = refl
refusal_told (NoMoment TooLate) = refl
refusal_told TooManyRecords = refl

pub number_tells : (a b : LogRefusal) → log_refusal_number a ≡ log_refusal_number b → a ≡ b
number_tells a b e = sym (refusal_told a) ∙ ap log_refusal e ∙ refusal_told b
