-- What the theory has of an answer fixes it, and has its number: refusals are told apart by theirs. Assumes nothing.
use mathlib.Core.Path.{◌≡◌, refl, sym, ap, ◌∙◌}
use mathlib.Core.Bool.{cond}
use Prim.Native.Nat.{ℕ}
use lib.Dec.{eqb}
use Rattle.model.specs.declared.FeedRefusal.{FeedRefusal}
use Rattle.model.specs.declared.FeedRefusal.TheVariants.{NotAChart, Unfit, TimeFalls, TooManyRecords}
use Rattle.model.specs.declared.Answer.TheVariants.{Broken, Kept, Dropped, Entered, Moved, Quiet}
use Rattle.std.specs.Prelude.{Ok, Err}
use Rattle.model.specs.Answers.{feed_refusal_number, Fed, fed_number}
use Rattle.rounds.specs.Feeds.{Answer as AbstractAnswer, refused, broken_at, kept_now, dropped_now, entered, moved, quiet}
use Rattle.stepping.specs.Answers.{fed_answer, told_number}

-- the refusal with a number
feed_refusal : ℕ → FeedRefusal
feed_refusal n = cond (eqb n 20) NotAChart (cond (eqb n 21) Unfit (cond (eqb n 22) TimeFalls TooManyRecords))

feed_refusal_lem : (f : FeedRefusal) → feed_refusal (feed_refusal_number f) ≡ f
unfolding feed_refusal
feed_refusal_lem NotAChart = refl
feed_refusal_lem Unfit = refl
feed_refusal_lem TimeFalls = refl
feed_refusal_lem TooManyRecords = refl

-- what is shown so
ans : AbstractAnswer → Fed
ans (refused k) = Err (feed_refusal k)
ans (broken_at n k x) = Ok (Broken n k x)
ans kept_now = Ok Kept
ans (dropped_now x) = Ok (Dropped x)
ans entered = Ok Entered
ans moved = Ok Moved
ans quiet = Ok Quiet

answered_answer : (x : Fed) → ans (fed_answer x) ≡ x
unfolding ans
answered_answer (Err k) = ap {B = Fed} (λ (f : FeedRefusal). Err f) (feed_refusal_lem k)
answered_answer (Ok (Broken n k x)) = refl
answered_answer (Ok Kept) = refl
answered_answer (Ok (Dropped x)) = refl
answered_answer (Ok Entered) = refl
answered_answer (Ok Moved) = refl
answered_answer (Ok Quiet) = refl

pub answer_told : (x y : Fed) → fed_answer x ≡ fed_answer y → x ≡ y
answer_told x y e = sym (answered_answer x) ∙ ap ans e ∙ answered_answer y

pub told_number_lem : (x : Fed) → told_number (fed_answer x) ≡ fed_number x
told_number_lem (Err k) = refl
told_number_lem (Ok (Broken n k x)) = refl
told_number_lem (Ok Kept) = refl
told_number_lem (Ok (Dropped x)) = refl
told_number_lem (Ok Entered) = refl
told_number_lem (Ok Moved) = refl
told_number_lem (Ok Quiet) = refl
