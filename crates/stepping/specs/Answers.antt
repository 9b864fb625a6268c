-- The answers of a feed as the theory has them, and those with which the monitor comes back as it was.
use Rattle.std.specs.Prelude.{◌≡◌, ◌≢◌, ℕ, Ok, Err}
use Rattle.model.specs.declared.Monitor.{Monitor}
use Rattle.model.specs.declared.FeedRefusal.{FeedRefusal}
use Rattle.model.specs.declared.Answer.{Answer}
use Rattle.model.specs.declared.Answer.TheVariants.{Broken, Kept, Dropped, Entered, Moved, Quiet}
use Rattle.model.specs.Answers.{feed_refusal_number, Fed}
use Rattle.rounds.specs.Feeds.{Answer as AbstractAnswer, refused, broken_at}
use Rattle.rounds.specs.Feeds.{kept_now, dropped_now, entered, moved, quiet}
use Rattle.stepping.specs.declared.Step.{Step}

abbrev pub answer_of : Answer → AbstractAnswer
answer_of (Broken n k x) = broken_at n k x
answer_of Kept = kept_now
answer_of (Dropped x) = dropped_now x
answer_of Entered = entered
answer_of Moved = moved
answer_of Quiet = quiet

-- a refusal is an answer of the theory too
abbrev pub fed_answer : Fed → AbstractAnswer
fed_answer (Ok a) = answer_of a
fed_answer (Err k) = refused (feed_refusal_number k)

-- T27: the number of such an answer
abbrev pub told_number : AbstractAnswer → ℕ
told_number (refused k) = k
told_number (broken_at n k x) = 1
told_number kept_now = 2
told_number (dropped_now x) = 3
told_number entered = 4
told_number moved = 5
told_number quiet = 6

-- M14: with a refusal, and if the monitor is broken, the monitor that came is handed back, each field of it
pub record HandsBack (m : Monitor) (r : Step) : Type 0 where
  pub refused : (k : FeedRefusal) → r.answer ≡ Err k → r.next ≡ m
  pub broken : m.tally.broken.at ≢ 0 → r.next ≡ m
