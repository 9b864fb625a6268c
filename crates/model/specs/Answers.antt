-- The answers of the operations: their numbers, and a verdict of zeros.
use Rattle.std.specs.Prelude.{ℕ, Result, Ok, Err}
use Rattle.model.specs.declared.FeedRefusal.{FeedRefusal}
use Rattle.model.specs.declared.FeedRefusal.TheVariants.{NotAChart, Unfit, TimeFalls, TooManyRecords}
use Rattle.model.specs.declared.Answer.{Answer}
use Rattle.model.specs.declared.Answer.TheVariants.{Broken, Kept, Dropped, Entered, Moved, Quiet}
use Rattle.model.specs.declared.Verdict.{Verdict}

-- N9: a buffer too short, no chart, an unfit monitor, a time that falls, too many records
abbrev pub too_short : ℕ
too_short = 12

abbrev pub not_a_chart : ℕ
not_a_chart = 20

abbrev pub not_fit : ℕ
not_fit = 21

abbrev pub time_falls : ℕ
time_falls = 22

abbrev pub too_many_records : ℕ
too_many_records = 23

-- M10, J3: how many records there can be
abbrev pub most_records : ℕ
most_records = 1000000

abbrev pub feed_refusal_number : FeedRefusal → ℕ
feed_refusal_number NotAChart = not_a_chart
feed_refusal_number Unfit = not_fit
feed_refusal_number TimeFalls = time_falls
feed_refusal_number TooManyRecords = too_many_records

-- T27: the numbers of the answers, in the order in which they are tried
abbrev pub answer_number : Answer → ℕ
answer_number (Broken n k x) = 1
answer_number Kept = 2
answer_number (Dropped x) = 3
answer_number Entered = 4
answer_number Moved = 5
answer_number Quiet = 6

-- what a feed says of its record: an answer, or a refusal, which comes before every answer (T27)
abbrev pub Fed : Type 0
Fed = Result Answer FeedRefusal

abbrev pub fed_number : Fed → ℕ
fed_number (Ok a) = answer_number a
fed_number (Err k) = feed_refusal_number k

-- J6: the verdict with these numbers
abbrev pub verdict_from : ℕ → ℕ → ℕ → ℕ → ℕ → ℕ → ℕ → ℕ → Verdict
verdict_from standing kept dropped records broken reason region term = record {
  standing = standing;
  kept = kept;
  dropped = dropped;
  records = records;
  broken = broken;
  reason = reason;
  region = region;
  term = term;
}

-- J5: the verdict of a refused log
abbrev pub zero_verdict : Verdict
zero_verdict = verdict_from 0 0 0 0 0 0 0 0
