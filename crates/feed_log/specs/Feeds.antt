-- V22: the records in a stretch of a log's bytes, fed to live bytes one by one.
use Rattle.std.specs.Prelude.{◌≡◌, ◌≢◌, true, false, List, [], ◌∷◌, ℕ, eqb, None, Ok, Err}
use Rattle.base.specs.Lists.{Snoc, ε, ◌▸◌, size, keep}
use Rattle.model.specs.declared.Moment.{Moment}
use Rattle.model.specs.declared.Record.{Record}
use Rattle.model.specs.declared.Answer.{Answer}
use Rattle.model.specs.declared.FeedRefusal.{FeedRefusal}
use Rattle.model.specs.Answers.{answer_number, feed_refusal_number, not_a_chart, not_fit}
use Rattle.log_reader.specs.declared.RecordRefusal.{RecordRefusal}
use Rattle.log_reader.specs.Record.{record_refusal_number}
use Rattle.log_clock.specs.declared.Kind.{Kind}
use Rattle.log_clock.specs.declared.MomentRefusal.{MomentRefusal}
use Rattle.log_clock.specs.declared.Undated.TheVariants.{NoRecord, NoMoment}
use Rattle.log_clock.specs.Clock.{moment_refusal_number}
use Rattle.log_clock.specs.Dated.{dated_record, dated_at}
use Rattle.monitor_image.specs.MonitorImage.{monitor_in}
use Rattle.live.specs.Live.{is_broken, LiveFed, standing_refusal, standing_in}
use Rattle.log_check.specs.Refusal.{log_refusal_number}
use Rattle.feed_log.specs.declared.Stop.{Stop}
use Rattle.feed_log.specs.declared.Stop.TheVariants as stop
use Rattle.feed_log.specs.declared.LogFed.{LogFed}

-- why a call stopped: 0, 1, 20, 21, or the number of the log's refusal, 22 to 24 or 30 to 32
abbrev pub number_of : Stop → ℕ
number_of stop.End = 0
number_of stop.Broken = 1
number_of stop.NotAChart = not_a_chart
number_of stop.Unfit = not_fit
number_of (stop.Log why) = log_refusal_number why

-- what a call comes to: its number, the answers of the records taken, the offset just after them, the log's kind with
-- them, and the live bytes
pub record Outcome : Type 0 where
  pub number : ℕ
  pub answers : Snoc Answer
  pub place : ℕ
  pub kind : Kind
  pub bytes : List ℕ

-- the moment of the last record of live bytes
abbrev pub now_in : List ℕ → Moment
now_in l = (monitor_in l).tally.now

-- From an offset of s on, after records of this kind with these answers, which left the live bytes l. A broken monitor
-- is fed no more. Otherwise the record there gets its moment, and is fed: it stops the call if it is refused, and is
-- taken if not.
pub data Feeds (s : List ℕ) : ℕ → Kind → List ℕ → Snoc Answer → Outcome → Type 0 where
  at_break : {at : ℕ} {k : Kind} {l : List ℕ} {ans : Snoc Answer} → is_broken (monitor_in l) ≡ true
      → Feeds s at k l ans (record { number = 1; answers = ans; place = at; kind = k; bytes = l })
  at_end : {at : ℕ} {k : Kind} {l : List ℕ} {ans : Snoc Answer} → is_broken (monitor_in l) ≡ false
      → dated_at s at k (now_in l) ≡ Ok None
      → Feeds s at k l ans (record { number = 0; answers = ans; place = at; kind = k; bytes = l })
  at_no_record : {at : ℕ} {k : Kind} {l : List ℕ} {ans : Snoc Answer} (f : RecordRefusal) → is_broken (monitor_in l) ≡ false
      → dated_at s at k (now_in l) ≡ Err (NoRecord f)
      → Feeds s at k l ans (record { number = record_refusal_number f; answers = ans; place = at; kind = k; bytes = l })
  at_no_moment : {at : ℕ} {k : Kind} {l : List ℕ} {ans : Snoc Answer} (f : MomentRefusal) → is_broken (monitor_in l) ≡ false
      → dated_at s at k (now_in l) ≡ Err (NoMoment f)
      → Feeds s at k l ans (record { number = moment_refusal_number f; answers = ans; place = at; kind = k; bytes = l })
  at_refused : {at : ℕ} {k : Kind} {l : List ℕ} {ans : Snoc Answer} (e : Record) (j : Kind) (past : ℕ)
      (f : FeedRefusal) (n : List ℕ)
      → is_broken (monitor_in l) ≡ false → dated_at s at k (now_in l) ≡ dated_record e j past → LiveFed l e (Err f) n
      → Feeds s at k l ans (record { number = feed_refusal_number f; answers = ans; place = at; kind = k; bytes = l })
  taken : {at : ℕ} {k : Kind} {l : List ℕ} {ans : Snoc Answer} {o : Outcome} (e : Record) (j : Kind) (past : ℕ)
      (a : Answer) (n : List ℕ)
      → is_broken (monitor_in l) ≡ false → dated_at s at k (now_in l) ≡ dated_record e j past → LiveFed l e (Ok a) n
      → Feeds s past j n (ans ▸ a) o → Feeds s at k l ans o

-- The whole call: bytes that hold no live monitor, or an unfit one, are refused as they are for a standing, and stay.
pub data FeedsLog (l : List ℕ) (k : Kind) (s : List ℕ) : Outcome → Type 0 where
  refuses : standing_refusal (standing_in l) ≢ 0
      → FeedsLog l k s (record { number = standing_refusal (standing_in l); answers = ε; place = 0; kind = k; bytes = l })
  feeds : {o : Outcome} → standing_refusal (standing_in l) ≡ 0 → Feeds s 0 k l ε o → FeedsLog l k s o

-- how many answers have this number
abbrev pub count_of : ℕ → Snoc Answer → ℕ
count_of k ans = size (keep (λ a. eqb (answer_number a) k) ans)

abbrev pub counts_of : Snoc Answer → List ℕ
counts_of ans = count_of 1 ans ∷ count_of 2 ans ∷ count_of 3 ans ∷ count_of 4 ans ∷ count_of 5 ans ∷ count_of 6 ans ∷ []

-- the number of the last answer; 0 if there is none
abbrev pub last_number : Snoc Answer → ℕ
last_number ε = 0
last_number (ans ▸ a) = answer_number a

-- what the call says of it, and the live bytes after it
pub record FedLog (l : List ℕ) (k : Kind) (s : List ℕ) (r : LogFed) (n : List ℕ) : Type 0 where
  pub answers : Snoc Answer
  pub one_by_one : FeedsLog l k s
      (record { number = number_of r.stop; answers = answers; place = r.place; kind = r.kind; bytes = n })
  pub is_taken : r.taken ≡ size answers
  pub is_last : r.last ≡ last_number answers
  pub is_counts : r.counts ≡ counts_of answers

-- the bytes and the kind fix all of it
pub record FeedsTell : Type 0 where
  pub tell : {l s n m : List ℕ} {k : Kind} {r q : LogFed} → FedLog l k s r n → FedLog l k s q m → (r ≡ q) × (n ≡ m)
