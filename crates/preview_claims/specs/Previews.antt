-- Showing what would be answered (F1 to F5): what is shown or refused, and what the buffer becomes, case by case. A
-- case says when it applies.
use Rattle.std.specs.Prelude.{◌≡◌, ◌≢◌, ◌⊎◌, List, ℕ, ◌≤◌, ◌<◌, length, get_or, Result, Ok, Err}
use Rattle.model.specs.declared.Chart.{Chart}
use Rattle.model.specs.declared.Event.{Event}
use Rattle.model.specs.declared.Event.TheVariants as event
use Rattle.model.specs.declared.Message.{Message}
use Rattle.model.specs.declared.Moment.{Moment}
use Rattle.model.specs.declared.Monitor.{Monitor}
use Rattle.model.specs.declared.Record.TheVariants as a-record
use Rattle.model.specs.declared.FeedRefusal.{FeedRefusal}
use Rattle.model.specs.declared.FeedRefusal.TheVariants.{NotAChart, Unfit, TimeFalls, TooManyRecords}
use Rattle.model.specs.Chart.{region_at}
use Rattle.model.specs.Answers.{most_records, fed_number}
use Rattle.chart_value.specs.Given.{Given}
use Rattle.chart_value.specs.View.{chart_of}
use Rattle.chart_value.specs.Records.{log_record}
use Rattle.rounds.specs.Feeds.{Answer as AbstractAnswer}
use Rattle.rounds.specs.Machine.{Fit}
use Rattle.paper.specs.Taken.{Status, Taken, status_of, Acceptable}
use Rattle.stepping.specs.Answers.{told_number}
use Rattle.stepping.specs.Monitors.{monitor_at}
use Rattle.preview.specs.declared.PreviewRefusal.{PreviewRefusal}
use Rattle.preview.specs.declared.PreviewRefusal.TheVariants.{TooShort, Feed}
use Rattle.preview_claims.specs.declared.Pressed.{Pressed}

-- The byte of a region that waits for an event: 0 for a plain one; for a message 1 after a break, else the number of
-- the answer with which the source's steps take it at that moment (S20).
pub data ForeseenAs (c : Chart) (m : Monitor) (t : Moment) : Event → ℕ → Type 0 where
  plain : (lines : ℕ) → ForeseenAs c m t (event.Plain lines) 0
  broken : (x : Message) → m.tally.broken.at ≢ 0 → ForeseenAs c m t (event.Message x) 1
  taken : (x : Message) → Acceptable (chart_of c) (monitor_at m) (log_record (a-record.Message x t))
      → (y : Status) (a : AbstractAnswer)
      → Taken (chart_of c) (status_of (chart_of c) (monitor_at m)) (log_record (a-record.Message x t)) y a
      → ForeseenAs c m t (event.Message x) (told_number a)

-- the buffer l has become n: a byte for each region at its start, every other byte as it was
pub record Shows (c : Chart) (m : Monitor) (t : Moment) (l n : List ℕ) : Type 0 where
  pub size : length n ≡ length l
  pub regions : (i : ℕ) → i < c.count → ForeseenAs c m t (region_at c i).event (get_or n i 0)
  pub rest : (i : ℕ) → c.count ≤ i → get_or n i 0 ≡ get_or l i 0

-- 20, 21, 12 if the buffer has fewer bytes than the chart has regions; then, unless there is a break, 22 and 23; each
-- with the buffer as it came. Else the bytes are shown.
pub data PreviewsAs (c : Chart) (m : Monitor) (t : Moment) (l : List ℕ)
    : Result (Unit {0}) PreviewRefusal → List ℕ → Type 0 where
  not_given : ¬ Given c → PreviewsAs c m t l (Err (Feed NotAChart)) l
  unfit : Given c → ¬ Fit (chart_of c) (monitor_at m) → PreviewsAs c m t l (Err (Feed Unfit)) l
  too_short_case : Given c → Fit (chart_of c) (monitor_at m) → length l < c.count → PreviewsAs c m t l (Err TooShort) l
  time_falls_case : Given c → Fit (chart_of c) (monitor_at m) → c.count ≤ length l → m.tally.broken.at ≡ 0
      → t.0 < m.tally.now.0
      → PreviewsAs c m t l (Err (Feed TimeFalls)) l
  too_many : Given c → Fit (chart_of c) (monitor_at m) → c.count ≤ length l → m.tally.broken.at ≡ 0
      → m.tally.now.0 ≤ t.0 → most_records ≤ m.tally.records
      → PreviewsAs c m t l (Err (Feed TooManyRecords)) l
  shows : Given c → Fit (chart_of c) (monitor_at m) → c.count ≤ length l
      → (m.tally.broken.at ≢ 0) ⊎ ((m.tally.now.0 ≤ t.0) × (m.tally.records < most_records)) → (n : List ℕ)
      → Shows c m t l n
      → PreviewsAs c m t l (Ok tt) n

-- this answer and this buffer alone
pub record PreviewsJust (c : Chart) (m : Monitor) (t : Moment) (l : List ℕ)
    (r : Result (Unit {0}) PreviewRefusal) (n : List ℕ)
    : Type 0 where
  pub holds : PreviewsAs c m t l r n
  pub only : (s : Result (Unit {0}) PreviewRefusal) (k : List ℕ) → PreviewsAs c m t l s k → (s ≡ r) × (k ≡ n)

-- F5: shown first, then the message x fed at the same moment to the same monitor.
pub record Foretold (c : Chart) (x : Message) (n : List ℕ) (r : Pressed) : Type 0 where
  -- each region that has it shows the number of the answer, which is 1 to 5
  pub byte : r.shown ≡ Ok tt → (i : ℕ) → i < c.count → (region_at c i).event ≡ event.Message x
      → get_or n i 0 ≡ fed_number r.fed.answer
  pub range : r.shown ≡ Ok tt → (i : ℕ) → i < c.count → (region_at c i).event ≡ event.Message x
      → (1 ≤ get_or n i 0) × (get_or n i 0 ≤ 5)
  -- it is refused exactly as showing is, unless the buffer is too short
  pub refused : (k : FeedRefusal) → r.shown ≡ Err (Feed k) → r.fed.answer ≡ Err k
  pub refuses : (k : FeedRefusal) → r.fed.answer ≡ Err k → r.shown ≢ Err TooShort → r.shown ≡ Err (Feed k)
