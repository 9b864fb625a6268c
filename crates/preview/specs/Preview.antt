-- What each region's message would be answered at a moment (F1 to F4).
use Rattle.std.specs.Prelude.{Bool, true, false, cond, not, List, ℕ, eqb, leb, ltb, length, Result, Ok, Err}
use Rattle.base.specs.Table.{table}
use Rattle.wire.specs.Writing.{starting_with}
use Rattle.model.specs.declared.Chart.{Chart}
use Rattle.model.specs.declared.Event.{Event}
use Rattle.model.specs.declared.Event.TheVariants.{Message, Plain}
use Rattle.model.specs.declared.Moment.{Moment}
use Rattle.model.specs.declared.Monitor.{Monitor}
use Rattle.model.specs.declared.Tally.{Tally}
use Rattle.model.specs.declared.Record.TheVariants as a-record
use Rattle.model.specs.declared.FeedRefusal.{FeedRefusal}
use Rattle.model.specs.declared.FeedRefusal.TheVariants.{NotAChart, Unfit, TimeFalls, TooManyRecords}
use Rattle.model.specs.Chart.{region_at}
use Rattle.model.specs.Answers.{too_short, most_records, feed_refusal_number}
use Rattle.chart_value.specs.WellFormed.{well_formed}
use Rattle.chart_value.specs.View.{chart_of}
use Rattle.stepping.specs.Answers.{told_number}
use Rattle.monitor.specs.Fit.{fits}
use Rattle.monitor.specs.Feed.{feed_of}
use Rattle.preview.specs.declared.PreviewRefusal.{PreviewRefusal}
use Rattle.preview.specs.declared.PreviewRefusal.TheVariants.{TooShort, Feed}

-- the bytes are shown, or why not
abbrev pub Previewed : Type 0
Previewed = Result (Unit {0}) PreviewRefusal

-- 12, or the number of the refusal to feed
abbrev pub refusal_number : PreviewRefusal → ℕ
refusal_number TooShort = too_short
refusal_number (Feed k) = feed_refusal_number k

-- 0, or the number of the refusal
abbrev pub preview_number : Previewed → ℕ
preview_number (Ok u) = 0
preview_number (Err k) = refusal_number k

-- F1: a region's byte, by what it waits for: the number of the answer to its message at the moment; 0 if it is plain
abbrev pub foreseen_of : Chart → Monitor → Moment → Event → ℕ
foreseen_of c m t (Message x) = told_number (feed_of c m (a-record.Message x t)).answer
foreseen_of c m t (Plain l) = 0

abbrev pub foreseen : Chart → Monitor → Moment → ℕ → ℕ
foreseen c m t i = foreseen_of c m t (region_at c i).event

-- one byte for each region, in file order
unfoldable pub preview_bytes : Chart → Monitor → Moment → List ℕ
preview_bytes c m t = table c.count (foreseen c m t)

-- F2: a broken monitor answers at any moment; else 22, then 23
abbrev pub timely : Tally → Moment → Result (Unit {0}) FeedRefusal
timely x t =
    cond (not (eqb x.broken.at 0)) (Ok tt)
    (cond (ltb t.0 x.now.0) (Err TimeFalls)
    (cond (leb most_records x.records) (Err TooManyRecords) (Ok tt)))

-- a refusal to feed is one to show
abbrev pub shown_if : Result (Unit {0}) FeedRefusal → Previewed
shown_if (Ok u) = Ok u
shown_if (Err k) = Err (Feed k)

-- F2: 20, 21, then 12 if the buffer has fewer bytes than the chart has regions
unfoldable pub preview_of : Chart → Monitor → Moment → ℕ → Previewed
preview_of c m t room =
    cond (not (well_formed c)) (Err (Feed NotAChart))
    (cond (not (fits (chart_of c) m)) (Err (Feed Unfit))
    (cond (ltb room c.count) (Err TooShort) (shown_if (timely m.tally t))))

-- whether the bytes are shown
abbrev pub is_shown : Previewed → Bool
is_shown (Ok u) = true
is_shown (Err TooShort) = false
is_shown (Err (Feed k)) = false

-- F3: the buffer afterwards: the regions' bytes at its start and the rest as it was; with a refusal all as it was
unfoldable pub buffer_of : Chart → Monitor → Moment → List ℕ → List ℕ
buffer_of c m t l =
    cond (is_shown (preview_of c m t (length l))) (starting_with (preview_bytes c m t) l) l
