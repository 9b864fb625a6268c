-- V1: a live monitor as bytes: the monitor's image, the chart's length in eight bytes, the chart's bytes. And what the
-- functions do with it (V3, V9 to V12).
use Rattle.std.specs.Prelude.{ℕ, ◌+◌, ◌-◌, ◌≡◌, ◌↔◌, Bool, true, false, cond, not, ◌&&◌, ◌||◌, List, ◌++◌, eqb, leb, ltb, length, take, drop, Result, Ok, Err, Option, Some, None}
use Rattle.model.specs.declared.Chart.{Chart}
use Rattle.model.specs.declared.Monitor.{Monitor}
use Rattle.model.specs.declared.Record.{Record}
use Rattle.model.specs.Chart.{zero_chart}
use Rattle.model.specs.Monitor.{zero_monitor}
use Rattle.model.specs.declared.Verdict.{Verdict}
use Rattle.model.specs.declared.FeedRefusal.{FeedRefusal}
use Rattle.model.specs.declared.FeedRefusal.TheVariants.{NotAChart, Unfit}
use Rattle.model.specs.Answers.{too_short, not_a_chart, Fed, fed_number, feed_refusal_number}
use Rattle.chart_reader.specs.Read.{read_chart}
use Rattle.chart_reader.specs.Said.{Said}
use Rattle.chart_value.specs.WellFormed.{well_formed}
use Rattle.chart_value.specs.View.{chart_of}
use Rattle.stepping.specs.declared.Step.{Step}
use Rattle.stepping.specs.Monitors.{monitor_at, step_of}
use Rattle.monitor.specs.Fit.{fits}
use Rattle.monitor.specs.Feed.{feed_of}
use Rattle.verdict.specs.Verdict.{verdict_of}
use Rattle.wire.specs.Bytes.{word64}
use Rattle.wire.specs.Writing.{long_bytes}
use Rattle.monitor_image.specs.MonitorImage.{monitor_size, monitor_bytes, monitor_in}
use Rattle.chart_step.specs.Refusal.{refusal_number}
use Rattle.live.specs.declared.OpenRefusal.{OpenRefusal}
use Rattle.live.specs.declared.OpenRefusal.TheVariants as refusal

-- the monitor's image and the chart's length
abbrev pub head_size : ℕ
head_size = 67

abbrev pub length_in : List ℕ → ℕ
length_in l = word64 l monitor_size

-- V3: they are 67 at least, and the length is not more than what follows the first 67
abbrev pub is_framed : List ℕ → Bool
is_framed l = leb head_size (length l) && leb (length_in l) (length l - head_size)

-- the bytes of the chart
abbrev pub chart_part : List ℕ → List ℕ
chart_part l = take (length_in l) (drop head_size l)

-- the chart in the bytes; a chart of zeros where the reader refuses it
unfoldable pub chart_in : List ℕ → Chart
chart_in l = cond (is_framed l) (read_chart (chart_part l)).chart zero_chart

-- V3: the bytes hold a live monitor: framed, with a chart that the reader accepts
unfoldable pub is_live : List ℕ → Bool
is_live l = is_framed l && eqb (read_chart (chart_part l)).number 0

-- the chart of a live monitor, if the bytes hold one
abbrev pub chart_if_live : List ℕ → Option Chart
chart_if_live l = cond (is_live l) (Some (chart_in l)) None

-- V9: the size of a live monitor, by the length of its chart; the largest number of 64 bits where the sum is above it
abbrev pub largest : ℕ
largest = 0xffff_ffff_ffff_ffff

unfoldable pub live_size : ℕ → ℕ
live_size n = cond (ltb (largest - head_size) n) largest (head_size + n)

-- a fresh live monitor
unfoldable pub fresh_bytes : List ℕ → List ℕ
fresh_bytes chart = monitor_bytes zero_monitor ++ (long_bytes (length chart) ++ chart)

-- V10: the number that opening returns, and the offset of the chart's fault or the size of the live monitor
pub record Opened : Type 0 where
  pub number : ℕ
  pub at : ℕ

-- what opening tells by them
abbrev pub told : Result ℕ OpenRefusal → Opened
told (Ok size) = record { number = 0; at = size }
told (Err (refusal.Chart fault)) = record { number = refusal_number fault.refusal; at = fault.offset }
told (Err (refusal.TooShort size)) = record { number = too_short; at = size }

-- V10: the chart's refusal with its offset; 12, or 0, with the size of the live monitor.
abbrev pub opened_by : Said → ℕ → ℕ → Opened
opened_by said size room =
    cond (eqb said.number 0)
    (record { number = cond (ltb room size) too_short 0; at = size })
    (record { number = said.number; at = said.offset })

unfoldable pub opened_of : List ℕ → ℕ → Opened
opened_of chart room = opened_by (read_chart chart) (live_size (length chart)) room

-- V10: only a buffer that is opened is written, and only where the live monitor stands
unfoldable pub bytes_opened : List ℕ → List ℕ → List ℕ
bytes_opened chart l =
    cond (eqb (opened_of chart (length l)).number 0) (fresh_bytes chart ++ drop (live_size (length chart)) l) l

-- what an opened buffer holds: the chart that was read, and a fresh monitor
pub record Holds (chart l : List ℕ) : Type 0 where
  pub chart_read : chart_in l ≡ (read_chart chart).chart
  pub fresh : monitor_in l ≡ zero_monitor

-- whether the record is refused, and whether the monitor is broken
abbrev pub is_refused : Fed → Bool
is_refused (Ok a) = false
is_refused (Err k) = true

abbrev pub is_broken : Monitor → Bool
is_broken m = not (eqb m.tally.broken.at 0)

-- V11: the bytes after a feed. They are as they were if it was refused or the monitor is broken already; otherwise the
-- image is that of the monitor handed back, and all other bytes are as they were.
unfoldable pub bytes_fed : List ℕ → Step → List ℕ
bytes_fed l s = cond (is_refused s.answer || is_broken (monitor_in l)) l (monitor_bytes s.next ++ drop monitor_size l)

-- One record fed for the chart c to the monitor whose image starts the bytes l, which are n afterwards.
pub record LiveFedBy (c : Chart) (l : List ℕ) (e : Record) (answer : Fed) (n : List ℕ) : Type 0 where
  -- the step that feeding gives, with its answer
  pub taken : Step
  pub fed : step_of taken ≡ feed_of c (monitor_in l) e
  pub ans : answer ≡ taken.answer
  pub bytes : n ≡ bytes_fed l taken
  -- the bytes then hold the monitor that was handed back
  pub next : monitor_in n ≡ taken.next

-- V11: one record fed to live bytes, for the chart in them, which they still hold; 20 exactly if they hold no live
-- monitor.
pub record LiveFed (l : List ℕ) (e : Record) (answer : Fed) (n : List ℕ) : Type 0 where
  pub by_chart : LiveFedBy (chart_in l) l e answer n
  pub chart : chart_in n ≡ chart_in l
  pub none : (is_live l ≡ false) ↔ (fed_number answer ≡ not_a_chart)

-- V12: the standing of a monitor for a chart: 20, 21, or the verdict.
abbrev pub standing_by : Chart → Monitor → Result Verdict FeedRefusal
standing_by c m =
    cond (not (well_formed c)) (Err NotAChart)
    (cond (not (fits (chart_of c) m)) (Err Unfit)
    (Ok (verdict_of c (monitor_at m))))

-- 0, or the number of the refusal
abbrev pub standing_refusal : Result Verdict FeedRefusal → ℕ
standing_refusal (Ok v) = 0
standing_refusal (Err k) = feed_refusal_number k

unfoldable pub standing_in : List ℕ → Result Verdict FeedRefusal
standing_in l = standing_by (chart_in l) (monitor_in l)
