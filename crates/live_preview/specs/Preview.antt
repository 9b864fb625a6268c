-- V20: what showing the answers of a live monitor returns and writes.
use Rattle.std.specs.Prelude.{ℕ, ◌<◌, ◌≡◌, List, get_or, Ok, Err}
use Rattle.model.specs.declared.Message.{Message}
use Rattle.model.specs.declared.Event.TheVariants as event
use Rattle.model.specs.declared.Record.TheVariants as a-record
use Rattle.model.specs.Chart.{region_at}
use Rattle.model.specs.Answers.{Fed, fed_number}
use Rattle.preview.specs.declared.PreviewRefusal.TheVariants.{TooShort, Feed}
use Rattle.preview.specs.Preview.{Previewed, preview_of}
use Rattle.monitor_image.specs.MonitorImage.{monitor_in}
use Rattle.live.specs.Live.{chart_in, LiveFed}

-- the chart and the monitor in the bytes, at a time, with room for so many bytes
abbrev pub preview_in : List ℕ → ℕ → ℕ → Previewed
preview_in live time room = preview_of (chart_in live) (monitor_in live) (record { 0 = time }) room

-- with 0 and with 12 how many regions the chart has, else 0
abbrev pub regions_told : ℕ → Previewed → ℕ
regions_told count (Ok u) = count
regions_told count (Err TooShort) = count
regions_told count (Err (Feed k)) = 0

-- F5: what is shown for a message is what feeding it at that time to the same bytes returns
pub record Foretells (live : List ℕ) (time number : ℕ) (out : List ℕ) : Type 0 where
  pub fed : number ≡ 0 → (i : ℕ) (x : Message) → i < (chart_in live).count
      → (region_at (chart_in live) i).event ≡ event.Message x → (a : Fed) (next : List ℕ)
      → LiveFed live (a-record.Message x (record { 0 = time })) a next → get_or out i 0 ≡ fed_number a
