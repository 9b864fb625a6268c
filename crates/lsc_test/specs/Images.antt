-- V16: making and feeding a monitor by its image, for the chart value in a chart's image.
use Rattle.std.specs.Prelude.{ℕ, ◌≤◌, ◌<◌, ◌≡◌, false, cond, List, ◌++◌, ltb, length, drop}
use Rattle.model.specs.declared.Record.{Record}
use Rattle.model.specs.Monitor.{zero_monitor}
use Rattle.model.specs.Answers.{too_short, not_a_chart, Fed, fed_number}
use Rattle.chart_value.specs.WellFormed.{well_formed}
use Rattle.monitor_image.specs.MonitorImage.{monitor_size, monitor_bytes}
use Rattle.chart_image.specs.ChartImage.{is_image, chart_value_of}
use Rattle.live.specs.Live.{LiveFedBy}

-- 12 if the buffer has no room for a monitor, and it stays as it was; else 0 or 20, and a monitor of zeros
unfoldable pub new_number : List ℕ → List ℕ → ℕ
new_number image l =
    cond (ltb (length l) monitor_size) too_short (cond (well_formed (chart_value_of image)) 0 not_a_chart)

unfoldable pub new_bytes : List ℕ → List ℕ
new_bytes l = cond (ltb (length l) monitor_size) l (monitor_bytes zero_monitor ++ drop monitor_size l)

-- One record fed to the bytes l, which are n afterwards: 12 if they are too few for a monitor; 20 if the chart's bytes
-- are no image.
pub record FedImage (image l : List ℕ) (e : Record) (number : ℕ) (n : List ℕ) : Type 0 where
  pub short : length l < monitor_size → (number ≡ too_short) × (n ≡ l)
  pub by_chart : monitor_size ≤ length l
      → (a : Fed) × LiveFedBy (chart_value_of image) l e a n × (number ≡ fed_number a)
  pub none : monitor_size ≤ length l → is_image image ≡ false → number ≡ not_a_chart
