-- M4: the chart values that are not refused with 20.
use Rattle.std.specs.Prelude.{◌≡◌, List, ℕ, ◌<◌, length, get_or}
use Rattle.model.specs.declared.Chart.{Chart}
use Rattle.chart_reader.specs.Read.{read_chart}
use Rattle.chart_reader.specs.Said.{accepted_as}

-- bytes, that is numbers below 256, are read as the chart
pub record Given (c : Chart) : Type 0 where
  pub bytes : List ℕ
  pub small : (i : ℕ) → i < length bytes → get_or bytes i 0 < 256
  pub accepted : read_chart bytes ≡ accepted_as c
