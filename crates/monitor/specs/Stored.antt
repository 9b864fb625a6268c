-- The monitors that can be stored.
use Rattle.std.specs.Prelude.{◌≡◌, ◌<◌, ◌^◌, length}
use Rattle.model.specs.declared.Monitor.{Monitor}
use Rattle.model.specs.Chart.{most_regions, most_clocks}

-- what the types say of a monitor: 32 bits for the fired regions, eight places for the reset moments
pub record Stored (m : Monitor) : Type 0 where
  pub bits : m.place.fired < 2 ^ most_regions
  pub places : length m.place.resets ≡ most_clocks
