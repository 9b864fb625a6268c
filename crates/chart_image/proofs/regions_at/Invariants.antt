-- `chart_image::regions_at` meets its contract: the array is filled from the front. Assumes nothing.
use mathlib.Core.Path.{◌≡◌}
use lib.ListN.{length}
use Rattle.base.proofs.Filled.{Filled}
use Rattle.model.specs.Chart.{most_regions, zero_region}
use Rattle.chart_image.specs.ChartImage.{region_offset, region_in}
use Rattle.chart_image.proofs.regions_at.Given as goal

abbrev pub invariant-loop-i : goal.invariant-loop-i
invariant-loop-i l =
    (length l.regions ≡ most_regions) × Filled zero_region (λ k. region_in l.s (region_offset k)) l.i l.regions
