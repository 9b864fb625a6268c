-- `chart_image::is_image` meets its contract: of the right length, the regions before i fit; at the end these are all.
-- Assumes nothing.
use Rattle.base.proofs.Loops.{AllSoFar}
use Rattle.chart_image.specs.ChartImage.{region_offset, region_fits}
use Rattle.chart_image.proofs.is_image.Given as goal

abbrev pub invariant-loop-i : goal.invariant-loop-i
invariant-loop-i l = AllSoFar (λ k. region_fits l.s (region_offset k)) l.i l.ok
