use mathlib.Core.Path.{◌≡◌, refl}
use lib.ListN.{length-set}
use native.Mathlib.Omega.{arith}
use Rattle.base.proofs.Filled.{filled_none, filled_next, filled_whole}
use Rattle.model.specs.Chart.{most_regions}
use Rattle.chart_image.specs.ChartImage.{regions_in}
use Rattle.chart_image.proofs.regions_at.Goals as goal

pub loop-i-init : goal.loop-i-init
loop-i-init c = (refl, rw c.zero_region-regions.ensures (filled_none most_regions))

pub loop-i-preserved : goal.loop-i-preserved
loop-i-preserved c = let I = c.loop-i.invariant in (
  simp length-set I.0,
  filled_next c.region_at.result I.1 (omega arith) c.region_at.ensures,
)

pub returns : goal.returns
unfolding regions_in
returns c = let l = c.loop-i in
    let e : l.i ≡ most_regions = omega arith in
    filled_whole (rw e at l.invariant.1) l.invariant.0
