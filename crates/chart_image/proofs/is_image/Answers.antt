use native.Mathlib.Omega.{arith}
use borrow.Author.Tests.{eq-eqb, ne_eqb}
use Rattle.model.specs.Chart.{most_regions}
use Rattle.base.proofs.Loops.{all_below_lem}
use Rattle.chart_image.specs.ChartImage.{is_image}
use Rattle.chart_image.proofs.is_image.Goals as goal

pub returns-then-s-ne-CHART_SIZE : goal.returns-then-s-ne-CHART_SIZE
unfolding is_image
returns-then-s-ne-CHART_SIZE c = rw (ne_eqb _ _ c.if-s-ne-CHART_SIZE.true)

pub returns : goal.returns
unfolding is_image
returns c =
    rw (eq-eqb _ _ c.if-s-ne-CHART_SIZE.false, all_below_lem most_regions c.loop-i.invariant (omega arith))
