-- `chart_value::well_formed` meets its contract: the regions tested so far are placed, the lines gathered are those
-- touched before. Assumes nothing.
use mathlib.Core.Path.{◌≡◌, refl}
use native.Mathlib.Omega.{arith}
use native.Mathlib.Numerals.{add-one}
use Rattle.base.proofs.Loops.{all_start, all_next, all_below_lem}
use Rattle.bitset.specs.Set.{union}
use Rattle.model.specs.Chart.{most_regions}
use Rattle.chart_value.specs.WellFormed.{touched_before, well_formed}
use Rattle.chart_value.proofs.Exact.{promised}
use Rattle.chart_value.proofs.well_formed.Goals as goal

pub loop-i-init : goal.loop-i-init
unfolding touched_before
loop-i-init c = (refl, all_start)

pub loop-i-preserved : goal.loop-i-preserved
unfolding touched_before union
loop-i-preserved c =
    let I = c.loop-i.invariant in (
      rw add-one (rw (c.touched-before.ensures.set, I.0) refl),
      all_next I.1 (rw (← I.0) c.region_placed-ok.ensures),
    )

pub returns : goal.returns
unfolding well_formed
returns c =
    let l = c.loop-i in
    let e : l.i ≡ most_regions = omega arith in
    promised c.args.c _ c.well_formed.0 _
    (rw (c.region_counts_fit.ensures, c.heading_fits.ensures, all_below_lem most_regions l.invariant.1 e))
