use borrow.Author.Tests.{lt-ltb, le-ltb}
use Rattle.chart_value.specs.WellFormed.{region_placed}
use Rattle.chart_value.proofs.Equal.{region_test}
use Rattle.chart_value.proofs.Owned.{owned_region}
use Rattle.chart_value.proofs.region_placed.Goals as goal

pub returns-then-i-from : goal.returns-then-i-from
unfolding region_placed
returns-then-i-from c =
    rw (c.region_fits.ensures, c.from-then-i-from.ensures, lt-ltb _ _ (rw c.from.ensures at c.if-i-from.true))

pub returns-else-i-from : goal.returns-else-i-from
unfolding region_placed
returns-else-i-from c =
    let g = c.args.g in
    rw (le-ltb _ _ (rw c.from.ensures at c.if-i-from.false))
    (region_test g _ _ (owned_region g _ c.well_formed.1.1.1.0).size c.zero_region.ensures c.eq.ensures)
