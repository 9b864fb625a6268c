use Rattle.bitset.specs.Set.{union}
use Rattle.chart_step.proofs.begun.Goals as goal

pub returns : goal.returns
unfolding union
returns c = rw (c.touched.ensures.set, c.zero_region.ensures, c.close.ensures)
