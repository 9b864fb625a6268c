-- By the set of the numbers below n. Assumes nothing.
use Rattle.firing.proofs.Ready.{below_all}
use Rattle.firing.proofs.all_fired.Goals as goal

pub returns : goal.returns
returns c = rw (← below_all, ← c.below.ensures) c.subset.ensures
