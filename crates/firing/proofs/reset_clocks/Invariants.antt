-- The loop's invariant: the clocks so far are reset, the others are as they were. Assumes nothing.
use mathlib.Core.Path.{◌≡◌}
use lib.ListN.{length}
use Rattle.model.specs.Chart.{most_clocks}
use Rattle.firing.proofs.Fires.{ResetSoFar}
use Rattle.firing.proofs.reset_clocks.Given as goal

abbrev pub invariant-loop-c : goal.invariant-loop-c
invariant-loop-c l = (length l.moment-items ≡ most_clocks)
    × ResetSoFar l.set l.t.0 l.initial.moment-items l.c l.moment-items
