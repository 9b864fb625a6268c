-- `log_pass::pass` meets its contract: the records before the offset were taken, and the rest is as it was. Assumes
-- nothing.
use Prim.Native.Nat.{◌-◌}
use lib.ListN.{length}
use Rattle.layout.specs.Plans.{chart_of_plan}
use Rattle.log_pass.proofs.Going.{Going}
use Rattle.log_pass.proofs.pass.Given as goal

abbrev pub invariant-loop-at : goal.invariant-loop-at
invariant-loop-at l = Going (chart_of_plan l.plan) l.log l.pace l.m l.at

abbrev pub decreases-loop-at : goal.decreases-loop-at
decreases-loop-at l = length l.log - l.at
