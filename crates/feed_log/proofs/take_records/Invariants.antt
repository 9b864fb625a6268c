-- `feed_log::take_records` meets its contract: the records before the offset were taken. Assumes nothing.
use Prim.Native.Nat.{◌-◌}
use lib.ListN.{length}
use Rattle.layout.specs.Plans.{chart_of_plan}
use Rattle.feed_log.proofs.Going.{SoFar}
use Rattle.feed_log.proofs.take_records.Given as goal

abbrev pub invariant-loop-at : goal.invariant-loop-at
invariant-loop-at l = SoFar (chart_of_plan l.plan) l.log l.kind l.pace l.initial.m l.m l.at l.last l.counts

abbrev pub decreases-loop-at : goal.decreases-loop-at
decreases-loop-at l = length l.log - l.at
