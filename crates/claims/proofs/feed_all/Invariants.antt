-- `claims::feed_all` meets its contract: the records fed so far, and those left, are the log's. Assumes nothing.
use Rattle.claims.proofs.Watching.{SoFar}
use Rattle.claims.proofs.feed_all.Given as goal

abbrev pub invariant-loop : goal.invariant-loop
invariant-loop l = SoFar l.chart l.log l.m l.at l.counter l.kind l.last
