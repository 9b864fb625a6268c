-- `feed_log::reached` meets its contract: none was taken, or the last one was of the pace. Assumes nothing.
use Rattle.feed_log.proofs.Parts.{reached_none, reached_some}
use Rattle.feed_log.proofs.reached.Goals as goal

pub returns-then-last-eq0 : goal.returns-then-last-eq0
returns-then-last-eq0 c = let a = c.args in reached_none a.kind a.pace a.monitor a.at a.last a.counts c.if-last-eq0.true

pub returns : goal.returns
returns c =
    let a = c.args in
    reached_some a.kind a.pace a.monitor a.at a.last a.counts c.if-last-eq0.false _ c.kind_in.ensures
