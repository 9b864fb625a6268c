-- `preview::put_foreseen` meets its contract: before i the bytes stand, one more at each turn. Assumes nothing.
use native.Mathlib.Omega.{arith}
use Rattle.layout.proofs.Plans.{compiled}
use Rattle.monitor.proofs.Feeding.{all_covered}
use Rattle.preview.proofs.Laws.{front_more, front_whole}
use Rattle.preview.proofs.put_foreseen.Goals as goal

pub foreseen-requires-clause-covers : goal.foreseen-requires-clause-covers
foreseen-requires-clause-covers c = all_covered _ _ (compiled c.args.plan.now).regions c.below-every.ensures

pub loop-i-preserved : goal.loop-i-preserved
loop-i-preserved c = front_more c.loop-i.invariant _ c.foreseen.ensures

pub returns : goal.returns
returns c = front_whole c.loop-i.invariant _ (omega arith) c.requires.count_in_bounds
