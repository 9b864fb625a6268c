-- `monitor::feed` meets its contract: the value is tested first. Assumes nothing.
use Rattle.monitor.proofs.Feeding.{fed_no_chart}
use Rattle.monitor.proofs.Owned.{owned_step}
use Rattle.monitor.proofs.feed.Goals as goal

pub returns-in_default : goal.returns-in_default
returns-in_default c = (
  fed_no_chart _ _ _ _ c.in_default.ensures c.refused.ensures.step,
  c.refused.ensures.back,
  owned_step c.refused.result _ c.refused.type_inv,
)

pub returns : goal.returns
returns c = rw c.in-Ok.ensures at c.feed_accepted.ensures
