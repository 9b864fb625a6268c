-- `monitor::feed_accepted` meets its contract: the monitor is tested, then the step of the compiled chart. Assumes
-- nothing.
use mathlib.Core.Path.{sym, ◌∙◌}
use Rattle.layout.proofs.Plans.{compiled}
use Rattle.monitor.proofs.Feeding.{all_covered, fed_unfit, fed_on}
use Rattle.monitor.proofs.Owned.{owned_step}
use Rattle.monitor.proofs.feed_accepted.Goals as goal

pub returns-then-not-is_fit : goal.returns-then-not-is_fit
returns-then-not-is_fit c = (
  fed_unfit _ _ _ _ c.args.accepted.now.accepted _ c.compile-plan.ensures.shows
      (sym c.is_fit.ensures.test ∙ c.if-not-is_fit.true) c.refused.ensures.step,
  c.refused.ensures.back,
  owned_step c.refused.result _ c.refused.type_inv,
)

pub feed_fit-requires-clause-covers : goal.feed_fit-requires-clause-covers
feed_fit-requires-clause-covers c = all_covered _ _ (compiled c.compile-plan.result).regions c.below-every.ensures

pub returns : goal.returns
returns c = (
  fed_on _ _ _ _ c.args.accepted.now.accepted _ c.compile-plan.ensures.shows
      (sym c.is_fit.ensures.test ∙ c.if-not-is_fit.false) _ _
      c.record_code.ensures c.time_of.ensures c.feed_fit.ensures.step,
  c.feed_fit.ensures.back,
  owned_step c.feed_fit.result _ c.feed_fit.type_inv,
)
