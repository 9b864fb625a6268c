-- One more member, and the clocks reset. Assumes nothing.
use Rattle.firing.proofs.Fires.{fires}
use Rattle.firing.proofs.fire.Goals as goal

pub returns : goal.returns
returns c =
    let a = c.args in
    fires a.plan.now.resets a.p a.i a.t.0 c.insert.result c.reset_clocks.result c.insert.ensures c.reset_clocks.ensures
