-- The tests are joined as the definition joins them. Assumes nothing.
use mathlib.Core.Path.{refl}
use Rattle.monitor.proofs.Fitness.{tested}
use Rattle.monitor.proofs.place_fits.Goals as goal

pub returns-clause-test : goal.returns-clause-test
returns-clause-test c = λ keys resets terms K.
    let a = c.args in
    tested K a.p a.t.0 a.broken _ _ _ _ _ c.ready_plain.result c.closed_upward.ensures c.within.ensures
    c.all_fired.ensures (c.ready_plain.ensures.chart a.h _ _ _ refl K) c.is_none-rests.ensures
    c.moments_fit.ensures.test
