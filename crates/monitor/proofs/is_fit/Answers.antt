-- The test of the place and those of the tally. Assumes nothing.
use Rattle.layout.proofs.Plans.{compiled}
use Rattle.monitor.proofs.Fitness.{fit_test}
use Rattle.monitor.proofs.is_fit.Goals as goal

pub place_fits-placed-requires : goal.place_fits-placed-requires
place_fits-placed-requires c = (compiled c.args.plan.now).regions

pub returns : goal.returns
returns c =
    let K = compiled c.args.plan.now in
    let p = c.place_fits-placed.ensures in
    let r = fit_test K c.args.m p.places _ _ _ (p.test _ _ _ K) c.counts_fit.ensures c.break_fits-broken.ensures in
    record { test = r.0; list = r.1 }
