-- By the offer that decides. Assumes nothing.
use borrow.Author.Tests.{eq-eqb}
use Rattle.stepping.specs.Parts.{offered_by}
use Rattle.stepping.proofs.Scan.{time_quiet}
use Rattle.stepping.proofs.accept.Goals as goal

pub returns-then-code-eq0 : goal.returns-then-code-eq0
returns-then-code-eq0 c =
    rw (time_quiet c.args.plan.now c.args.m c.args.code c.args.t.0 (eq-eqb _ _ c.if-code-eq0.true))
    (c.go_on.ensures _ c.args.code)

pub take_region-s-requires-clause-ready : goal.take_region-s-requires-clause-ready
take_region-s-requires-clause-ready c = c.deciding_offer-offer.ensures.ready _ c.in-Ready.is

pub returns-in-Foreign : goal.returns-in-Foreign
unfolding offered_by
returns-in-Foreign c =
    rw (c.deciding_offer-offer.ensures.same, c.in-Foreign.is) (c.go_on-in-Foreign.ensures _ c.args.code)

pub returns-in-Unready : goal.returns-in-Unready
unfolding offered_by
returns-in-Unready c = rw (c.deciding_offer-offer.ensures.same, c.in-Unready.is) (c.unplaced.ensures c.args.code)

pub returns-in-Ready : goal.returns-in-Ready
unfolding offered_by
returns-in-Ready c =
    rw (c.deciding_offer-offer.ensures.same, c.in-Ready.is, ← c.take_region-s.ensures)
    (c.conclude.ensures c.args.code)
