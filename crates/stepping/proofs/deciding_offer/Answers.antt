-- By what the scan finds. Assumes nothing.
use mathlib.Core.Path.{sym, ◌∙◌}
use borrow.Author.Tests.{ne_eqb}
use Rattle.stepping.proofs.Scan.{sought_unready, first_offer}
use Rattle.stepping.proofs.deciding_offer.Goals as goal

pub returns-in-Unready : goal.returns-in-Unready
returns-in-Unready c =
    let a = c.args in
    let U = sought_unready a.plan.now a.m a.code a.t.0 (ne_eqb _ _ c.requires.code_nonzero)
    (sym (c.seek-sought.ensures _ c.requires.covers) ∙ c.in-Unready.is) in
    c.offer_again.ensures U.0 U.1

pub returns-in-Ready : goal.returns-in-Ready
returns-in-Ready c =
    let a = c.args in
    first_offer a.plan.now a.m a.code a.t.0 (ne_eqb _ _ c.requires.code_nonzero) c.in-Ready.is
    (sym (c.seek-sought.ensures _ c.requires.covers)) c.requires.offerable
