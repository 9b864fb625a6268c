-- `breaks::breaks` meets its contract: yes by the monitor of the pass, else by the check from where it stopped. Assumes
-- nothing.
use mathlib.Core.Path.{sym, ap, ◌∙◌}
use Rattle.std.specs.Prelude.{Err}
use Rattle.std.proofs.lemmas.Result.{err_from_is_err_and}
use Rattle.breaks.proofs.Asking.{no_chart, yes, no_break_case}
use Rattle.breaks.proofs.breaks.Goals as goal

pub returns-in_default-clause-answer : goal.returns-in_default-clause-answer
returns-in_default-clause-answer c =
    no_chart _ _ c.in_default.ensures

pub returns-then-m-ne0-clause-answer : goal.returns-then-m-ne0-clause-answer
returns-then-m-ne0-clause-answer c =
    let p = c.pass-passed in
    rw c.in-Ok.ensures at
    (yes _ c.args.log.now p.result.monitor c.in-Ok.accepted.accepted p.ensures.end c.if-m-ne0.true)

pub returns-in_err-check_rest-clause-answer : goal.returns-in_err-check_rest-clause-answer
returns-in_err-check_rest-clause-answer c =
    let p = c.pass-passed in
    let e = err_from_is_err_and c.from_residual.result c.from_residual.ensures.1 in
    e.1 ∙ ap Err e.2
    ∙ (rw c.in-Ok.ensures at
    (no_break_case _ c.args.log.now p.result.monitor c.in-Ok.accepted.accepted p.ensures.end c.if-m-ne0.false _
    (sym p.ensures.rest ∙ sym c.check_rest.ensures.rest ∙ c.in_err-check_rest.was)))

pub returns-clause-answer : goal.returns-clause-answer
returns-clause-answer c =
    let p = c.pass-passed in
    rw c.in-Ok.ensures at
    (no_break_case _ c.args.log.now p.result.monitor c.in-Ok.accepted.accepted p.ensures.end c.if-m-ne0.false _
    (sym p.ensures.rest ∙ sym c.check_rest.ensures.rest ∙ c.in_ok-check_rest.was))
