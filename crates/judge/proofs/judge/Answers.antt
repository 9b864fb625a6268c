-- `judge::judge` meets its contract: the check from where the pass stopped gives what the whole gives. Assumes nothing.
use mathlib.Core.Path.{refl, sym, ap, ◌∙◌}
use Rattle.chart_value.specs.WellFormed.{well_formed}
use Rattle.chart_value.proofs.Exact.{exact_test}
use Rattle.judge.proofs.Judging.{judged_no_chart, judged_refused, judged_fine}
use Rattle.judge.proofs.judge.Goals as goal

pub returns-in_default-clause-verdict : goal.returns-in_default-clause-verdict
returns-in_default-clause-verdict c =
    judged_no_chart _ _ _ c.in_default.ensures c.refused.ensures

pub returns-in-Err-clause-verdict : goal.returns-in-Err-clause-verdict
returns-in-Err-clause-verdict c =
    judged_refused _ _ _ _ _ (ap well_formed (sym c.in-Ok.ensures) ∙ c.in-Ok.accepted.accepted)
    (sym c.pass-passed.ensures.rest ∙ sym c.check_rest-rest.ensures.rest ∙ c.in-Err.is) c.into.ensures
    c.refused-in-Err.ensures

pub returns-in-Ok-rest-clause-verdict : goal.returns-in-Ok-rest-clause-verdict
returns-in-Ok-rest-clause-verdict c =
    let e = c.in-Ok.ensures in
    let yes = ap well_formed (sym e) ∙ c.in-Ok.accepted.accepted in
    judged_fine _ c.args.log.now _ _ _ yes ((exact_test c.args.chart _ c.well_formed.0 _ refl).1.0 yes)
    (sym c.pass-passed.ensures.rest ∙ sym c.check_rest-rest.ensures.rest ∙ c.in-Ok-rest.is)
    (rw e at c.pass-passed.ensures.end) (rw e at c.verdict_of.ensures)
