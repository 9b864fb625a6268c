-- `preview::preview` meets its contract: the tests in their order, then the bytes of the regions. Assumes nothing.
use mathlib.Core.Path.{refl, sym, ap, ◌∙◌}
use Rattle.std.specs.Prelude.{Ok, Err}
use Rattle.std.proofs.lemmas.Result.{err_from_is_err_and}
use Rattle.chart_value.specs.WellFormed.{well_formed}
use Rattle.chart_value.specs.View.{chart_of}
use Rattle.preview.specs.declared.PreviewRefusal.TheVariants.{Feed}
use Rattle.preview.specs.Preview.{shown_if}
use Rattle.preview.proofs.Laws.{no_chart, not_fit_lem, too_short_case, untimely, shows}
use Rattle.preview.proofs.preview.Goals as goal

pub returns-in_default : goal.returns-in_default
returns-in_default c =
    let r = no_chart _ _ _ _ c.in_default.ensures in
    record { answer = r.0; buffer = r.1 }

pub returns-then-not-is_fit : goal.returns-then-not-is_fit
returns-then-not-is_fit c =
    let w = ap well_formed (sym c.in-Ok.ensures) ∙ c.in-Ok.accepted.accepted in
    let same = c.compile-plan.ensures.shows ∙ ap chart_of c.in-Ok.ensures in
    let r = not_fit_lem _ _ _ _ w _ same (sym c.is_fit.ensures.test ∙ c.if-not-is_fit.true) in
    record { answer = r.0; buffer = r.1 }

pub returns-then-out-plan : goal.returns-then-out-plan
returns-then-out-plan c =
    let w = ap well_formed (sym c.in-Ok.ensures) ∙ c.in-Ok.accepted.accepted in
    let same = c.compile-plan.ensures.shows ∙ ap chart_of c.in-Ok.ensures in
    let r = too_short_case _ _ _ _ w _ same
    (sym c.is_fit.ensures.test ∙ c.if-not-is_fit.false) c.if-out-plan.true in
    record { answer = r.0; buffer = r.1 }

pub returns-in_err-timely_answer : goal.returns-in_err-timely_answer
returns-in_err-timely_answer c =
    let w = ap well_formed (sym c.in-Ok.ensures) ∙ c.in-Ok.accepted.accepted in
    let same = c.compile-plan.ensures.shows ∙ ap chart_of c.in-Ok.ensures in
    let p = err_from_is_err_and c.from_residual.result c.from_residual.ensures.1 in
    let r = untimely _ _ _ _ w _ same (sym c.is_fit.ensures.test ∙ c.if-not-is_fit.false)
    c.if-out-plan.false (Err (Feed c.in_err-timely_answer.field-0.0)) (ap shown_if c.in_err-timely_answer.ensures) refl in
    record { answer = rw (p.1, p.2) r.0; buffer = r.1 }

pub returns : goal.returns
returns c =
    let w = ap well_formed (sym c.in-Ok.ensures) ∙ c.in-Ok.accepted.accepted in
    let same = c.compile-plan.ensures.shows ∙ ap chart_of c.in-Ok.ensures in
    let r = shows _ _ _ _ w _ same (sym c.is_fit.ensures.test ∙ c.if-not-is_fit.false)
    c.if-out-plan.false (Ok tt) (ap shown_if c.in_ok-timely_answer.ensures) refl _ c.put_foreseen.ensures in
    record { answer = r.0; buffer = r.1 }
