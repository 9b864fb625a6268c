-- `live::standing_of` meets its contract: the tests in their order, then the verdict. Assumes nothing.
use Rattle.live.proofs.Standings.{stands_no_chart, stands_unfit, stands_fit}
use mathlib.Core.Path.{sym, ap, ◌∙◌}
use Rattle.model.specs.declared.Chart.{Chart}
use Rattle.chart_value.specs.WellFormed.{well_formed}
use Rattle.chart_value.specs.View.{chart_of}
use Rattle.verdict.specs.Parts.{verdict_by}
use Rattle.live.proofs.standing_of.Goals as goal

pub returns-in_default : goal.returns-in_default
returns-in_default c =
    stands_no_chart _ _ c.in_default.ensures

pub returns-then-not-is_fit : goal.returns-then-not-is_fit
returns-then-not-is_fit c =
    let formed = ap well_formed (sym c.in-Ok.ensures) ∙ c.in-Ok.accepted.accepted in
    let same = c.compile-plan.ensures.shows ∙ ap chart_of c.in-Ok.ensures in
    stands_unfit _ _ formed _ same _ c.is_fit.ensures.test c.if-not-is_fit.true

pub returns : goal.returns
returns c =
    let formed = ap well_formed (sym c.in-Ok.ensures) ∙ c.in-Ok.accepted.accepted in
    let same = c.compile-plan.ensures.shows ∙ ap chart_of c.in-Ok.ensures in
    let yes = c.if-not-is_fit.false in
    stands_fit _ _ formed _ same _ _ c.is_fit.ensures.test yes (c.is_fit.ensures.list.0 yes)
    (c.verdict_of.ensures ∙ ap (λ (x : Chart). verdict_by x c.args.m) c.in-Ok.ensures)
