-- By the phase, and by what is found at the opening. Assumes nothing.
use mathlib.Core.Path.{sym, ap, ◌∙◌}
use mathlib.Core.Logic.{inl, inr}
use lib.Dec.{eqb}
use borrow.Author.Tests.{eqb-true}
use Rattle.base.proofs.Bools.{either, neither}
use Rattle.rounds.specs.Machine.{prechart_done}
use Rattle.layout.specs.Plans.{chart_of_plan}
use Rattle.layout.proofs.Plans.{compiled}
use Rattle.firing.specs.Parts.{found_of}
use Rattle.stepping.specs.Monitors.{record_of}
use Rattle.stepping.proofs.Scan.{opening_none, ready_opening}
use Rattle.stepping.proofs.Again.{not_again, again_decides}
use Rattle.stepping.proofs.offer_again.Goals as goal

pub returns-then-all_fired-m : goal.returns-then-all_fired-m
unfolding prechart_done
returns-then-all_fired-m c = λ chart unready.
    let e = record_of c.args.code c.args.t.0 in
    not_again _ (compiled c.args.plan.now).accepted c.args.m e chart unready c.requires.offerable
    (elim (either c.all_fired.result (eqb c.args.m.place.fired 0) c.if-all_fired-m.true) [
      | inl d ↦ inl (sym c.all_fired.ensures ∙ d)
      | inr z ↦ inr (opening_none _ e c.args.m.place.fired (eqb-true _ _ z) unready)
    ])

pub returns-in_default : goal.returns-in_default
returns-in_default c = λ chart unready.
    let a = c.args in
    not_again _ (compiled a.plan.now).accepted a.m (record_of a.code a.t.0) chart unready c.requires.offerable
    (inr (ready_opening a.plan.now a.m a.code a.t.0
    (c.ready_for.ensures _ c.requires.covers) ∙ ap found_of c.in_default.is))

pub returns : goal.returns
unfolding prechart_done
returns c = λ chart unready.
    let a = c.args in
    again_decides (chart_of_plan a.plan.now) (compiled a.plan.now).accepted a.m (record_of a.code a.t.0) chart unready
    c.requires.offerable
    (sym c.all_fired.ensures ∙ (neither _ _ c.if-all_fired-m.false).0)
    _
    (ready_opening a.plan.now a.m a.code a.t.0
    (c.ready_for.ensures _ c.requires.covers) ∙ ap found_of c.in-Some.is)
    c.reopened.result (c.reopened.ensures a.code)
