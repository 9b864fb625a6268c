-- Region after region. Assumes nothing.
use mathlib.Core.Path.{refl, sym, ap, ◌∙◌}
use native.Mathlib.Omega.{arith}
use Rattle.rounds.specs.Rows.{values}
use Rattle.rounds.specs.Machine.{fire}
use Rattle.layout.proofs.Plans.{compiled}
use Rattle.firing.specs.Parts.{found_of}
use Rattle.firing.proofs.Fires.{fired_early}
use Rattle.firing.proofs.Walk.{way_starts, way_fails, way_less, way_rests, way_on}
use Rattle.firing.proofs.take_region.Goals as goal

pub loop-t-init : goal.loop-t-init
loop-t-init c = (way_starts c.requires.ready, c.requires.by_index)

pub returns-then-term-ne0 : goal.returns-then-term-ne0
unfolding values
returns-then-term-ne0 c = way_fails c.loop-t.invariant.0 c.failing-term.ensures c.if-term-ne0.true

pub fire-place-requires : goal.fire-place-requires
fire-place-requires c = omega (arith, (compiled c.args.plan.now).regions, c.loop-t.invariant.0.ready.region)

pub returns-in_default : goal.returns-in_default
unfolding values fire
returns-in_default c =
    let p = c.args.plan.now in
    let r = c.ready_plain.ensures.chart p.head _ _ _ refl (compiled p) in
    way_rests c.loop-t.invariant.0 c.failing-term.ensures c.if-term-ne0.false c.fire-place.ensures
    (sym r ∙ ap found_of c.in_default.is)

pub loop-t-smaller : goal.loop-t-smaller
unfolding values fire
loop-t-smaller c = way_less c.loop-t.invariant.0 c.failing-term.ensures c.if-term-ne0.false c.fire-place.ensures

pub loop-t-preserved : goal.loop-t-preserved
unfolding values fire
loop-t-preserved c =
    let W = c.loop-t in
    let p = c.args.plan.now in
    let r = c.ready_plain.ensures.chart p.head _ _ _ refl (compiled p) in (
      way_on W.invariant.0 c.failing-term.ensures c.if-term-ne0.false c.fire-place.ensures
          (compiled p).accepted (sym r ∙ ap found_of c.in-Some.is),
      fired_early p.resets _ W.place c.fire-place.result W.region c.fire-place.ensures W.invariant.1,
    )
