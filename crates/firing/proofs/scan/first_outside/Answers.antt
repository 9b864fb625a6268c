-- The set of what is skipped grows by the number that failed. Assumes nothing.
use mathlib.Core.Path.{sym, ◌∙◌}
use native.Mathlib.Omega.{arith}
use Rattle.model.specs.Chart.{most_regions}
use Rattle.base.proofs.Loops.{none_passes, first_passes}
use Rattle.firing.proofs.Skips.{gap_of, run_less, skips_start, left, skips_more, none_before}
use Rattle.firing.proofs.scan.first_outside.Goals as goal

pub loop-i-init : goal.loop-i-init
loop-i-init g c =
    let E = c.run-i.ensures in
    let R = gap_of (E.members, (E.gap, E.few)) in
    (R, λ t h. skips_start R)

pub returns-then-test : goal.returns-then-test
returns-then-test g c = λ t h.
    let L = c.loop-i in
    let l = c.loop-i-test.true in
    let S = L.invariant.1 t h in
    sym (first_passes most_regions (none_before S)
    (left S (sym (h L.i c.test.result l c.test.ensures) ∙ c.if-test.true)) l)

pub loop-i-smaller : goal.loop-i-smaller
loop-i-smaller g c =
    let E = c.run-i-in-loop-i.ensures in
    run_less c.loop-i.invariant.0 c.insert-skip.ensures (gap_of (E.members, (E.gap, E.few))) c.loop-i-test.true

pub loop-i-preserved : goal.loop-i-preserved
loop-i-preserved g c =
    let L = c.loop-i in
    let E = c.run-i-in-loop-i.ensures in
    let R = gap_of (E.members, (E.gap, E.few)) in (
      R,
      λ t h. skips_more (L.invariant.1 t h) c.insert-skip.ensures
          (sym (h L.i c.test.result c.loop-i-test.true c.test.ensures) ∙ c.if-test.false) R,
    )

pub returns : goal.returns
returns g c = λ t h. sym (none_passes most_regions (none_before (c.loop-i.invariant.1 t h)) (omega arith))
