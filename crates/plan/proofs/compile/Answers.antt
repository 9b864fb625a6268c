-- That the chart is accepted, by its well-formedness. Assumes nothing.
use mathlib.Core.Path.{◌≡◌}
use lib.ListN.{length-set}
use Prim.Native.Nat.{◌+◌, ◌*◌}
use native.Mathlib.Omega.{arith}
use Rattle.std.proofs.Common.{add-zero}
use borrow.Author.Rules.{rules}
use Rattle.chart_value.proofs.Facts.{wf_of}
use Rattle.chart_value.proofs.Shown.{accepted}
use Rattle.plan.proofs.Shows.{parts_none, parts_next, word_next, shows, compiled}
use Rattle.plan.proofs.compile.Goals as goal

pub loop-i-init : goal.loop-i-init
loop-i-init c =
    let w = wf_of c.args.accepted.now.chart c.args.accepted.now.accepted in
    (rw c.from-count.ensures w.room, search rules, search rules, search rules, parts_none)

pub loop-j-init : goal.loop-j-init
loop-j-init c = let I = c.loop-i.invariant in (I.3, rw add-zero I.4.word_at_lem)

pub loop-j-preserved : goal.loop-j-preserved
loop-j-preserved c =
    let I = c.loop-j.invariant in (
      simp length-set I.0,
      word_next c.args.accepted.now.chart c.loop-i.i c.loop-j.j c.word_at.result c.loop-j-test.true
          I.1 (omega arith) c.word_at.ensures,
    )

pub loop-i-preserved : goal.loop-i-preserved
loop-i-preserved c =
    let I = c.loop-i.invariant in (
      I.0,
      simp length-set I.1,
      simp length-set I.2,
      c.loop-j.invariant.0,
      parts_next I.4 c.insert_if-plain.result c.insert_if-hot.result c.key_of.result c.from.result
          (c.loop-i.i * 4 + c.loop-j.j) (omega arith) (omega arith)
          (rw c.is_plain.ensures at c.insert_if-plain.ensures)
          c.insert_if-hot.ensures c.key_of.ensures c.from.ensures (omega arith) c.loop-j.invariant.1,
    )

pub invariant_of-result : goal.invariant_of-result
invariant_of-result c =
    let e : c.loop-i.i ≡ c.args.accepted.now.chart.count = omega (arith, c.from-count.ensures) in
    let w = wf_of c.args.accepted.now.chart c.args.accepted.now.accepted in
    record {
      compiled = ∣ compiled c.args.accepted.now.chart w (accepted c.args.accepted.now.chart w)
          (c.from-count.ensures, c.from-2.ensures, c.from-3.ensures) c.above_sets.ensures.sets
          (rw e at c.loop-i.invariant.4) ∣₁;
    }

pub returns : goal.returns
returns c =
    let e : c.loop-i.i ≡ c.args.accepted.now.chart.count = omega (arith, c.from-count.ensures) in
    let w = wf_of c.args.accepted.now.chart c.args.accepted.now.accepted in
    let A = accepted c.args.accepted.now.chart w in
    let P = rw e at c.loop-i.invariant.4 in record {
      shows = shows c.args.accepted.now.chart w A (c.from-count.ensures, c.from-2.ensures, c.from-3.ensures)
          c.above_sets.ensures.sets P;
      compiled = compiled c.args.accepted.now.chart w A (c.from-count.ensures, c.from-2.ensures, c.from-3.ensures)
          c.above_sets.ensures.sets P;
    }
