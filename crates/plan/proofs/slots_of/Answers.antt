-- One region more. Assumes nothing.
use mathlib.Core.Path.{◌≡◌}
use lib.ListN.{length-set}
use native.Mathlib.Omega.{arith}
use borrow.Author.Rules.{rules}
use Rattle.base.proofs.Filled.{unfilled}
use Rattle.plan.specs.Slots.{slot_count}
use Rattle.plan.proofs.Slots.{slotted_none, slotted_next}
use Rattle.plan.proofs.slots_of.Goals as goal

pub loop-i-init : goal.loop-i-init
loop-i-init c = (search rules, slotted_none (unfilled 0 slot_count))

pub loop-i-preserved : goal.loop-i-preserved
loop-i-preserved c =
    let I = c.loop-i.invariant in
    let k = c.slot_of-k in
    (simp length-set I.0, slotted_next I.1 k.result (omega arith) k.ensures.value c.insert.result c.insert.ensures)

pub returns : goal.returns
returns c = let e : c.loop-i.i ≡ c.args.plan.now.head.count = omega arith in rw e at c.loop-i.invariant.1
