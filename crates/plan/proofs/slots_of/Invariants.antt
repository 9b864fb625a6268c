-- The loop's invariant: the slots have the regions so far. Assumes nothing.
use mathlib.Core.Path.{◌≡◌}
use lib.ListN.{length}
use Rattle.plan.specs.Slots.{slot_count, Slotted}
use Rattle.plan.proofs.slots_of.Given as goal

abbrev pub invariant-loop-i : goal.invariant-loop-i
invariant-loop-i l = (length l.slots ≡ slot_count) × Slotted l.i l.plan.keys l.slots
