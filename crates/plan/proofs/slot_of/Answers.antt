-- The highest of four bytes is below 256. Assumes nothing.
use mathlib.Core.Path.{refl}
use native.Mathlib.Omega.{arith}
use Rattle.plan.specs.Slots.{slot_of}
use Rattle.plan.proofs.slot_of.Goals as goal

pub returns : goal.returns
unfolding slot_of
returns c = record {
  value = refl;
  bound = omega arith;
}
