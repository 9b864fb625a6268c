-- `resting::rests` meets its contract: each line is asked once. Assumes nothing.
use mathlib.Core.Bool.{not, ◌||◌}
use Rattle.bitset.specs.Set.{contains}
use Rattle.base.proofs.Loops.{AllSoFar}
use Rattle.resting.proofs.rests.Given as goal

abbrev pub invariant-loop-k : goal.invariant-loop-k
invariant-loop-k l = AllSoFar (λ j. not (contains l.l.counting j) || contains l.l.cold j) l.k l.ok
