-- `resting::lines_of` meets its contract: before i the sets are those of the regions below i. Assumes nothing.
use Rattle.bitset.specs.Set.{contains}
use Rattle.resting.specs.Lines.{LinesBelow}
use Rattle.resting.proofs.lines_of.Given as goal

abbrev pub invariant-loop-i : goal.invariant-loop-i
invariant-loop-i l = LinesBelow l.c (contains l.fired) l.i l.l
