-- The array is filled from the front.
use Prim.Native.Nat.{ℕ, ◌<◌}
use mathlib.Core.Path.{◌≡◌}
use lib.ListN.{length, get_or}
use Rattle.model.specs.Chart.{most_regions, touched_at}
use Rattle.order.proofs.lines_of.Given as goal

abbrev pub invariant-loop-i : goal.invariant-loop-i
invariant-loop-i l = (length l.lines ≡ most_regions) × ((k : ℕ) → k < l.i → get_or l.lines k 0 ≡ touched_at l.fn.c k)
