-- The loop's invariant: what is skipped is of the set or fails, and i is the first number that is not skipped. Assumes
-- nothing.
use mathlib.Core.Path.{◌≡◌}
use mathlib.Core.Bool.{Bool}
use Prim.Native.Nat.{ℕ, ◌-◌, ◌<◌}
use Rattle.model.specs.Chart.{most_regions}
use Rattle.firing.proofs.Skips.{FirstGap, Skips}
use Rattle.firing.proofs.scan.first_outside.Given as goal

abbrev pub invariant-loop-i : goal.invariant-loop-i
invariant-loop-i g l = FirstGap l.skip l.i
    × ((t : ℕ → Bool) → ((i : ℕ) (b : Bool) → i < most_regions → goal.F-post g l.test i b → b ≡ t i)
    → Skips l.skipped t l.skip l.i)

abbrev pub decreases-loop-i : goal.decreases-loop-i
decreases-loop-i g l = most_regions - l.i
