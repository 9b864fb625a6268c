-- The loop's invariant: from where it stands, steps 3 and 4 come to the same as from the start, the region at hand is
-- ready, and no reset moment is to come. The measure: the unfired regions. Assumes nothing.
use Prim.Native.Nat.{ℕ, ◌≤◌}
use Rattle.bitset.specs.Set.{contains}
use Rattle.rounds.specs.Machine.{unfired}
use Rattle.layout.specs.Plans.{chart_of_plan}
use Rattle.firing.specs.Places.{place_at, moments_of}
use Rattle.firing.proofs.Walk.{OnTheWay}
use Rattle.firing.proofs.take_region.Given as goal

abbrev pub invariant-loop-t : goal.invariant-loop-t
invariant-loop-t l = OnTheWay (chart_of_plan l.plan) l.t.0 (place_at l.initial.place) l.i (place_at l.place) l.region
    × ((x : ℕ) → moments_of l.place.resets x ≤ l.t.0)

abbrev pub decreases-loop-t : goal.decreases-loop-t
decreases-loop-t l = unfired (chart_of_plan l.plan) (contains l.place.fired)
