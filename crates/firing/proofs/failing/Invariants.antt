-- The loop's invariant: every term so far holds, by the moments. Assumes nothing.
use mathlib.Core.Bool.{true}
use Prim.Native.Nat.{◌+◌, ◌*◌}
use lib.ListN.{get_or}
use Rattle.model.specs.Chart.{most_terms}
use Rattle.base.proofs.Loops.{SoFar}
use Rattle.firing.proofs.Terms.{held_at}
use Rattle.firing.proofs.failing.Given as goal

abbrev pub invariant-loop-j : goal.invariant-loop-j
invariant-loop-j l = SoFar (λ k. held_at (get_or l.plan.terms (l.i * most_terms + k) 0) l.t.0 l.resets) true l.j
