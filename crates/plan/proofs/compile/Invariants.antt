-- The parts are filled region by region, and in each its words one by one. Assumes nothing.
use Prim.Native.Nat.{◌+◌, ◌*◌, ◌≤◌}
use mathlib.Core.Path.{◌≡◌}
use lib.ListN.{length}
use Rattle.base.proofs.Filled.{Filled}
use Rattle.model.specs.Chart.{most_regions, most_terms}
use Rattle.plan.proofs.Shows.{words_of, Parts}
use Rattle.plan.proofs.compile.Given as goal

abbrev pub invariant-loop-i : goal.invariant-loop-i
invariant-loop-i l = (l.count ≤ most_regions) × (length l.keys ≡ most_regions) × (length l.resets ≡ most_regions)
    × (length l.terms ≡ most_regions * most_terms) × Parts l.c l.i l.plain l.hot l.keys l.resets l.terms

abbrev pub invariant-loop-j : goal.invariant-loop-j
invariant-loop-j l = (length l.terms ≡ most_regions * most_terms)
    × Filled 0 (words_of l.fn.accepted.chart) (l.i * most_terms + l.j) l.terms
