-- `chart_value::well_formed` meets its contract: the regions tested so far are placed, the lines gathered are those
-- touched before. Assumes nothing.
use mathlib.Core.Path.{◌≡◌}
use Rattle.base.proofs.Loops.{AllSoFar}
use Rattle.chart_value.specs.WellFormed.{placed_at, touched_before}
use Rattle.chart_value.proofs.well_formed.Given as goal

abbrev pub invariant-loop-i : goal.invariant-loop-i
invariant-loop-i l = (l.before ≡ touched_before l.fn.c.regions l.i) × AllSoFar (placed_at l.fn.c) l.i l.ok
