use lib.ListN.{get_or}
use mathlib.Core.Path.{◌≡◌}
use Rattle.order.specs.Order.{above_sets}
use Rattle.order.proofs.Steps.sets.Given as goal

abbrev pub invariant-loop-b : goal.invariant-loop-b
invariant-loop-b l = l.above ≡ above_sets (λ i. get_or l.self.lines i 0) l.self.prechart l.b
