use lib.ListN.{get_or}
use mathlib.Core.Path.{◌≡◌}
use Rattle.order.specs.Order.{gathered}
use Rattle.order.proofs.Steps.gather.Given as goal

abbrev pub invariant-loop-a : goal.invariant-loop-a
invariant-loop-a l = l.set ≡ gathered (λ i. get_or l.self.lines i 0) l.self.prechart l.above l.a l.b
