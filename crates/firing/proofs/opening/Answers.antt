-- The clocks below the number of clocks, reset. Assumes nothing.
use mathlib.Core.Path.{sym, ◌∙◌}
use native.Mathlib.Omega.{arith}
use borrow.Author.Tests.{ltb-true}
use Rattle.bitset.proofs.Laws.{contains_below}
use Rattle.firing.proofs.Fires.{opens}
use Rattle.firing.proofs.opening.Goals as goal

pub reset_clocks-resets-requires : goal.reset_clocks-resets-requires
reset_clocks-resets-requires c = λ x s.
    let n = c.args.clocks in
    omega (arith, ltb-true x n (sym (contains_below n x) ∙ (rw c.below.ensures at s)))

pub returns : goal.returns
returns c = λ C q.
    let r = rw c.below.ensures at c.reset_clocks-resets.ensures in
    opens C c.args.t.0 c.reset_clocks-resets.result q r
