use borrow.Author.Tests.{lt-ltb, le-ltb}
use Rattle.chart_value.specs.WellFormed.{term_placed}
use Rattle.chart_value.proofs.Equal.{term_test}
use Rattle.chart_value.proofs.term_placed.Goals as goal

pub returns-then-j-count : goal.returns-then-j-count
unfolding term_placed
returns-then-j-count c = rw (c.left_fits.ensures, lt-ltb _ _ c.if-j-count.true)

pub returns-else-j-count : goal.returns-else-j-count
unfolding term_placed
returns-else-j-count c =
    rw (le-ltb _ _ c.if-j-count.false) (term_test c.args.t _ _ c.zero_term.ensures c.eq.ensures)
