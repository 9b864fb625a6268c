use borrow.Author.Tests.{lt-ltb, le-ltb}
use native.Mathlib.Nat.{one-mul, mod-eq_of_lt}
use lib.Pow.{pow-lt}
use Rattle.bitset.specs.Set.{single}
use Rattle.model.proofs.line_set.Goals as goal

pub returns-then-i-lt-MOST_LINES : goal.returns-then-i-lt-MOST_LINES
unfolding single
returns-then-i-lt-MOST_LINES c = rw (lt-ltb _ _ c.if-i-lt-MOST_LINES.true, one-mul, mod-eq_of_lt (pow-lt c.if-i-lt-MOST_LINES.true))

pub returns-else-i-lt-MOST_LINES : goal.returns-else-i-lt-MOST_LINES
returns-else-i-lt-MOST_LINES c = rw (le-ltb _ _ c.if-i-lt-MOST_LINES.false)
