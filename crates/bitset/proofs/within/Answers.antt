use borrow.Author.Tests.{lt-ltb, le-leb}
use native.Mathlib.Nat.{one-mul, mod-eq_of_lt, lt_of_lt_of_le}
use lib.Pow.{pow-lt, pow_mono}
use Rattle.bitset.specs.Set.{within}
use Rattle.bitset.proofs.within.Goals as goal

pub returns-then-n-ge32 : goal.returns-then-n-ge32
unfolding within
returns-then-n-ge32 c =
    rw (le-leb _ _ c.if-n-ge32.true, lt-ltb _ _ (lt_of_lt_of_le c.ranges.set.fits (pow_mono c.if-n-ge32.true)))

pub returns-else-n-ge32 : goal.returns-else-n-ge32
unfolding within
returns-else-n-ge32 c = rw (one-mul, mod-eq_of_lt (pow-lt c.if-n-ge32.false))
