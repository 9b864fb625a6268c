use lib.Pow.{pow-lt}
use native.Mathlib.Nat.{one-mul, mod-eq_of_lt}
use Rattle.bitset.specs.Set.{inserted, single}
use Rattle.bitset.proofs.insert.Goals as goal

pub returns : goal.returns
unfolding inserted single
returns c = rw (one-mul, mod-eq_of_lt (pow-lt c.requires))
