use mathlib.Core.Path.{refl}
use Rattle.bitset.specs.Set.{union}
use Rattle.bitset.proofs.join.Goals as goal

pub returns : goal.returns
unfolding union
returns c = refl
