use mathlib.Core.Path.{refl}
use Rattle.bitset.specs.Set.{is_subset}
use Rattle.bitset.proofs.subset.Goals as goal

pub returns : goal.returns
unfolding is_subset
returns c = refl
