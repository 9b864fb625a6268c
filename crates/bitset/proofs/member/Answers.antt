use mathlib.Core.Path.{refl}
use Rattle.bitset.specs.Set.{contains}
use Rattle.bitset.proofs.member.Goals as goal

pub returns : goal.returns
unfolding contains
returns c = refl
