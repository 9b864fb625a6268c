use native.Mathlib.Omega.{arith}
use Rattle.bitset.proofs.Laws.{contains_others}
use Rattle.bitset.proofs.others.Goals as goal

-- `bitset::others` meets its contract, by the digits of the complement. Assumes nothing.
pub returns : goal.returns
returns c = λ i l. contains_others 32 c.args.set i (omega arith) l
