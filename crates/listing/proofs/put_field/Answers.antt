use native.Mathlib.Omega.{arith}
use Rattle.text.proofs.Laws.{decimal_short}
use Rattle.listing.proofs.put_field.Goals as goal

pub append_decimal-requires : goal.append_decimal-requires
append_decimal-requires c = (omega arith, omega (arith, c.requires, decimal_short c.args.n (omega arith)))
