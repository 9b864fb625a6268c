use native.Mathlib.Omega.{arith}
use Rattle.bitset.proofs.Laws.{trailing_members, trailing_gap, trailing_few}
use Rattle.bitset.proofs.run.Goals as goal

pub returns : goal.returns
returns c =
    let e = c.from.ensures in record {
      members = λ i l. rw (← e) (trailing_members 64 c.from.result i l);
      gap = rw (← e) (trailing_gap 64 c.from.result (omega arith));
      few = trailing_few 32 64 c.from.result (omega arith);
    }
