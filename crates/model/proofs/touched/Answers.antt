use lib.Bits.{bit_or}
use Rattle.bitset.specs.Set.{union}
use Rattle.model.proofs.Lines.{touches_of}
use Rattle.model.proofs.touched.Goals as goal

pub returns-in-Message : goal.returns-in-Message
unfolding union
returns-in-Message c =
    let r = touches_of c.args.e
    (bit_or c.line_set.result c.line_set-in-Message.result)
    (rw (c.in-Message.is, c.line_set-in-Message.ensures, c.line_set.ensures)) in record {
      set = r.0;
      members = r.1;
    }

pub returns-in-Plain : goal.returns-in-Plain
returns-in-Plain c =
    let r = touches_of c.args.e c.in-Plain.l (rw c.in-Plain.is) in record {
      set = r.0;
      members = r.1;
    }
