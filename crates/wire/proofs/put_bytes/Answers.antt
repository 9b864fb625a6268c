-- `wire::put_bytes` meets its contract: the text in the middle, every other byte as it was. Assumes nothing.
use Rattle.wire.proofs.Writing.{in_middle}
use Rattle.wire.proofs.put_bytes.Goals as goal

pub returns : goal.returns
returns c = in_middle c.requires c.copy_from_slice.ensures.after
