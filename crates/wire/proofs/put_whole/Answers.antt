-- `wire::put_whole` meets its contract: there is room for the whole text. Assumes nothing.
use Rattle.wire.proofs.Writing.{whole}
use Rattle.wire.proofs.put_whole.Goals as goal

pub returns-clause-buffer : goal.returns-clause-buffer
returns-clause-buffer c = whole c.if-out-text.false c.put_bytes.ensures
