-- The page, by the proof of its lines. Assumes nothing.
use Rattle.witnesses.proofs.Computed.{formats_hold}
use Rattle.witnesses.proofs.formats.Goals as goal

pub returns : goal.returns
returns c = formats_hold
