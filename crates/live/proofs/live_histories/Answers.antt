-- `live::live_histories` meets its contract: the claims. Assumes nothing.
use Rattle.live.proofs.History.{live_claims}
use Rattle.live.proofs.live_histories.Goals as goal

pub returns : goal.returns
returns c = live_claims
