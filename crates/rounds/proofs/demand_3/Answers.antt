-- `rounds::demand_3` carries the theorem. Assumes nothing.
use Rattle.rounds.proofs.Demand3.{demand_3}
use Rattle.rounds.proofs.demand_3.Goals as goal

pub returns : goal.returns
returns c = demand_3
