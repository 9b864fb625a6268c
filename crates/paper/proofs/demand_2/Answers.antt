-- `paper::demand_2` carries the theorem. Assumes nothing.
use Rattle.paper.proofs.Demand2.{demand_2}
use Rattle.paper.proofs.demand_2.Goals as goal

pub returns : goal.returns
returns c = demand_2
