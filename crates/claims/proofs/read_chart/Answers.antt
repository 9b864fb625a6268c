use Rattle.claims.proofs.Demand1.{reads_just}
use Rattle.claims.proofs.read_chart.Goals as goal

pub returns : goal.returns
returns c = record {
  demand = reads_just _ _ c.read.ensures.answer;
  unchanged = c.read.ensures.unchanged;
}
