use Rattle.log_claims.proofs.Logs.{finds_just}
use Rattle.log_claims.proofs.read_record.Goals as goal

pub returns : goal.returns
returns c = record {
  demand = finds_just _ _ _ c.read_record.ensures.0;
  unchanged = c.read_record.ensures.1;
}
