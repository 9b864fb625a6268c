use Rattle.chart_faults.proofs.Reading.{faults}
use Rattle.chart_faults.proofs.faults.Goals as goal

pub returns : goal.returns
returns c = faults
