use Rattle.chart_value.proofs.Guards.{never_fire}
use Rattle.chart_value.proofs.reader_guards.Goals as goal

pub returns : goal.returns
returns c = never_fire
