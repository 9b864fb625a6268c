use Rattle.std.proofs.Common.{arith}
use Rattle.std.proofs.lemmas.Grind.{common_steps}
use Rattle.monitor.specs.Fit.{counts_fit}
use Rattle.monitor.proofs.counts_fit.Goals as goal

pub returns : goal.returns
unfolding counts_fit
returns c = grind (arith, common_steps)
