use Rattle.log_clock.proofs.Times.{true_times}
use Rattle.log_clock.proofs.true_times.Goals as goal

pub returns : goal.returns
returns c = true_times
