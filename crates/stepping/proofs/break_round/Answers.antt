-- By the tally, whose break the answer has. Assumes nothing.
use mathlib.Core.Path.{ap}
use Rattle.rounds.specs.Tally.{Tally}
use Rattle.rounds.specs.Machine.{break_round}
use Rattle.stepping.proofs.break_round.Goals as goal

pub returns : goal.returns
unfolding break_round
returns c = λ C code. let e = c.counted_broken-tally.ensures in rw (e, ap (λ (x : Tally). x.broken.at) e)
