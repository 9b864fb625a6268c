-- By the tally. Assumes nothing.
use Rattle.rounds.specs.Machine.{go_on}
use Rattle.stepping.proofs.go_on.Goals as goal

pub returns : goal.returns
unfolding go_on
returns c = λ C code. rw c.counted-tally.ensures
