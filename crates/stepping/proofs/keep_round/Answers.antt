-- By the opening and the tally. Assumes nothing.
use mathlib.Core.Path.{refl}
use Rattle.rounds.specs.Machine.{keep_round}
use Rattle.layout.specs.Plans.{chart_of_plan}
use Rattle.stepping.proofs.keep_round.Goals as goal

pub returns : goal.returns
unfolding keep_round
returns c = λ code. rw (c.counted_kept-tally.ensures, c.opening-place.ensures (chart_of_plan c.args.plan.now) refl)
