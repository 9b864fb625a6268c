-- By the opening. Assumes nothing.
use mathlib.Core.Path.{refl}
use native.Mathlib.Numerals.{add-one}
use Rattle.rounds.specs.Machine.{reopened}
use Rattle.layout.specs.Plans.{chart_of_plan}
use Rattle.stepping.proofs.reopened.Goals as goal

pub returns : goal.returns
unfolding reopened
returns c = λ code. rw (c.opening-place.ensures (chart_of_plan c.args.plan.now) refl, add-one)
