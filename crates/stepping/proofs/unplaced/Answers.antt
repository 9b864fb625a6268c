-- By the phase; no condition decided. Assumes nothing.
use mathlib.Core.Path.{sym, ◌∙◌}
use Rattle.rounds.specs.Machine.{conclude, prechart_done}
use Rattle.stepping.proofs.unplaced.Goals as goal

pub returns-then-all_fired : goal.returns-then-all_fired
unfolding conclude prechart_done
returns-then-all_fired c = λ code.
    rw (sym c.all_fired.ensures ∙ c.if-all_fired.true, ← c.no_cause.ensures) (c.break_round.ensures _ code)

pub returns : goal.returns
unfolding conclude prechart_done
returns c = λ code.
    rw (sym c.all_fired.ensures ∙ c.if-all_fired.false, ← c.no_cause-2.ensures) (c.drop_round.ensures code)
