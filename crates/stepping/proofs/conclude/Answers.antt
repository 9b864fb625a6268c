-- By how steps 3 and 4 ended. Assumes nothing.
use mathlib.Core.Path.{sym, ◌∙◌}
use Rattle.rounds.specs.Machine.{conclude, full, prechart_done}
use Rattle.layout.proofs.Plans.{prechart_few, compiled}
use Rattle.stepping.proofs.conclude.Goals as goal

pub returns-then-member : goal.returns-then-member
unfolding conclude
returns-then-member c = λ code.
    rw (c.in-Some.is, sym c.member.ensures ∙ c.if-member.true, ← c.cause_of-cause.ensures)
    (c.break_round.ensures _ code)

pub returns-in-Some : goal.returns-in-Some
unfolding conclude
returns-in-Some c = λ code.
    rw (c.in-Some.is, sym c.member.ensures ∙ c.if-member.false, ← c.cause_of-cause.ensures)
    (c.drop_round.ensures code)

pub all_fired-requires : goal.all_fired-requires
all_fired-requires c = (compiled c.args.plan.now).regions

pub returns-then-all_fired : goal.returns-then-all_fired
unfolding conclude full
returns-then-all_fired c = λ code.
    rw (c.in_default.is, sym c.all_fired.ensures ∙ c.if-all_fired.true) (c.keep_round.ensures code)

pub all_fired-before-requires : goal.all_fired-before-requires
all_fired-before-requires c = prechart_few c.args.plan.now

pub all_fired-after-requires : goal.all_fired-after-requires
all_fired-after-requires c = prechart_few c.args.plan.now

pub returns : goal.returns
unfolding conclude full prechart_done
returns c = λ code.
    rw (
      c.in_default.is,
      sym c.all_fired.ensures ∙ c.if-all_fired.false,
      ← c.all_fired-before.ensures,
      ← c.all_fired-after.ensures,
      ← c.entered_or_moved.ensures,
    )
    (c.go_on.ensures _ code)
