-- A ready region, or whether some region has the message. Assumes nothing.
use mathlib.Core.Path.{sym, ap, ◌∙◌}
use Rattle.firing.specs.Parts.{found_of}
use Rattle.firing.specs.Parts.{sought_by}
use Rattle.firing.proofs.seek.Goals as goal

pub returns-in-Some : goal.returns-in-Some
unfolding sought_by
returns-in-Some c = λ n W. rw (sym (c.ready_for.ensures n W) ∙ ap found_of c.in-Some.is)

pub returns-then-is_known : goal.returns-then-is_known
unfolding sought_by
returns-then-is_known c = λ n W.
    rw (
      sym (c.ready_for.ensures n W) ∙ ap found_of c.in_default.is,
      sym (c.is_known.ensures n W) ∙ c.if-is_known.true,
    )

pub returns : goal.returns
unfolding sought_by
returns c = λ n W.
    rw (
      sym (c.ready_for.ensures n W) ∙ ap found_of c.in_default.is,
      sym (c.is_known.ensures n W) ∙ c.if-is_known.false,
    )
