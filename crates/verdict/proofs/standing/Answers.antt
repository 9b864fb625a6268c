-- `verdict::standing` meets its contract: the tests in their order. Assumes nothing.
use borrow.Author.Tests.{eq-eqb, ne_eqb}
use Rattle.verdict.specs.Parts.{standing_by}
use Rattle.verdict.proofs.Stands.{limits}
use Rattle.verdict.proofs.standing.Goals as goal

pub returns-then-m-ne0 : goal.returns-then-m-ne0
unfolding standing_by
returns-then-m-ne0 c = rw (ne_eqb _ _ c.if-m-ne0.true)

pub returns-then-place-eq0 : goal.returns-then-place-eq0
unfolding standing_by
returns-then-place-eq0 c = rw (eq-eqb _ _ c.if-m-ne0.false, eq-eqb _ _ c.if-place-eq0.true)

pub all_fired-requires : goal.all_fired-requires
all_fired-requires c = (limits _ c.args.accepted.now.accepted).prechart

pub returns-then-not-all_fired : goal.returns-then-not-all_fired
unfolding standing_by
returns-then-not-all_fired c =
    rw (
      eq-eqb _ _ c.if-m-ne0.false,
      ne_eqb _ _ c.if-place-eq0.false,
      ← c.all_fired.ensures,
      c.if-not-all_fired.true,
    )

pub rests-requires : goal.rests-requires
rests-requires c = let l = limits _ c.args.accepted.now.accepted in (l.lines, l.halves, l.regions)

pub returns-then-rests : goal.returns-then-rests
unfolding standing_by
returns-then-rests c =
    rw (
      eq-eqb _ _ c.if-m-ne0.false,
      ne_eqb _ _ c.if-place-eq0.false,
      ← c.all_fired.ensures,
      c.if-not-all_fired.false,
      ← c.rests.ensures.test,
      c.if-rests.true,
    )

pub returns : goal.returns
unfolding standing_by
returns c =
    rw (
      eq-eqb _ _ c.if-m-ne0.false,
      ne_eqb _ _ c.if-place-eq0.false,
      ← c.all_fired.ensures,
      c.if-not-all_fired.false,
      ← c.rests.ensures.test,
      c.if-rests.false,
    )
