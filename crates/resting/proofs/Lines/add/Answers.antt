-- `Lines::add` meets its contract: by whether the region is fired, then by its mark. Assumes nothing.
use Rattle.resting.proofs.Laws.{unfired, fired_cold, fired_hot}
use Rattle.resting.proofs.Lines.add.Goals as goal

pub returns-then-not-fired : goal.returns-then-not-fired
returns-then-not-fired c = unfired _ _ _ _ _ c.if-not-fired.true c.join-self.ensures

pub returns-then-rest : goal.returns-then-rest
returns-then-rest c =
    fired_cold _ _ _ _ c.if-not-fired.false _ c.if-rest.true c.join-self-then-rest.ensures

pub returns-else-rest : goal.returns-else-rest
returns-else-rest c = fired_hot _ _ _ _ c.if-not-fired.false _ c.if-rest.false c.others.ensures
