use Rattle.verdict.proofs.verdict_of.Goals as goal

pub returns : goal.returns
returns c = rw c.standing.ensures
