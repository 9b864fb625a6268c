-- `witness_rounds::cases` carries the page. Assumes nothing.
use Rattle.witness_rounds.proofs.Instances.{each_case}
use Rattle.witness_rounds.proofs.cases.Goals as goal

pub returns : goal.returns
returns c = each_case
