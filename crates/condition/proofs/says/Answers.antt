-- The rule of the whole table stands in Table. Assumes nothing.
use Rattle.condition.proofs.Table.{table_rule}
use Rattle.condition.proofs.says.Goals as goal

pub returns-clause-rule : goal.returns-clause-rule
returns-clause-rule c = table_rule
