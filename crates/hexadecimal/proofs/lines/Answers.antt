-- `hexadecimal::lines` meets its contract: there are no more lines than bytes. Assumes nothing.
use Rattle.hexadecimal.proofs.Laws.{length-lines_of-le}
use Rattle.hexadecimal.proofs.lines.Goals as goal

pub returns-clause-count : goal.returns-clause-count
returns-clause-count c = length-lines_of-le c.args.text.now
