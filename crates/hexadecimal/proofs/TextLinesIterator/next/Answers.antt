-- `next` of the lines meets its contract: the first line, and those behind its line feed. Assumes nothing.
use Rattle.std.proofs.Common.{rules, arith, ◌≡◌, drop}
use Rattle.std.proofs.lemmas.Grind.{common_steps}
use Rattle.hexadecimal.proofs.Laws.{lines_of_next}
use Rattle.hexadecimal.proofs.TextLinesIterator.next.Goals as goal

pub returns-clause-steps : goal.returns-clause-steps
returns-clause-steps c =
    let p = c.split_before in
    let behind : c.unwrap_or-self.result.now ≡ drop 1 p.result.1.now = grind (arith, common_steps) in
    lines_of_next c.args.self.now.0.now _ _ _ (search rules) p.ensures.before p.ensures.from behind

pub returns-clause-goes : goal.returns-clause-goes
returns-clause-goes c =
    let p = c.split_before in
    let behind : c.unwrap_or-self.result.now ≡ drop 1 p.result.1.now = grind (arith, common_steps) in
    grind (arith, common_steps, lines_of_next c.args.self.now.0.now _ _ _ (search rules) p.ensures.before p.ensures.from behind)
