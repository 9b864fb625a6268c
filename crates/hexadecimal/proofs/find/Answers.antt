-- `hexadecimal::find` meets its contract: the place in the part, counted from where the part starts. Assumes nothing.
use Rattle.std.proofs.Common.{rules, tests, arith, ◌≡◌, ◌==◌, ◌-◌, take, drop, position}
use Rattle.std.proofs.lemmas.Grind.{common_steps}
use Rattle.std.proofs.lemmas.Iterator.{YieldsList-from_slice}
use Rattle.std.proofs.lemmas.Iterator.Search.{position_from_yields_List}
use Rattle.hexadecimal.proofs.Laws.{first_of_position, position-or_len}
use Rattle.hexadecimal.proofs.find.Goals as goal

pub returns-clause-offset : goal.returns-clause-offset
returns-clause-offset c =
    let a = c.args in
    let part = take (a.to - a.from) (drop a.from a.text.now) in
    let e : c.position.result ≡ position (λ b. b == a.byte) part
    = position_from_yields_List (λ b. b == a.byte) _ _ _ c.position.ensures.ran (YieldsList-from_slice part (search rules)) (λ x b q k. search (rules, tests)) in
    grind (arith, common_steps, e, first_of_position a.text.now a.from a.to a.byte (search rules) (search rules), position-or_len (λ b. b == a.byte) part)
