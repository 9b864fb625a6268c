-- `hexadecimal::split_before` meets its contract: its place is the first in the whole text. Assumes nothing.
use Rattle.std.proofs.Common.{ap, ◌∙◌, take, drop, ℕ}
use Rattle.hexadecimal.proofs.Laws.{first_of_all}
use Rattle.hexadecimal.proofs.split_before.Goals as goal

pub returns-clause-before : goal.returns-clause-before
returns-clause-before c =
    let a = c.args in
    c.split_at.ensures.front ∙ ap (λ (n : ℕ). take n a.text.now) (c.find.ensures.offset ∙ first_of_all a.text.now a.byte)

pub returns-clause-from : goal.returns-clause-from
returns-clause-from c =
    let a = c.args in
    c.split_at.ensures.back ∙ ap (λ (n : ℕ). drop n a.text.now) (c.find.ensures.offset ∙ first_of_all a.text.now a.byte)
