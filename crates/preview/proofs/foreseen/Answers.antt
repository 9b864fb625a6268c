-- `preview::foreseen` meets its contract: 0 for a plain region, else the number of its answer. Assumes nothing.
use mathlib.Core.Path.{ap, ◌∙◌}
use native.Mathlib.Omega.{arith}
use Rattle.rounds.specs.Machine as machine
use Rattle.preview.proofs.Laws.{shown_plain, shown_message}
use Rattle.preview.proofs.foreseen.Goals as goal

pub returns-then-code-eq0 : goal.returns-then-code-eq0
returns-then-code-eq0 c = shown_plain _ _ _ _ (omega arith)

pub returns : goal.returns
returns c =
    c.fed_number.ensures
    ∙ shown_message _ _ _ _ c.if-code-eq0.false c.feed_fit.result.answer
    (ap (λ (s : machine.Step). s.answer) c.feed_fit.ensures.step)
