-- By the search. Assumes nothing.
use mathlib.Core.Path.{ap, ◌∙◌}
use borrow.Author.Rules.{rules}
use lib.Dec.{eqb}
use lib.ListN.{get_or}
use Rattle.base.specs.Lists.{is_found}
use Rattle.firing.proofs.Ready.{any_found, found_is}
use Rattle.firing.proofs.is_known.Goals as goal

pub returns : goal.returns
returns c = λ n W.
    c.is_some.ensures ∙ found_is c.first_outside.result
    ∙ ap is_found
    (c.first_outside.ensures (λ i. eqb (get_or c.args.plan.now.keys i 0) c.args.code) (λ i b l e. search rules))
    ∙ any_found W _ c.others.ensures
