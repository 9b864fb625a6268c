-- By the search. Assumes nothing.
use mathlib.Core.Path.{◌∙◌}
use mathlib.Core.Bool.{◌&&◌}
use lib.Dec.{eqb}
use lib.ListN.{get_or}
use Rattle.bitset.specs.Set.{is_subset}
use Rattle.firing.proofs.Ready.{message_found}
use borrow.Author.Rules.{rules}
use Rattle.firing.proofs.ready_for.Goals as goal

pub returns : goal.returns
returns c = λ n W.
    let a = c.args in
    c.first_outside.ensures (λ i. eqb (get_or a.keys.now i 0) a.code && is_subset (get_or a.above.now i 0) a.fired)
    (λ i b l e. search rules)
    ∙ message_found W a.above.now a.fired _ _ c.others.ensures c.join-skipped.ensures
