-- By the search. Assumes nothing.
use mathlib.Core.Path.{sym, ap, ◌∙◌}
use mathlib.Core.Bool.{not}
use Prim.Native.Nat.{ℕ}
use lib.ListN.{get_or}
use Rattle.bitset.specs.Set.{contains, is_subset}
use Rattle.firing.proofs.Ready.{set_found, plain_found}
use borrow.Author.Rules.{rules}
use Rattle.firing.proofs.ready_plain.Goals as goal

pub returns-clause-set : goal.returns-clause-set
returns-clause-set c = λ n W.
    let a = c.args in
    c.first_outside.ensures (λ i. is_subset (get_or a.above.now i 0) a.fired) (λ i b l e. search rules)
    ∙ set_found W a.above.now a.fired _ _ c.others.ensures c.join-skipped.ensures

pub returns-clause-chart : goal.returns-clause-chart
returns-clause-chart c = λ h keys resets terms e K.
    let a = c.args in
    c.first_outside.ensures (λ i. is_subset (get_or a.above.now i 0) a.fired) (λ i b l e. search rules)
    ∙ plain_found K a.fired _ _ (λ i l. c.others.ensures i l ∙ ap (λ (x : ℕ). not (contains x i)) (sym e))
    c.join-skipped.ensures
