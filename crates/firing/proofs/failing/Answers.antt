-- By the words, one after the other. Assumes nothing.
use mathlib.Core.Path.{◌∙◌, sym}
use Prim.Native.Nat.{◌+◌, ◌*◌}
use native.Mathlib.Omega.{arith}
use lib.ListN.{get_or}
use Rattle.model.specs.Chart.{most_terms}
use Rattle.base.proofs.Loops.{one_more, none_fails, first_fails}
use Rattle.layout.proofs.Plans.{compiled}
use Rattle.firing.proofs.Terms.{testable, terms_end, term_held, condition_tested}
use Rattle.firing.proofs.failing.Goals as goal

pub returns-then-word-eq0 : goal.returns-then-word-eq0
returns-then-word-eq0 c =
    let a = c.args in
    let T = testable (compiled a.plan.now) in
    sym (none_fails most_terms c.loop-j.invariant (terms_end T a.t.0 a.resets.now a.i c.loop-j.j c.if-word-eq0.true))
    ∙ condition_tested T a.t.0 a.resets.now a.i

pub returns-then-not-word_holds : goal.returns-then-not-word_holds
returns-then-not-word_holds c =
    let a = c.args in
    let e = term_held (get_or a.plan.now.terms (a.i * most_terms + c.loop-j.j) 0) a.t.0 a.resets.now _ _ _
    c.since-first.ensures c.second_value-second.ensures c.word_holds.ensures c.if-word-eq0.false
    ∙ c.if-not-word_holds.true in
    sym (first_fails most_terms c.loop-j.invariant e c.loop-j-test.true)
    ∙ condition_tested (testable (compiled a.plan.now)) a.t.0 a.resets.now a.i

pub loop-j-preserved : goal.loop-j-preserved
loop-j-preserved c =
    let a = c.args in
    one_more c.loop-j.invariant
    (term_held (get_or a.plan.now.terms (a.i * most_terms + c.loop-j.j) 0) a.t.0 a.resets.now _ _ _
    c.since-first.ensures c.second_value-second.ensures c.word_holds.ensures c.if-word-eq0.false
    ∙ c.if-not-word_holds.false)

pub returns : goal.returns
returns c =
    let a = c.args in
    sym (none_fails most_terms c.loop-j.invariant (λ j l m. absurd (omega arith)))
    ∙ condition_tested (testable (compiled a.plan.now)) a.t.0 a.resets.now a.i
