-- Each clock by whether it is of the set. Assumes nothing.
use mathlib.Core.Path.{◌≡◌, sym, subst}
use mathlib.Core.List.{List}
use Prim.Native.Nat.{◌+◌, ◌<◌}
use native.Mathlib.Omega.{arith}
use borrow.Author.Rules.{rules}
use lib.ListN.{length, length-set}
use Rattle.bitset.proofs.Laws.{contains_empty}
use Rattle.model.specs.declared.Moment.{Moment}
use Rattle.model.specs.Chart.{most_clocks}
use Rattle.firing.proofs.Fires.{ResetSoFar, reset_start, reset_next, reset_all}
use Rattle.firing.proofs.reset_clocks.Goals as goal
use Rattle.firing.proofs.reset_clocks.Goals.{then-member, else-member}

pub returns-then-set-eq0 : goal.returns-then-set-eq0
returns-then-set-eq0 c = λ x. rw (c.if-set-eq0.true, contains_empty x)

pub loop-c-init : goal.loop-c-init
loop-c-init c = (search rules, reset_start _ _ _)

pub loop-c-preserved : goal.loop-c-preserved
loop-c-preserved c =
    let I = c.loop-c.invariant in
    let l : c.loop-c.c < length c.loop-c.moment-items = omega (arith, c.loop-c-test.true, I.0) in
    let P : List Moment → Type 0 = λ items. (length items ≡ most_clocks)
    × ResetSoFar c.args.set c.args.t.0 c.args.old (c.loop-c.c + 1) items in
    elim c.if-member.branch [
      | then-member w ↦ subst P (sym w.moment-items-is) (
        simp length-set I.0,
        reset_next _ _ _ c.args.t I.1 l (rw (← c.member.ensures, w.if-member.true)),
      )
      | else-member w ↦ subst P (sym w.moment-items-is) (
        simp length-set I.0,
        reset_next _ _ _ _ I.1 l (rw (← c.member.ensures, w.if-member.false) (I.1.left c.loop-c.c (omega arith))),
      )
    ]

pub returns : goal.returns
returns c =
    reset_all _ _ _ (λ x m. omega (arith, c.requires x m, c.loop-c-test.false)) c.loop-c.invariant.1
