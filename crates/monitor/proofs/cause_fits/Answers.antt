-- By the region, by the term, and by its word. Assumes nothing.
use mathlib.Core.Logic.{inl, inr}
use native.Mathlib.Omega.{arith}
use Rattle.layout.proofs.Plans.{compiled}
use Rattle.monitor.proofs.Breaks.{no_region, no_term, by_word}
use Rattle.monitor.proofs.cause_fits.Goals as goal
use Rattle.monitor.proofs.cause_fits.Goals.{then-region-eq0-via-then-region-eq0, then-region-eq0-via-else-region-eq0+then-plan-region, then-region-eq0-via-else-region-eq0+else-plan-region+then-term-eq0, then-region-eq0-via-else-region-eq0+else-plan-region+else-term-eq0+then-term-gt-MOST_TERMS}

pub returns-then-region-eq0 : goal.returns-then-region-eq0
returns-then-region-eq0 c =
    let p = c.args.plan.now in
    let x = c.args.x in
    let r = c.from-region.ensures in
    let t = c.from-term.ensures in
    elim c.then-region-eq0.branch [
      | then-region-eq0-via-then-region-eq0 w ↦ no_region p x (inl (omega arith))
      | then-region-eq0-via-else-region-eq0+then-plan-region w ↦ no_region p x (inr (omega arith))
      | then-region-eq0-via-else-region-eq0+else-plan-region+then-term-eq0 w ↦
          no_term p x (λ z. w.if-region-eq0.false (omega arith)) (omega arith) (inl (omega arith))
      | then-region-eq0-via-else-region-eq0+else-plan-region+else-term-eq0+then-term-gt-MOST_TERMS w ↦
          no_term p x (λ z. w.if-region-eq0.false (omega arith)) (omega arith) (inr (omega arith))
    ]

pub bounds-plan-region : goal.bounds-plan-region
bounds-plan-region c = let n = (compiled c.args.plan.now).regions in omega (arith, n)

pub returns : goal.returns
returns c =
    let r = c.from-region.ensures in
    let t = c.from-term.ensures in
    rw (r, t) (by_word c.args.plan.now c.args.x (λ z. c.if-region-eq0.false (omega arith)) (omega arith)
    (λ z. c.if-term-eq0.false (omega arith)) (omega arith))
