-- `respond::parts` meets its contract: the tests in their order, then the input split after the length. Assumes nothing.
use native.Mathlib.Omega.{arith}
use lib.Seq.{take_all}
use Rattle.std.proofs.Common.{◌∙◌, ◌-◌, length, drop, length-drop}
use borrow.Author.Tests.{lt-ltb, le-ltb}
use Rattle.respond.specs.Respond.{report_of}
use Rattle.respond.proofs.Laws.{parted}
use Rattle.respond.proofs.parts.Goals as goal

pub returns-then-input-gt-MOST_INPUT-clause-err : goal.returns-then-input-gt-MOST_INPUT-clause-err
unfolding report_of
returns-then-input-gt-MOST_INPUT-clause-err c = rw (lt-ltb _ _ c.if-input-gt-MOST_INPUT.true)

pub returns-then-input-lt-LENGTH_SIZE-clause-err : goal.returns-then-input-lt-LENGTH_SIZE-clause-err
unfolding report_of
returns-then-input-lt-LENGTH_SIZE-clause-err c =
    rw (le-ltb _ _ c.if-input-gt-MOST_INPUT.false, lt-ltb _ _ c.if-input-lt-LENGTH_SIZE.true)

pub returns : goal.returns
returns c =
    let s = c.args.input.now in
    let e = take_all (length s - 2) (drop 2 s) (omega (arith, length-drop 2 s)) in
    let n = c.from-n.ensures ∙ c.word16_at.ensures.value in
    let h = c.if-input-gt-MOST_INPUT.false in
    let k = c.if-input-lt-LENGTH_SIZE.false in
    let r = parted s _ _ h k e n (λ p. p.0.now) (λ p. p.1.now) c.split_at_checked.result c.ok_or.ensures.value
    c.split_at_checked.ensures.cases in
    record { ok = r.0; err = r.1 }
