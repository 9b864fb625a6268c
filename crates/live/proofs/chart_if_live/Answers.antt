-- `live::chart_if_live` meets its contract: the tests in their order, then what the reader gives. Assumes nothing.
use mathlib.Core.Path.{sym, ap, ◌∙◌}
use native.Mathlib.Omega.{arith}
use Rattle.chart_step.proofs.Numbers.{refusal_nonzero}
use Rattle.chart_reader.specs.Said.{said, number_of}
use Rattle.live.proofs.Charts.{too_few, beyond, accepted_there, refused_there}
use Rattle.live.proofs.chart_if_live.Goals as goal

pub returns-then-live-lt-HEAD_SIZE : goal.returns-then-live-lt-HEAD_SIZE
returns-then-live-lt-HEAD_SIZE c = too_few _ c.if-live-lt-HEAD_SIZE.true

pub returns-then-rest-n : goal.returns-then-rest-n
returns-then-rest-n c =
    let e = c.word64_at-n.ensures.value in
    beyond _ c.if-live-lt-HEAD_SIZE.false (omega (arith, e, c.if-rest-n.true))

pub returns-in-Ok : goal.returns-in-Ok
returns-in-Ok c =
    accepted_there _ _ c.if-live-lt-HEAD_SIZE.false c.word64_at-n.ensures.value c.if-rest-n.false
    (said c.read-read.result) c.read-read.ensures.answer (ap number_of c.in-Ok.is)

pub returns-in-Err : goal.returns-in-Err
returns-in-Err c =
    refused_there _ _ c.if-live-lt-HEAD_SIZE.false c.word64_at-n.ensures.value c.if-rest-n.false
    (said c.read-read.result) c.read-read.ensures.answer (λ z. refusal_nonzero c.in-Err.field-0.refusal (sym (ap number_of c.in-Err.is) ∙ z))
