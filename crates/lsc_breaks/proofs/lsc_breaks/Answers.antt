-- `lsc_breaks::lsc_breaks` meets its contract: too few places, the chart's refusal, or the answer. Assumes nothing.
use mathlib.Core.Path.{refl}
use Rattle.lsc_breaks.proofs.Asking.{asked_short, asked_refused, asked_accepted}
use Rattle.lsc_breaks.proofs.lsc_breaks.Goals as goal

pub returns-then-out-lt-BREAKS_PLACES : goal.returns-then-out-lt-BREAKS_PLACES
returns-then-out-lt-BREAKS_PLACES c =
    let a = c.args in
    let s = asked_short a.chart.now a.log.now a.out.now c.if-out-lt-BREAKS_PLACES.true in record {
      number = s.0;
      numbers = s.1;
      unchanged = (refl, refl);
    }

pub returns-in-Err : goal.returns-in-Err
returns-in-Err c =
    let a = c.args in
    let s = asked_refused a.chart.now a.log.now a.out.now c.if-out-lt-BREAKS_PLACES.false c.read-read.result
    c.read-read.ensures.answer
    c.in-Err.fault _ c.in-Err.is
    c.from.ensures c.put_refusal.ensures.number c.put_refusal.ensures.numbers in record {
      number = s.0;
      numbers = s.1;
      unchanged = (refl, refl);
    }

pub returns-in-Ok : goal.returns-in-Ok
returns-in-Ok c =
    let a = c.args in
    let s = asked_accepted a.chart.now a.log.now a.out.now c.if-out-lt-BREAKS_PLACES.false c.read-read.result
    c.read-read.ensures.answer _ c.in-Ok.is c.breaks.ensures.answer c.put_answer.ensures.number c.put_answer.ensures.numbers in record {
      number = s.0;
      numbers = s.1;
      unchanged = (refl, refl);
    }
