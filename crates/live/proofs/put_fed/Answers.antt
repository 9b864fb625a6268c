-- `live::put_fed` meets its contract: the bytes stay, or the monitor handed back is written. Assumes nothing.
use mathlib.Core.Path.{sym}
use Rattle.std.proofs.lemmas.Result.{err_from_is_err_and}
use Rattle.live.proofs.Feeding.{stays_refused, stays_broken, written}
use Rattle.live.proofs.put_fed.Goals as goal

pub returns-in_err-answer : goal.returns-in_err-answer
returns-in_err-answer c = λ chart e q f b.
    let a = c.args in
    let p = err_from_is_err_and c.from_residual.result c.from_residual.ensures.1 in
    stays_refused chart a.bytes.now a.m e a.s q f _ (rw (p.1, p.2) (sym c.in_err-answer.was)) b _ c.in_err-answer.was

pub returns-then-m-eq0 : goal.returns-then-m-eq0
returns-then-m-eq0 c = λ chart e q f b.
    let a = c.args in
    let p = c.put_monitor in
    written chart a.bytes.now a.m e a.s q f _ (sym c.in_ok-answer.was) c.in_ok-answer.was c.if-m-eq0.true
    c.requires p.ensures.image p.ensures.back

pub returns-else-m-eq0 : goal.returns-else-m-eq0
returns-else-m-eq0 c = λ chart e q f b.
    let a = c.args in
    stays_broken chart a.bytes.now a.m e a.s q f _ (sym c.in_ok-answer.was) b c.if-m-eq0.false
