-- `feed_log::stop_at` meets its contract: broken, or how the check ends there. Assumes nothing.
use mathlib.Core.Path.{refl, sym}
use Rattle.feed_log.proofs.Parts.{stop_broken, stop_ended}
use Rattle.feed_log.proofs.stop_at.Goals as goal

pub returns-then-m-ne0 : goal.returns-then-m-ne0
returns-then-m-ne0 c = let a = c.args in stop_broken a.log.now a.at a.kind a.m c.if-m-ne0.true

pub returns-in-Ok : goal.returns-in-Ok
returns-in-Ok c =
    let a = c.args in
    stop_ended a.log.now a.at a.kind a.m c.if-m-ne0.false _ _ (sym c.in-Ok.is) c.ended_at.ensures _ refl

pub returns-in-Err : goal.returns-in-Err
returns-in-Err c =
    let a = c.args in
    stop_ended a.log.now a.at a.kind a.m c.if-m-ne0.false _ _ (sym c.in-Err.is) c.ended_at.ensures _ refl
