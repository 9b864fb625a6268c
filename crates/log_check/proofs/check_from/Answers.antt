-- `log_check::check_from` meets its contract: what is left of the check gives what it gave from the start. Assumes
-- nothing.
use Rattle.std.proofs.Common.{◌<◌, sym, ◌∙◌, arith, leb-false}
use Rattle.model.specs.Answers.{most_records}
use Rattle.log_check.specs.Met.{kind_in}
use Rattle.log_check.proofs.Laws.{went, left_here, left_going, left_ended, going_past}
use Rattle.log_check.proofs.Meets.{goes, ended_left}
use Rattle.log_check.proofs.check_from.Goals as goal

pub loop-at-init : goal.loop-at-init
loop-at-init c =
    let a = c.args in
    left_here a.log.now a.from (kind_in a.pace a.time) a.time a.count

pub returns-in_default : goal.returns-in_default
returns-in_default c =
    let x = c.args in
    let l = c.loop-at in
    c.ended_at.ensures
    ∙ ended_left x.log.now l.at x.pace l.last l.records l.invariant (sym c.in_default.is ∙ c.met_at.ensures.met) _ c.kind_in-kind.ensures

pub overflow_add-records : goal.overflow_add-records
overflow_add-records c =
    let x = c.args in
    let l = c.loop-at in
    let G = goes x.log.now l.at x.pace l.last l.records c.met_at.ensures.steady _ _ _ (sym c.in-Some.is ∙ c.met_at.ensures.met) in
    let W = went x.log.now l.at (kind_in x.pace l.last) l.last l.records _ _ _ _ G.step in
    let f : l.records < most_records = leb-false most_records l.records W.few in
    omega (arith, f)

pub loop-at-smaller : goal.loop-at-smaller
loop-at-smaller c =
    let x = c.args in
    let l = c.loop-at in
    let G = goes x.log.now l.at x.pace l.last l.records c.met_at.ensures.steady _ _ _ (sym c.in-Some.is ∙ c.met_at.ensures.met) in
    omega (arith, c.loop-at-test.true, going_past x.log.now l.at (kind_in x.pace l.last) l.last l.records _ _ _ _ G.step)

pub loop-at-preserved : goal.loop-at-preserved
loop-at-preserved c =
    let x = c.args in
    let l = c.loop-at in
    let G = goes x.log.now l.at x.pace l.last l.records c.met_at.ensures.steady _ _ _ (sym c.in-Some.is ∙ c.met_at.ensures.met) in
    left_going x.log.now l.at (kind_in x.pace l.last) l.last l.records l.invariant _ _ _ _ G.step

pub returns : goal.returns
returns c =
    let x = c.args in
    let l = c.loop-at in
    left_ended x.log.now l.at (kind_in x.pace l.last) l.last l.records l.invariant c.loop-at-test.false
