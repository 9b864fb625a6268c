-- `log_pass::pass` meets its contract: the records before the offset were taken, and the rest is as it was. Assumes
-- nothing.
use mathlib.Core.Path.{refl, sym, ap, ◌∙◌}
use native.Mathlib.Omega.{arith}
use Rattle.layout.proofs.Plans.{compiled}
use Rattle.log_check.specs.Met.{pace_of}
use Rattle.log_check.proofs.Meets.{goes}
use Rattle.log_pass.proofs.Fed.{slot_covers}
use Rattle.log_pass.proofs.Going.{going_start, going_end, going_other, going_on, going_broken, ended_as}
use Rattle.log_pass.proofs.Going.{fit_here, met_later, met_few, met_past}
use Rattle.log_pass.proofs.pass.Goals as goal

pub loop-at-init : goal.loop-at-init
loop-at-init c =
    going_start _ (c.pace_of-pace.ensures ∙ ap pace_of c.read_record.ensures.0) _
    c.zero_monitor-m.ensures

pub returns-in_default : goal.returns-in_default
returns-in_default c =
    let x = c.met_at in
    let l = c.loop-at in
    let K = c.compile-plan.ensures in
    let q = c.pace_of-pace.ensures ∙ ap pace_of c.read_record.ensures.0 in
    let E = ended_as (going_other l.invariant (sym c.in_default.is ∙ x.ensures.met)) _ K.shows q in record {
      end = E.0;
      rest = E.1;
      unchanged = refl;
    }

pub accept-s-requires : goal.accept-s-requires
accept-s-requires c =
    let x = c.met_at in
    let l = c.loop-at in
    let K = c.compile-plan.ensures in
    let q = c.pace_of-pace.ensures ∙ ap pace_of c.read_record.ensures.0 in
    let M = goes c.args.log.now l.at c.pace_of-pace.result l.m.tally.now l.m.tally.records
    x.ensures.steady _ _ _ (sym c.in-Some.is ∙ x.ensures.met) in
    let t = c.loop-at-test.true in
    let F = fit_here l.invariant (compiled c.compile-plan.result).accepted in record {
      offerable = record {
        moments = λ i. omega (arith, F.moments i, met_later l.invariant t _ _ _ M);
        few = met_few l.invariant t _ _ _ M;
        counts = F.counts;
      };
      covers = rw c.slot_of.ensures.value (slot_covers c.slots_of-slots.ensures (compiled c.compile-plan.result).regions _);
    }

pub returns-then-m-ne0 : goal.returns-then-m-ne0
returns-then-m-ne0 c =
    let x = c.met_at in
    let l = c.loop-at in
    let K = c.compile-plan.ensures in
    let q = c.pace_of-pace.ensures ∙ ap pace_of c.read_record.ensures.0 in
    let M = goes c.args.log.now l.at c.pace_of-pace.result l.m.tally.now l.m.tally.records
    x.ensures.steady _ _ _ (sym c.in-Some.is ∙ x.ensures.met) in
    let r = c.accept-s in
    let E = ended_as (going_broken l.invariant c.loop-at-test.true _ _ _ M r.result r.ensures c.if-m-ne0.true) _ K.shows q in record {
      end = E.0;
      rest = E.1;
      unchanged = refl;
    }

pub loop-at-smaller : goal.loop-at-smaller
loop-at-smaller c =
    let x = c.met_at in
    let l = c.loop-at in
    let K = c.compile-plan.ensures in
    let q = c.pace_of-pace.ensures ∙ ap pace_of c.read_record.ensures.0 in
    let M = goes c.args.log.now l.at c.pace_of-pace.result l.m.tally.now l.m.tally.records
    x.ensures.steady _ _ _ (sym c.in-Some.is ∙ x.ensures.met) in
    let t = c.loop-at-test.true in
    omega (arith, t, met_past l.invariant t _ _ _ M)

pub loop-at-preserved : goal.loop-at-preserved
loop-at-preserved c =
    let x = c.met_at in
    let l = c.loop-at in
    let K = c.compile-plan.ensures in
    let q = c.pace_of-pace.ensures ∙ ap pace_of c.read_record.ensures.0 in
    let M = goes c.args.log.now l.at c.pace_of-pace.result l.m.tally.now l.m.tally.records
    x.ensures.steady _ _ _ (sym c.in-Some.is ∙ x.ensures.met) in
    let r = c.accept-s in
    going_on l.invariant c.loop-at-test.true _ _ _ M r.result r.ensures c.if-m-ne0.false

pub returns : goal.returns
returns c =
    let K = c.compile-plan.ensures in
    let q = c.pace_of-pace.ensures ∙ ap pace_of c.read_record.ensures.0 in
    let E = ended_as (going_end c.loop-at.invariant c.loop-at-test.false) _ K.shows q in record {
      end = E.0;
      rest = E.1;
      unchanged = refl;
    }
