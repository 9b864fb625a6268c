-- `feed_log::take_records` meets its contract: the records before the offset were taken. Assumes nothing.
use mathlib.Core.Path.{refl, sym, ap, subst, ◌∙◌}
use mathlib.Core.Logic.{inl}
use Prim.Native.Nat.{ℕ, ◌+◌, ◌-◌}
use lib.ListN.{get_or, set}
use native.Mathlib.Omega.{arith}
use Rattle.layout.proofs.Plans.{compiled}
use Rattle.log_check.specs.declared.pace.Pace.{Pace}
use Rattle.log_check.proofs.Meets.{goes}
use Rattle.log_pass.proofs.Fed.{slot_covers}
use Rattle.monitor_image.proofs.Owned.{owned}
use Rattle.feed_log.specs.Run.{pace_from}
use Rattle.feed_log.proofs.Agree.{Agrees, agrees_first}
use Rattle.feed_log.proofs.Counts.{in_counts}
use Rattle.feed_log.proofs.Going.{so_far_start, ran, stops_end, stops_other, count_room, met_later}
use Rattle.feed_log.proofs.Going.{met_few, met_past, took, goes_on}
use Rattle.feed_log.proofs.take_records.Goals as goal

pub loop-at-init : goal.loop-at-init
loop-at-init c =
    let A = agrees_first c.args.log.now c.args.first.tally.now c.args.first.tally.records c.pace_from-pace.ensures.range.1
    c.args.kind c.pace_from-pace.ensures.range.0 in
    so_far_start _ _ _ _ _ _ (subst (λ (x : Pace). Agrees c.args.log.now 0 x c.args.kind c.args.first.tally.now c.args.first.tally.records)
    (sym (c.pace_from-pace.ensures.pace ∙ ap (pace_from c.args.kind c.args.first.tally.now) c.read_record.ensures.0)) A)
    c.requires.fit c.requires.at_value refl

pub returns-in_default : goal.returns-in_default
returns-in_default c =
    let l = c.loop-at in
    ran l.invariant.reached (stops_other l.invariant (sym c.in_default.is ∙ c.met_at.ensures.met)) _ c.reached.ensures

pub accept-s-requires : goal.accept-s-requires
accept-s-requires c =
    let x = c.met_at in
    let l = c.loop-at in
    let M = goes c.args.log.now l.at c.pace_from-pace.result l.m.tally.now l.m.tally.records
    x.ensures.steady _ _ _ (sym c.in-Some.is ∙ x.ensures.met) in
    let F = l.invariant.fit in record {
      offerable = record {
        moments = λ i. omega (arith, F.moments i, met_later l.invariant _ _ _ M);
        few = met_few l.invariant _ _ _ M;
        counts = F.counts;
      };
      covers = rw c.slot_of.ensures.value (slot_covers c.slots_of-slots.ensures (compiled c.args.plan.now).regions _);
    }

pub overflow_sub-i : goal.overflow_sub-i
overflow_sub-i c =
    let x = c.met_at in
    let l = c.loop-at in
    let M = goes c.args.log.now l.at c.pace_from-pace.result l.m.tally.now l.m.tally.records
    x.ensures.steady _ _ _ (sym c.in-Some.is ∙ x.ensures.met) in
    let r = c.accept-s in
    let b = in_counts r.result.answer in
    let e = c.from-last.ensures in
    let f = c.from-i.ensures in
    omega (arith, b, e, f)

pub bounds-counts-i : goal.bounds-counts-i
bounds-counts-i c =
    let x = c.met_at in
    let l = c.loop-at in
    let M = goes c.args.log.now l.at c.pace_from-pace.result l.m.tally.now l.m.tally.records
    x.ensures.steady _ _ _ (sym c.in-Some.is ∙ x.ensures.met) in
    let r = c.accept-s in
    let b = in_counts r.result.answer in
    let e = c.from-last.ensures in
    let f = c.from-i.ensures in
    omega (arith, b, e, f)

pub overflow_add-counts : goal.overflow_add-counts
overflow_add-counts c =
    let x = c.met_at in
    let l = c.loop-at in
    let M = goes c.args.log.now l.at c.pace_from-pace.result l.m.tally.now l.m.tally.records
    x.ensures.steady _ _ _ (sym c.in-Some.is ∙ x.ensures.met) in
    let z = count_room l.invariant (c.from-i.result - 1) (met_few l.invariant _ _ _ M) in
    omega (arith, z)

pub bounds-counts-i-in-loop-at : goal.bounds-counts-i-in-loop-at
bounds-counts-i-in-loop-at c =
    let x = c.met_at in
    let l = c.loop-at in
    let M = goes c.args.log.now l.at c.pace_from-pace.result l.m.tally.now l.m.tally.records
    x.ensures.steady _ _ _ (sym c.in-Some.is ∙ x.ensures.met) in
    let r = c.accept-s in
    let b = in_counts r.result.answer in
    let e = c.from-last.ensures in
    let f = c.from-i.ensures in
    omega (arith, b, e, f)

pub returns-then-m-ne0 : goal.returns-then-m-ne0
returns-then-m-ne0 c =
    let x = c.met_at in
    let l = c.loop-at in
    let M = goes c.args.log.now l.at c.pace_from-pace.result l.m.tally.now l.m.tally.records
    x.ensures.steady _ _ _ (sym c.in-Some.is ∙ x.ensures.met) in
    let r = c.accept-s in
    ran (took l.invariant _ _ _ M r.result r.ensures (owned r.result.next _ r.type_inv.1.1.1.0) _ c.from-last.ensures _ (ap (λ (x : ℕ). set l.counts (x - 1) (get_or l.counts (x - 1) 0 + 1)) c.from-i.ensures))
    (inl c.if-m-ne0.true) _ c.reached-then-m-ne0.ensures

pub loop-at-smaller : goal.loop-at-smaller
loop-at-smaller c =
    let x = c.met_at in
    let l = c.loop-at in
    let M = goes c.args.log.now l.at c.pace_from-pace.result l.m.tally.now l.m.tally.records
    x.ensures.steady _ _ _ (sym c.in-Some.is ∙ x.ensures.met) in
    let t = c.loop-at-test.true in
    omega (arith, t, met_past l.invariant _ _ _ M)

pub loop-at-preserved : goal.loop-at-preserved
loop-at-preserved c =
    let x = c.met_at in
    let l = c.loop-at in
    let M = goes c.args.log.now l.at c.pace_from-pace.result l.m.tally.now l.m.tally.records
    x.ensures.steady _ _ _ (sym c.in-Some.is ∙ x.ensures.met) in
    let r = c.accept-s in
    goes_on l.invariant _ _ _ M r.result r.ensures (compiled c.args.plan.now).accepted (owned r.result.next _ r.type_inv.1.1.1.0) _ c.from-last.ensures _ (ap (λ (x : ℕ). set l.counts (x - 1) (get_or l.counts (x - 1) 0 + 1)) c.from-i.ensures) c.if-m-ne0.false

pub returns : goal.returns
returns c =
    let l = c.loop-at in
    ran l.invariant.reached (stops_end l.invariant c.loop-at-test.false) _ c.reached-2.ensures
