-- `feed_log::feed_log` meets its contract: refused, broken before, or the records taken. Assumes nothing.
use mathlib.Core.Path.{refl, sym, ap, ◌∙◌}
use native.Mathlib.Omega.{arith}
use Rattle.chart_value.specs.WellFormed.{well_formed}
use Rattle.chart_value.specs.View.{chart_of}
use Rattle.layout.proofs.Plans.{compiled}
use Rattle.live.proofs.Charts.{some_live, none_live, live_exact, live_long}
use Rattle.feed_log.proofs.Parts.{is_broken_lem}
use Rattle.feed_log.proofs.Call.{no_chart, unfit, broken_before, fed_on}
use Rattle.feed_log.proofs.Only.{feeds_tell}
use Rattle.feed_log.proofs.feed_log.Goals as goal

pub returns-in_default : goal.returns-in_default
returns-in_default c =
    let a = c.args in
    let l = a.live.now in record {
      fed = no_chart l a.kind a.log.now (sym (live_exact l) ∙ none_live l c.in_default.ensures) _ c.stopped.ensures;
      only = feeds_tell;
      unchanged = refl;
    }

pub invariant_of-accepted : goal.invariant_of-accepted
invariant_of-accepted c =
    let s = some_live c.args.live.now c.in-Some.chart c.in-Some.ensures in
    record { accepted = ap well_formed s.0 ∙ s.1 }

pub returns-then-not-is_fit : goal.returns-then-not-is_fit
returns-then-not-is_fit c =
    let a = c.args in
    let l = a.live.now in
    let s = some_live l c.in-Some.chart c.in-Some.ensures in
    let m = c.monitor_at-m in
    let same = c.compile-plan.ensures.shows ∙ ap chart_of s.0 in record {
      fed = unfit l a.kind a.log.now s.1 m.result m.ensures.value _ same (sym c.is_fit.ensures.test ∙ c.if-not-is_fit.true) _ c.stopped-then-not-is_fit.ensures;
      only = feeds_tell;
      unchanged = refl;
    }

pub returns-then-m-ne0 : goal.returns-then-m-ne0
returns-then-m-ne0 c =
    let a = c.args in
    let l = a.live.now in
    let s = some_live l c.in-Some.chart c.in-Some.ensures in
    let m = c.monitor_at-m in
    let same = c.compile-plan.ensures.shows ∙ ap chart_of s.0 in record {
      fed = broken_before l a.kind a.log.now s.1 m.result m.ensures.value _ same (sym c.is_fit.ensures.test ∙ c.if-not-is_fit.false)
          (is_broken_lem m.result c.if-m-ne0.true) _ c.stopped-then-m-ne0.ensures;
      only = feeds_tell;
      unchanged = refl;
    }

pub finish-requires : goal.finish-requires
finish-requires c =
    let l = c.args.live.now in
    let h = live_long l (some_live l c.in-Some.chart c.in-Some.ensures).1 in
    let t = c.take_records-r.ensures.is_taken in record {
      monitor_size_in_bounds = omega (arith, h);
      before_le_records = omega (arith, t);
    }

pub returns : goal.returns
returns c =
    let a = c.args in
    let l = a.live.now in
    let s = some_live l c.in-Some.chart c.in-Some.ensures in
    let m = c.monitor_at-m in
    let K = c.compile-plan in
    let same = K.ensures.shows ∙ ap chart_of s.0 in
    let f = c.finish.ensures in
    let yes = c.if-not-is_fit.false in record {
      fed = fed_on l a.kind a.log.now s.1 m.result m.ensures.value _ same (sym c.is_fit.ensures.test ∙ yes)
          (compiled K.result).accepted (c.is_fit.ensures.list.0 yes)
          _ c.take_records-r.ensures _ f.stop _ f.said _ f.bytes;
      only = feeds_tell;
      unchanged = refl;
    }
