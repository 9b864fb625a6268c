-- `live::feed` meets its contract: there is no chart, or one record is fed for the chart in the bytes; either is one more
-- feed of every list that led to them. Assumes nothing.
use mathlib.Core.Path.{ap, ◌∙◌}
use native.Mathlib.Omega.{arith}
use Rattle.chart_value.specs.WellFormed.{well_formed}
use Rattle.live.proofs.Feeding.{fed_none, fed_live}
use Rattle.live.proofs.Charts.{some_live, none_live, not_live, live_long}
use Rattle.live.proofs.History.{runs_on}
use Rattle.live.proofs.feed.Goals as goal

pub returns-in_default : goal.returns-in_default
returns-in_default c =
    let l = c.args.live.now in
    let F = fed_none l c.args.e (not_live l (none_live l c.in_default.ensures)) in
    record { fed = F; history = runs_on F }

pub invariant_of-accepted : goal.invariant_of-accepted
invariant_of-accepted c =
    let s = some_live c.args.live.now c.in-Some.chart c.in-Some.ensures in
    record { accepted = ap well_formed s.0 ∙ s.1 }

pub put_fed-requires : goal.put_fed-requires
put_fed-requires c =
    let l = c.args.live.now in
    let h = live_long l (some_live l c.in-Some.chart c.in-Some.ensures).1 in
    omega (arith, h)

pub returns : goal.returns
returns c =
    let l = c.args.live.now in
    let s = some_live l c.in-Some.chart c.in-Some.ensures in
    let h = live_long l s.1 in
    let f = c.feed_accepted.ensures in
    let F = fed_live _ s.0 (omega (arith, h)) (c.put_fed.ensures _ c.args.e c.monitor_at-m.ensures.value f.0 f.1) in
    record { fed = F; history = runs_on F }
