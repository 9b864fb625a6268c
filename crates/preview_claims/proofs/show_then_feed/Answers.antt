-- `preview_claims::show_then_feed` meets its contract: what is shown is what is answered. Assumes nothing.
use mathlib.Core.Path.{refl}
use Rattle.chart_value.proofs.Exact.{exact_test}
use Rattle.monitor.proofs.Owned.{owned_monitor}
use Rattle.preview_claims.proofs.Previewing.{foretold}
use Rattle.preview_claims.proofs.show_then_feed.Goals as goal

pub returns : goal.returns
returns c =
    let a = c.args in
    foretold a.chart (exact_test a.chart _ c.well_formed.0 _ refl).1 a.m
    (owned_monitor a.m _ c.well_formed.1.0).places a.t a.out.now _ a.x _ c.preview-shown.ensures.answer c.preview-shown.ensures.buffer
    c.feed-fed.ensures.0
