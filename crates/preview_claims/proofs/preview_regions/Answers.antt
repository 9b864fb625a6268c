-- `preview_claims::preview_regions` meets its contract: the case that applies, alone. Assumes nothing.
use mathlib.Core.Path.{refl}
use Rattle.chart_value.proofs.Exact.{exact_test}
use Rattle.monitor.proofs.Owned.{owned_monitor}
use Rattle.preview_claims.proofs.Previewing.{previews_just}
use Rattle.preview_claims.proofs.preview_regions.Goals as goal

pub returns : goal.returns
returns c =
    let a = c.args in
    previews_just a.chart (exact_test a.chart _ c.well_formed.0 _ refl).1 a.m
    (owned_monitor a.m _ c.well_formed.1.0).places a.t a.out.now _ _ c.preview.ensures.answer c.preview.ensures.buffer
