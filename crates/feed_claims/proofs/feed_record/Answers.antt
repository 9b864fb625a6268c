use Rattle.chart_value.proofs.Exact.{exact_test}
use Rattle.monitor.proofs.Owned.{owned_monitor}
use Rattle.feed_claims.proofs.Feeds.{feeds_just}
use mathlib.Core.Path.{refl}
use Rattle.feed_claims.proofs.feed_record.Goals as goal

pub returns : goal.returns
returns c =
    feeds_just c.args.chart (exact_test c.args.chart _ c.well_formed.0 _ refl).1 _ _ _
    (owned_monitor c.args.m _ c.well_formed.1.0).places c.feed.ensures.0 c.feed.ensures.1
    c.feed.ensures.2
