use mathlib.Core.Path.{refl}
use Rattle.chart_value.proofs.Exact.{exact_test}
use Rattle.feed_claims.proofs.Feeds.{makes_just}
use Rattle.feed_claims.proofs.make_monitor.Goals as goal

pub returns : goal.returns
returns c =
    makes_just c.args.chart (exact_test c.args.chart _ c.well_formed.0 _ refl).1 _
    c.new.ensures
