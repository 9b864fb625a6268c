-- `live::feed_chart` meets its contract: the monitor in the bytes is fed. Assumes nothing.
use Rattle.live.proofs.feed_chart.Goals as goal

pub returns : goal.returns
returns c =
    let a = c.args in
    let f = c.feed.ensures in
    c.put_fed.ensures a.chart a.e c.monitor_at-m.ensures.value f.0 f.1
