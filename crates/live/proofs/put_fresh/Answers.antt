-- `live::put_fresh` meets its contract: the three parts, each in its place. Assumes nothing.
use mathlib.Core.Path.{◌∙◌}
use Rattle.wire.proofs.Writing.{long_as_bytes}
use Rattle.live.proofs.Opening.{fresh_parts}
use Rattle.live.proofs.put_fresh.Goals as goal

pub returns : goal.returns
returns c =
    fresh_parts
    _
    _
    c.zero_monitor.ensures
    c.requires
    (c.to_be_bytes.ensures ∙ long_as_bytes _)
    c.put_monitor.ensures.image
    c.put_bytes.ensures
    c.put_chart.ensures
