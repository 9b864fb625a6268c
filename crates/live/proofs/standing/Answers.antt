-- `live::standing` meets its contract: the chart and the monitor in the bytes. Assumes nothing.
use mathlib.Core.Path.{sym, ◌∙◌}
use Rattle.live.specs.Live.{standing_by, standing_in}
use Rattle.live.proofs.Charts.{some_live, none_live, live_exact}
use Rattle.live.proofs.standing.Goals as goal

pub returns-in_default-clause-value : goal.returns-in_default-clause-value
unfolding standing_in
returns-in_default-clause-value c =
    let l = c.args.live.now in
    rw (sym (live_exact l) ∙ none_live l c.in_default.ensures)

pub returns-clause-value : goal.returns-clause-value
unfolding standing_in
returns-clause-value c =
    let s = some_live c.args.live.now c.in-Some.chart c.in-Some.ensures in
    c.standing_of.ensures ∙ (λ i. standing_by (s.0 i) (c.monitor_at.ensures.value i))
