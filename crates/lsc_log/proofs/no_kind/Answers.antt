-- `lsc_log::no_kind` meets its contract: by the chart in the bytes. Assumes nothing.
use mathlib.Core.Path.{◌∙◌}
use Rattle.live.proofs.Charts.{some_live, none_live, live_exact}
use Rattle.lsc_log.proofs.no_kind.Goals as goal

pub returns-in-Some : goal.returns-in-Some
returns-in-Some c =
    let l = c.args.live.now in
    rw (live_exact l ∙ (some_live l _ c.in-Some.ensures).1)

pub returns-in-None : goal.returns-in-None
returns-in-None c = rw (none_live c.args.live.now c.in-None.ensures)
