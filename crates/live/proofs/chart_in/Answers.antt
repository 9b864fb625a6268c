-- `live::chart_in` meets its contract: bytes that hold no live monitor show a chart of zeros. Assumes nothing.
use mathlib.Core.Path.{sym, ◌∙◌}
use Rattle.live.proofs.Charts.{not_live, some_live, none_live}
use Rattle.live.proofs.chart_in.Goals as goal

pub returns-in-Some : goal.returns-in-Some
returns-in-Some c = (some_live _ c.in-Some.chart (sym c.in-Some.is ∙ c.chart_if_live.ensures)).0

pub returns-in-None : goal.returns-in-None
returns-in-None c =
    c.zero_chart.ensures ∙ sym (not_live _ (none_live _ (sym c.in-None.is ∙ c.chart_if_live.ensures)))
