-- `live_preview::preview` meets its contract: the chart and the monitor in the bytes are previewed. Assumes nothing.
use mathlib.Core.Path.{refl}
use Rattle.live_preview.proofs.Previewing.{previewed}
use Rattle.live_preview.proofs.preview.Goals as goal

pub returns : goal.returns
returns c =
    let a = c.args in
    let p = c.preview-shown in
    let s = previewed a.live.now a.time a.out.now _ _ c.chart_in-chart.ensures
    c.monitor_at-m.ensures.value p.result p.ensures.answer _ _ _ c.number.ensures
    c.regions_told.ensures p.ensures.buffer in
    record { number = s.0; bytes = s.1; regions = s.2; fed = s.3; unchanged = refl }
