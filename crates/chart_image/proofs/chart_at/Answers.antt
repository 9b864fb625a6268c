-- `chart_image::chart_at` meets its contract: zeros, or each field as it is read. Assumes nothing.
use Rattle.chart_image.specs.ChartImage.{chart_value_of}
use mathlib.Core.Path.{sym, ◌∙◌}
use Rattle.chart_image.proofs.chart_at.Goals as goal

pub returns-then-not-is_image-clause-value : goal.returns-then-not-is_image-clause-value
unfolding chart_value_of
returns-then-not-is_image-clause-value c =
    let e = sym c.is_image.ensures ∙ c.if-not-is_image.true in rw e c.zero_chart.ensures

pub returns-clause-value : goal.returns-clause-value
unfolding chart_value_of
returns-clause-value c =
    let e = sym c.is_image.ensures ∙ c.if-not-is_image.false in
    rw (
      e,
      c.byte_at-4.ensures.value,
      c.byte_at-3.ensures.value,
      c.byte_at-2.ensures.value,
      c.byte_at.ensures.value,
      c.regions_at-regions.ensures,
    )
