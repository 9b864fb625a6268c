use Rattle.chart_value.specs.WellFormed.{region_fits}
use Rattle.chart_value.proofs.region_fits.Goals as goal

pub returns : goal.returns
unfolding region_fits
returns c =
    rw (
      c.event_fits-event.ensures,
      c.terms_fit-terms.ensures,
      c.within-resets.ensures,
      c.from.ensures,
      c.from-2.ensures,
      c.is_bare-bare.ensures,
    )
