-- The tests joined as the definition joins them. Assumes nothing.
use Rattle.monitor.specs.Fit.{break_fits}
use Rattle.monitor.proofs.break_fits.Goals as goal

pub returns : goal.returns
unfolding break_fits
returns c = rw (c.eq-none.ensures, c.eq-whole.ensures, c.no_cause.ensures, c.no_break.ensures, ← c.cause_fits.ensures)
