use Rattle.chart_value.proofs.event_fits.Goals as goal

pub returns-in-Plain : goal.returns-in-Plain
returns-in-Plain c = rw (c.within.ensures, c.from.ensures, c.from-in-Plain.ensures, c.in-Plain.is)
