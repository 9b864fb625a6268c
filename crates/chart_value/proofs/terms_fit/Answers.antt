-- `chart_value::terms_fit` meets its contract: the places tested so far fit. Assumes nothing.
use native.Mathlib.Omega.{arith}
use Rattle.chart_value.specs.WellFormed.{terms_fit}
use Rattle.base.proofs.Loops.{all_below_lem}
use Rattle.model.specs.Chart.{most_terms}
use Rattle.chart_value.proofs.terms_fit.Goals as goal

pub returns : goal.returns
unfolding terms_fit
returns c = rw (c.from-count.ensures, all_below_lem most_terms c.loop-j.invariant (omega arith))
