-- `chart_value::terms_fit` meets its contract: the places tested so far fit. Assumes nothing.
use Rattle.base.proofs.Loops.{AllSoFar}
use Rattle.model.specs.Chart.{term_at}
use Rattle.chart_value.specs.WellFormed.{term_placed}
use Rattle.chart_value.proofs.terms_fit.Given as goal

abbrev pub invariant-loop-j : goal.invariant-loop-j
invariant-loop-j l = AllSoFar (λ k. term_placed l.clocks l.g.count k (term_at l.g k)) l.j l.ok
