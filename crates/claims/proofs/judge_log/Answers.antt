use mathlib.Core.Path.{refl}
use Rattle.chart_value.proofs.Exact.{exact_test}
use Rattle.claims.proofs.Judging.{judges_just}
use Rattle.claims.proofs.judge_log.Goals as goal

pub returns : goal.returns
returns c = record {
  demand = judges_just c.args.chart
      (exact_test c.args.chart _ c.well_formed.0 _ refl).1 _ _
      c.judge.ensures.verdict;
  unchanged = c.judge.ensures.unchanged;
}
