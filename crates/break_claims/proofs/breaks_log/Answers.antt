use mathlib.Core.Path.{refl}
use Rattle.chart_value.proofs.Exact.{exact_test}
use Rattle.break_claims.proofs.Breaking.{breaks_just}
use Rattle.break_claims.proofs.breaks_log.Goals as goal

pub returns : goal.returns
returns c =
    record {
      demand = breaks_just c.args.chart _ (exact_test c.args.chart _ c.well_formed.0 _ refl).1 _ c.breaks.ensures.answer;
      unchanged = c.breaks.ensures.unchanged;
    }
