-- `save_claims::save_chart` meets its contract: the case that applies, alone. Assumes nothing.
use mathlib.Core.Path.{refl}
use Rattle.chart_value.proofs.Exact.{exact_test}
use Rattle.save_claims.proofs.Saving.{saves_just}
use Rattle.save_claims.proofs.save_chart.Goals as goal

pub returns : goal.returns
returns c =
    let a = c.args in
    let G = (exact_test a.chart _ c.well_formed.0 _ refl).1 in record {
      saves = saves_just a.chart G a.out.now _ _ c.write.ensures.answer c.write.ensures.buffer;
      most = λ g. c.write.ensures.short (G.1 g);
    }
