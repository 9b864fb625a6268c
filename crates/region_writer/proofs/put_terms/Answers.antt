-- `region_writer::put_terms` meets its contract: one term more at each turn. Assumes nothing.
use Rattle.std.proofs.Common.{arith}
use Rattle.std.proofs.lemmas.Grind.{common_steps}
use Rattle.region_writer.proofs.Laws.{terms_next}
use Rattle.region_writer.proofs.put_terms.Goals as goal

pub loop-t-preserved : goal.loop-t-preserved
loop-t-preserved g c = record {
  items = grind (arith, common_steps, terms_next c.args.g.now c.loop-t.t-index);
  short = omega (arith, c.loop-t.invariant.short, c.put_term.ensures.short);
}
