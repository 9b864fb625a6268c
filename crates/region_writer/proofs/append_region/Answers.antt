-- `region_writer::append_region` meets its contract: the region's parts, one after the other. Assumes nothing.
use Rattle.std.proofs.Common.{arith}
use Rattle.std.proofs.lemmas.Grind.{common_steps}
use Rattle.region_writer.proofs.Laws.{region_parts}
use Rattle.region_writer.proofs.append_region.Goals as goal

pub returns-clause-items : goal.returns-clause-items
returns-clause-items g c = grind (arith, common_steps, region_parts c.args.g.now)
