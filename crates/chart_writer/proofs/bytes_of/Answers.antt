-- `chart_writer::bytes_of` meets its contract: the chart's parts, one after the other. Assumes nothing.
use Rattle.std.proofs.Common.{arith}
use Rattle.std.proofs.lemmas.Grind.{common_steps}
use Rattle.chart_writer.proofs.Laws.{chart_parts}
use Rattle.chart_writer.proofs.bytes_of.Goals as goal

pub returns : goal.returns
returns c = grind (arith, common_steps, chart_parts c.args.accepted.now.chart)
