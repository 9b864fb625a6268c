-- `chart_writer::write` meets its contract: what the writer lays out for an accepted chart is read as that chart.
-- Assumes nothing.
use mathlib.Core.Path.{refl}
use Rattle.chart_value.proofs.Exact.{promised}
use Rattle.chart_writer.proofs.write.Goals as goal

pub returns-then-not-put_whole-clause-reads : goal.returns-then-not-put_whole-clause-reads
returns-then-not-put_whole-clause-reads c = (promised c.args.chart _ c.well_formed.0 _ refl).2.0

pub returns-clause-reads : goal.returns-clause-reads
returns-clause-reads c = (promised c.args.chart _ c.well_formed.0 _ refl).2.0
