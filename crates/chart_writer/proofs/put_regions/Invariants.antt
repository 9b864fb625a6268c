-- `chart_writer::put_regions` meets its contract: one region more at each turn, the 50 with the first of the main chart.
-- Assumes nothing.
use Rattle.std.proofs.Common.{◌≡◌, ◌++◌, []}
use Rattle.arrayvec.specs.ArrayVec.{array_vec_len}
use Rattle.chart_value.specs.Writer.{regions_bytes}
use Rattle.chart_writer.proofs.Laws.{Ends}
use Rattle.chart_writer.proofs.put_regions.Given as goal

abbrev pub invariant-loop-i : goal.invariant-loop-i
invariant-loop-i l = record {
  items : l.out.items ≡ l.initial.out.items ++ regions_bytes l.accepted.chart l.i 0 [];
  ends : Ends l.accepted.chart.prechart (array_vec_len l.initial.out) l.i (array_vec_len l.out);
}
