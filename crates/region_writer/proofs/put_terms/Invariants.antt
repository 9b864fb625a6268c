-- `region_writer::put_terms` meets its contract: one term more at each turn. Assumes nothing.
use Rattle.std.proofs.Common.{◌≡◌, ◌++◌, ◌+◌, ◌*◌, ◌≤◌, []}
use Rattle.arrayvec.specs.ArrayVec.{array_vec_len}
use Rattle.chart_value.specs.Writer.{terms_bytes}
use Rattle.region_writer.proofs.put_terms.Given as goal

abbrev pub invariant-loop-t : goal.invariant-loop-t
invariant-loop-t g l = record {
  items : l.out.items ≡ l.initial.out.items ++ terms_bytes l.g l.t-index 0 [];
  short : array_vec_len l.out ≤ array_vec_len l.initial.out + 8 * l.t-index;
}
