-- `save_claims::save_then_read` meets its contract: what was written stands there and is read as the chart. Assumes
-- nothing.
use mathlib.Core.Path.{refl, sym, ap, ◌∙◌}
use Prim.Native.Nat.{ℕ}
use lib.ListN.{take}
use lib.Seq.{length-take-le}
use Rattle.chart_reader.specs.Read.{read_chart}
use Rattle.chart_value.proofs.Exact.{exact_test}
use Rattle.save_claims.proofs.Saving.{in_buffer, read_back}
use Rattle.save_claims.proofs.save_then_read.Goals as goal

pub slice_bounds-read-end : goal.slice_bounds-read-end
slice_bounds-read-end c =
    let G = (exact_test c.args.chart _ c.well_formed.0 _ refl).1 in
    rw c.written_length-n.ensures (in_buffer c.args.chart G c.args.out.now _ _ c.write-saved.ensures.answer c.write-saved.ensures.buffer)

pub slice_bounds-read-end-2 : goal.slice_bounds-read-end-2
slice_bounds-read-end-2 c =
    let G = (exact_test c.args.chart _ c.well_formed.0 _ refl).1 in
    sym (length-take-le _ _
    (rw c.written_length-n.ensures (in_buffer c.args.chart G c.args.out.now _ _ c.write-saved.ensures.answer c.write-saved.ensures.buffer)))

pub returns : goal.returns
returns c =
    let G = (exact_test c.args.chart _ c.well_formed.0 _ refl).1 in
    let l = c.write-saved.new.out in
    let e = c.read-read.ensures.answer ∙ ap (λ (k : ℕ). read_chart (take k l)) c.written_length-n.ensures in
    record {
      written = e;
      again = λ n h. e ∙ read_back c.args.chart G c.args.out.now _ _ c.write-saved.ensures.answer c.write-saved.ensures.buffer n h;
    }
