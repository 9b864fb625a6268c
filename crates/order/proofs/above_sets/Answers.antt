-- `order::above_sets` meets its contract: the lines that it gathered are those of the chart's regions. Assumes nothing.
use Prim.Native.Nat.{ℕ, min}
use mathlib.Core.Path.{◌∙◌, ap, ap₂}
use lib.ListN.{get_or}
use native.Mathlib.Omega.{arith}
use Rattle.model.specs.Chart.{most_regions, touched_at}
use Rattle.order.specs.Order.{above_sets}
use Rattle.order.proofs.Laws.{sets_decide, same_sets}
use Rattle.order.proofs.above_sets.Goals as goal

pub returns : goal.returns
returns c =
    let chart = c.args.c in
    let r = sets_decide chart c.sets.result
    (c.sets.ensures
    ∙ ap₂ (λ (p n : ℕ). above_sets (λ i. get_or c.lines_of.result i 0) p n) c.from.ensures
    (c.min.ensures ∙ ap (λ (n : ℕ). min n most_regions) c.from-2.ensures)
    ∙ same_sets (λ i. get_or c.lines_of.result i 0) (touched_at chart) chart.prechart most_regions
    c.lines_of.ensures (min chart.count most_regions) (omega arith)) in record {
      sets = r.0;
      order = r.1;
    }
