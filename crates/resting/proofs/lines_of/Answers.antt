-- `resting::lines_of` meets its contract: the loop starts with the main chart, and ends with the chart. Assumes nothing.
use Prim.Native.Nat.{ℕ, ◌<◌, ◌≤◌}
use native.Mathlib.Omega.{arith}
use mathlib.Core.Path.{◌≡◌, ap, ◌∙◌}
use Rattle.bitset.specs.Set.{contains}
use Rattle.model.specs.Chart.{most_lines, region_at, touches}
use Rattle.resting.proofs.Laws.{before_main, next_lines}
use Rattle.resting.proofs.lines_of.Goals as goal

pub loop-i-init : goal.loop-i-init
loop-i-init c = rw c.from-i.ensures (before_main _ _)

pub loop-i-preserved : goal.loop-i-preserved
loop-i-preserved c =
    let a = c.args in
    let i = c.loop-i.i in
    let main : a.c.prechart ≤ i = omega arith in
    let touched : (k : ℕ) → k < most_lines → contains c.from-touched.result k ≡ touches (region_at a.c i).event k =
    λ k l. ap (λ (x : ℕ). contains x k) c.from-touched.ensures ∙ c.touched.ensures.members k l in
    next_lines a.c (contains a.fired) i main c.from-touched.result touched _ _ c.loop-i.invariant
    (rw (← c.member.ensures) c.add.ensures)
