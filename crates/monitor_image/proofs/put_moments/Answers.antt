-- `monitor_image::put_moments` meets its contract: the eight moments are all. Assumes nothing.
use mathlib.Core.Path.{ap, ◌∙◌}
use mathlib.Core.List.{List, ◌++◌}
use Prim.Native.Nat.{ℕ}
use Rattle.monitor_image.proofs.Laws.{all_moments}
use Rattle.monitor_image.proofs.put_moments.Goals as goal

pub returns-clause-items : goal.returns-clause-items
returns-clause-items c =
    let all = all_moments c.args.resets.now c.loop-r.r-index c.told-resets c.loop-r-test.false in
    c.loop-r.invariant.items ∙ ap (λ (t : List ℕ). c.args.out.now.items ++ t) all
