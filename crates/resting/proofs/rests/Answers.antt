-- `resting::rests` meets its contract: each line is asked once. Assumes nothing.
use mathlib.Core.Path.{◌≡◌}
use mathlib.Core.Bool.{not, ◌||◌}
use native.Mathlib.Omega.{arith}
use Rattle.base.proofs.Loops.{all_start, all_next}
use Rattle.resting.proofs.Laws.{lines_asked}
use Rattle.resting.proofs.Exact.{exact}
use Rattle.resting.proofs.rests.Goals as goal

pub loop-k-init : goal.loop-k-init
loop-k-init c = all_start

pub loop-k-preserved : goal.loop-k-preserved
loop-k-preserved c =
    all_next c.loop-k.invariant (λ i. not (c.member.ensures i) || c.member-in-loop-k.ensures i)

pub returns : goal.returns
returns c =
    let l = c.loop-k in
    let e : l.k ≡ c.args.c.lines = omega arith in record {
      test = lines_asked _ _ _ c.requires.0 c.lines_of-l.ensures l.invariant e;
      exactly = exact _ _;
    }
