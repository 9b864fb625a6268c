-- The sums have the exact difference. Assumes nothing.
use mathlib.Core.Path.{◌∙◌, ap₂}
use Prim.Native.Nat.{ℕ, ◌+◌}
use lib.IntN.{pos, ◌-ℤ◌}
use Rattle.condition.specs.Table.{sign_of}
use Rattle.condition.specs.Rows.{bias, row_says}
use Rattle.condition.proofs.Rows.{exact_sums, tests_exactly}
use Rattle.condition.proofs.compares.Goals as goal

pub returns-clause-value : goal.returns-clause-value
returns-clause-value c =
    let a = c.args in
    c.row_says.ensures
    ∙ ap₂ (λ (x y : ℕ). row_says a.row (sign_of (pos (bias + x) -ℤ pos (a.n + y)))) c.from-x.ensures c.from.ensures
    ∙ exact_sums a.row a.first.0 a.second.0 a.n

pub returns-clause-exact : goal.returns-clause-exact
returns-clause-exact c = tests_exactly
