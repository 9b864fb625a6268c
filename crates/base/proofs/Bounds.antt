-- What stands in a list. Assumes nothing.
use mathlib.Core.Logic.{◌≢◌}
use mathlib.Core.List.{List}
use Prim.Native.Nat.{ℕ, ◌≤◌, ◌<◌}
use native.Mathlib.Omega.{arith}
use native.Mathlib.Decide.{dec_lt}
use lib.ListN.{length, get_or, get_or-eq_default}

-- beyond its end a list reads as 0, so a number that is not 0 stands before it
pub inside : (s : List ℕ) (i : ℕ) → get_or s i 0 ≢ 0 → i < length s
inside s i h = elim (dec_lt i (length s)) [
  | yes l ↦ l
  | no l ↦ let k : length s ≤ i = omega arith in absurd (h (get_or-eq_default s 0 k))
]
