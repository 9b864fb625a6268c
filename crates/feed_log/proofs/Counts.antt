-- Answers counted by their numbers. Assumes nothing.
use mathlib.Core.Path.{◌≡◌}
use mathlib.Core.Bool.{Bool, true, false, cond}
use mathlib.Core.List.{[], ◌∷◌}
use Prim.Native.Nat.{ℕ, zero, suc, ◌+◌, ◌-◌, ◌≤◌}
use native.Mathlib.Omega.{arith}
use lib.Dec.{eqb}
use lib.ListN.{get_or, set}
use Rattle.base.specs.Lists.{Snoc, ε, ◌▸◌, size, keep}
use Rattle.model.specs.declared.Answer.{Answer}
use Rattle.model.specs.declared.Answer.TheVariants.{Broken, Kept, Dropped, Entered, Moved, Quiet}
use Rattle.model.specs.Answers.{answer_number}
use Rattle.feed_log.specs.Feeds.{count_of, counts_of}

-- an answer has a number from 1 to 6
pub in_counts : (a : Answer) → (1 ≤ answer_number a) × (answer_number a ≤ 6)
in_counts (Broken n k x) = (omega arith, omega arith)
in_counts Kept = (omega arith, omega arith)
in_counts (Dropped x) = (omega arith, omega arith)
in_counts Entered = (omega arith, omega arith)
in_counts Moved = (omega arith, omega arith)
in_counts Quiet = (omega arith, omega arith)

-- no count is above the number of answers
pub count_most : (t : Answer → Bool) (ans : Snoc Answer) → size (keep t ans) ≤ size ans
count_most t ε = omega arith
count_most t (ans ▸ a) = by (t a) (count_most t ans)
  where
    by : (b : Bool) → size (keep t ans) ≤ size ans → size (cond b (keep t ans ▸ a) (keep t ans)) ≤ suc (size ans)
    by true h = omega arith
    by false h = omega arith

-- the count at an answer's place
pub count_there : (ans : Snoc Answer) (i : ℕ) → get_or (counts_of ans) i 0 ≤ size ans
count_there ans zero = count_most (λ a. eqb (answer_number a) 1) ans
count_there ans (suc zero) = count_most (λ a. eqb (answer_number a) 2) ans
count_there ans (suc (suc zero)) = count_most (λ a. eqb (answer_number a) 3) ans
count_there ans (suc (suc (suc zero))) = count_most (λ a. eqb (answer_number a) 4) ans
count_there ans (suc (suc (suc (suc zero)))) = count_most (λ a. eqb (answer_number a) 5) ans
count_there ans (suc (suc (suc (suc (suc zero))))) = count_most (λ a. eqb (answer_number a) 6) ans
count_there ans (suc (suc (suc (suc (suc (suc i)))))) = omega arith

more : (n : ℕ) → n + 1 ≡ suc n
more n = omega arith

-- one more answer is one more at its place
pub counted : (ans : Snoc Answer) (a : Answer)
    → set (counts_of ans) (answer_number a - 1) (get_or (counts_of ans) (answer_number a - 1) 0 + 1) ≡ counts_of (ans ▸ a)
counted ans (Broken n k x) = let z = more (count_of 1 ans) in λ i. z i ∷ count_of 2 ans ∷ count_of 3 ans ∷ count_of 4 ans ∷ count_of 5 ans ∷ count_of 6 ans ∷ []
counted ans Kept = let z = more (count_of 2 ans) in λ i. count_of 1 ans ∷ z i ∷ count_of 3 ans ∷ count_of 4 ans ∷ count_of 5 ans ∷ count_of 6 ans ∷ []
counted ans (Dropped x) = let z = more (count_of 3 ans) in λ i. count_of 1 ans ∷ count_of 2 ans ∷ z i ∷ count_of 4 ans ∷ count_of 5 ans ∷ count_of 6 ans ∷ []
counted ans Entered = let z = more (count_of 4 ans) in λ i. count_of 1 ans ∷ count_of 2 ans ∷ count_of 3 ans ∷ z i ∷ count_of 5 ans ∷ count_of 6 ans ∷ []
counted ans Moved = let z = more (count_of 5 ans) in λ i. count_of 1 ans ∷ count_of 2 ans ∷ count_of 3 ans ∷ count_of 4 ans ∷ z i ∷ count_of 6 ans ∷ []
counted ans Quiet = let z = more (count_of 6 ans) in λ i. count_of 1 ans ∷ count_of 2 ans ∷ count_of 3 ans ∷ count_of 4 ans ∷ count_of 5 ans ∷ z i ∷ []
