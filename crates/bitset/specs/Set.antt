-- N4: sets of numbers, as the binary digits of a number.
use Rattle.std.specs.Prelude.{ℕ, ◌/◌, ◌%◌, ◌^◌, Bool, eqb, ltb}
use Rattle.std.specs.Int.Bits.{bit_and, bit_or}

-- i is a member: digit i is 1
unfoldable pub contains : ℕ → ℕ → Bool
contains s i = eqb (s / 2 ^ i % 2) 1

-- the set of i alone
unfoldable pub single : ℕ → ℕ
single i = 2 ^ i

unfoldable pub inserted : ℕ → ℕ → ℕ
inserted s i = bit_or s (single i)

unfoldable pub union : ℕ → ℕ → ℕ
union a b = bit_or a b

-- every member of a is a member of b: the common part of both is a
unfoldable pub is_subset : ℕ → ℕ → Bool
is_subset a b = eqb (bit_and a b) a

-- every member is below n
unfoldable pub within : ℕ → ℕ → Bool
within n s = ltb s (2 ^ n)
