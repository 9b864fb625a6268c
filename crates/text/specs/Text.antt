-- Text as a list of bytes, and numbers in decimal.
use Prim.Native.Char.{code}
use Prim.Native.String as string
use Prim.Native.String.{String}
use Rattle.std.specs.Prelude.{ℕ, zero, suc, ◌+◌, ◌*◌, ◌-◌, ◌/◌, ◌%◌, ◌≤◌, ◌<◌, ◌≡◌, cond, List, [], ◌∷◌, ◌++◌, length, get_or, ltb}

-- the bytes of a text in ASCII
unfoldable pub bytes_of : String → List ℕ
bytes_of string.[] = []
bytes_of (string.◌∷◌ c s) = code c ∷ bytes_of s

-- the byte of the digit 0
abbrev pub digit_zero : ℕ
digit_zero = 48

-- P9: the decimal digits of n, the most significant first, without leading zeros; at most k of them
unfoldable pub digits_of : ℕ → ℕ → List ℕ
digits_of zero n = []
digits_of (suc k) n = cond (ltb n 10) ((digit_zero + n) ∷ []) (digits_of k (n / 10) ++ ((digit_zero + n % 10) ∷ []))

-- 20 digits are enough for every number below 2 ^ 64
abbrev pub decimal_of : ℕ → List ℕ
decimal_of n = digits_of 20 n

-- the number that the digits of n and then these spell
abbrev pub spelt : ℕ → List ℕ → ℕ
spelt n [] = n
spelt n (d ∷ ds) = spelt (n * 10 + (d - digit_zero)) ds

-- P9: t is n in decimal: every byte is a digit and there is at least one, they spell n, the first is not 0 unless n is,
-- and 0 is one digit
pub record Spells (n : ℕ) (t : List ℕ) : Type 0 where
  pub some : 0 < length t
  pub digits : (i : ℕ) → i < length t → (digit_zero ≤ get_or t i 0) × (get_or t i 0 ≤ digit_zero + 9)
  pub number : spelt 0 t ≡ n
  pub no_leading_zero : 0 < n → digit_zero < get_or t 0 0
  pub lone_zero : n ≡ 0 → t ≡ digit_zero ∷ []
