-- Lines of text with bytes in hexadecimal.
use Rattle.std.specs.Prelude.{ℕ, zero, suc, ◌+◌, ◌*◌, ◌-◌, ◌/◌, ◌%◌, cond, ◌&&◌, List, [], ◌∷◌, length, get_or, set, eqb, leb, ltb}

-- the first of the n offsets from `at` on at which the byte stands; the offset after them if it stands at none
unfoldable pub first_among : ℕ → List ℕ → ℕ → ℕ → ℕ
first_among zero s at byte = at
first_among (suc n) s at byte = cond (eqb (get_or s at 0) byte) at (first_among n s (at + 1) byte)

-- the first offset from `from` on, and before `to`, at which the byte stands; `to` if it stands at none
abbrev pub first_of : List ℕ → ℕ → ℕ → ℕ → ℕ
first_of s from to byte = first_among (to - from) s from byte

-- the value of a hexadecimal digit, 0 to 9 and a to f in ASCII; 16 of any other byte
abbrev pub digit_of : ℕ → ℕ
digit_of b = cond (leb 48 b && leb b 57) (b - 48) (cond (leb 97 b && leb b 102) (b - 87) 16)

-- and the digit of the lower half of a byte
abbrev pub low_digit : ℕ → ℕ
low_digit b = cond (ltb (b % 16) 10) (48 + b % 16) (87 + b % 16)

-- a buffer, and how many digits were put into it
pub record Filled : Type 0 where
  pub bytes : List ℕ
  pub digits : ℕ

abbrev pub filled_with : List ℕ → ℕ → Filled
filled_with l n = record { bytes = l; digits = n }

-- the lower half of a byte, and a digit after it
abbrev pub with_digit : ℕ → ℕ → ℕ
with_digit byte d = byte % 16 * 16 + d

-- a digit in its place, two digits to a byte
abbrev pub digit_put : Filled → ℕ → Filled
digit_put f d =
    filled_with (set f.bytes (f.digits / 2) (with_digit (get_or f.bytes (f.digits / 2) 0) d)) (f.digits + 1)

-- one digit more; beyond the buffer's length it is left out
abbrev pub digit_more : Filled → ℕ → Filled
digit_more f d = cond (ltb (f.digits / 2) (length f.bytes)) (digit_put f d) f

-- one byte of a text: its digit, or passed over if it is no digit
abbrev pub byte_more : Filled → ℕ → Filled
byte_more f b = cond (ltb (digit_of b) 16) (digit_more f (digit_of b)) f

-- the bytes of a text, from the left
unfoldable pub filled_by : Filled → List ℕ → Filled
filled_by f [] = f
filled_by f (b ∷ s) = filled_by (byte_more f b) s
