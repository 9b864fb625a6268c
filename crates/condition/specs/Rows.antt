-- How a term is tested on numbers that are not negative, by its relation's row of the table.
use Rattle.std.specs.Prelude.{◌≡◌, Bool, cond, ℕ, ◌+◌, ◌-◌, ◌*◌, ◌/◌, ◌%◌, pos, ◌-ℤ◌, ltb, eqb}
use Rattle.model.specs.declared.Relation.{Relation}
use Rattle.condition.specs.declared.Sign.{Sign}
use Rattle.condition.specs.declared.Sign.TheVariants.{Below, Same, Above}
use Rattle.condition.specs.Condition.{signed, related}
use Rattle.condition.specs.Table.{sign_of, table_says}

abbrev pub bit : Bool → ℕ
bit b = cond b 1 0

-- the relation's row as a number: an entry a bit
abbrev pub row_bits : Relation → ℕ
row_bits e = bit (table_says e Below) + bit (table_says e Same) * 2 + bit (table_says e Above) * 4

-- the entry of a row at a sign
abbrev pub row_says : ℕ → Sign → Bool
row_says row Below = eqb (row % 2) 1
row_says row Same = eqb (row / 2 % 2) 1
row_says row Above = eqb (row / 4 % 2) 1

abbrev pub bias : ℕ
bias = 0x8000_0000

-- the number that n's 32 bits stand for, with bias added
abbrev pub biased : ℕ → ℕ
biased n = cond (ltb n bias) (bias + n) (n - bias)

-- the entry at the sign of the exact difference, a less b, from the number n, which has bias added
abbrev pub compared : ℕ → ℕ → ℕ → ℕ → Bool
compared row a b n = row_says row (sign_of ((pos a -ℤ pos b) -ℤ (pos n -ℤ pos bias)))

-- with a relation's row and n's number, for terms of both kinds: the relation of the exact difference to n
pub record TestsExactly : Type 0 where
  pub exact : (e : Relation) (row a b n : ℕ) → row % 8 ≡ row_bits e
      → compared row a b (biased n) ≡ related e (pos a -ℤ pos b) (signed n)
