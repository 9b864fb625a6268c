-- A row read at a sign is the table's entry, so that a term's test is its relation of the exact difference. Assumes
-- nothing.
use mathlib.Core.Path.{◌≡◌, refl, sym, ap, ap₂, ◌∙◌}
use mathlib.Core.Bool.{Bool, true, false}
use Prim.Native.Nat.{ℕ, ◌+◌, ◌*◌, ◌/◌, ◌%◌, ◌<◌}
use native.Mathlib.Omega.{arith}
use lib.Dec.{eqb}
use lib.IntN.{ℤ, pos, sub_ℕ, ◌-ℤ◌}
use Rattle.model.specs.declared.Relation.{Relation}
use Rattle.condition.specs.declared.Sign.{Sign}
use Rattle.condition.specs.declared.Sign.TheVariants.{Below, Same, Above}
use Rattle.condition.specs.Condition.{related}
use Rattle.condition.specs.Table.{sign_of, table_says, TableRule}
use Rattle.condition.specs.Rows.{bit, row_bits, row_says, bias, biased, compared, TestsExactly}
use Rattle.condition.proofs.Signed.{minus, sub_sub, signed_is}
use Rattle.condition.proofs.Table.{table_rule}

bit_is : (b : Bool) → eqb (bit b) 1 ≡ b
bit_is true = refl
bit_is false = refl

pub bit_fits : (b : Bool) → bit b < 2
bit_fits true = omega arith
bit_fits false = omega arith

-- three bits taken apart
module _ (b s a : Bool) (row : ℕ) (h : row % 8 ≡ bit b + bit s * 2 + bit a * 4) where
  below_bit : eqb (row % 2) 1 ≡ b
  below_bit =
      let e : row % 2 ≡ bit b = omega (arith, bit_fits b, bit_fits s, bit_fits a) in
      ap (λ (n : ℕ). eqb n 1) e ∙ bit_is b

  same_bit : eqb (row / 2 % 2) 1 ≡ s
  same_bit =
      let e : row / 2 % 2 ≡ bit s = omega (arith, bit_fits b, bit_fits s, bit_fits a) in
      ap (λ (n : ℕ). eqb n 1) e ∙ bit_is s

  above_bit : eqb (row / 4 % 2) 1 ≡ a
  above_bit =
      let e : row / 4 % 2 ≡ bit a = omega (arith, bit_fits b, bit_fits s, bit_fits a) in
      ap (λ (n : ℕ). eqb n 1) e ∙ bit_is a

module _ (R : TableRule) (e : Relation) (row : ℕ) (h : row % 8 ≡ row_bits e) where
  -- the row of a relation, read at the sign of a difference, is the relation
  row_related : (x y : ℤ) → row_says row (sign_of (x -ℤ y)) ≡ related e x y
  row_related x y = by (sign_of (x -ℤ y)) refl
    where
      by : (s : Sign) → sign_of (x -ℤ y) ≡ s → row_says row s ≡ related e x y
      by Below q = below_bit (table_says e Below) (table_says e Same) (table_says e Above) row h ∙ R.below e x y q
      by Same q = same_bit (table_says e Below) (table_says e Same) (table_says e Above) row h ∙ R.same e x y q
      by Above q = above_bit (table_says e Below) (table_says e Same) (table_says e Above) row h ∙ R.above e x y q

pub tests_exactly : TestsExactly
tests_exactly =
    record {
      exact = λ e row a b n h. row_related table_rule e row h (pos a -ℤ pos b) (pos (biased n) -ℤ pos bias)
          ∙ ap (related e (pos a -ℤ pos b)) (sym (signed_is n));
    }

-- the sums whose difference is the exact one
pub exact_sums : (row a b n : ℕ) → row_says row (sign_of (pos (bias + a) -ℤ pos (n + b))) ≡ compared row a b n
exact_sums row a b n =
    let q : (bias + a) ≡ a + bias = omega arith in
    ap (λ (d : ℤ). row_says row (sign_of d))
    (minus (bias + a) (n + b) ∙ ap (λ (m : ℕ). sub_ℕ m (n + b)) q ∙ sym (sub_sub a b n bias)
    ∙ sym (ap₂ ◌-ℤ◌ (minus a b) (minus n bias)))
