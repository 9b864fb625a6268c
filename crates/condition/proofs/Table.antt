-- The table's rule: one test over the fifteen entries, which computes, and that a relation depends on the sign of the
-- difference alone. Assumes nothing.
use mathlib.Core.Path.{◌≡◌, refl, sym, ap, ap₂, ◌∙◌}
use mathlib.Core.Bool.{Bool, true, false, So, cond, not}
use Prim.Native.Nat.{ℕ, zero, suc, ◌+◌, ◌-◌, ◌*◌, ◌/◌, ◌%◌, ◌≤◌, ◌<◌}
use native.Mathlib.Omega.{arith}
use borrow.Author.Tests.{le-leb, lt-leb, ltb-true, ltb-false}
use lib.Dec.{leb, ltb}
use lib.IntN.{ℤ, pos, negsuc, sub_ℕ, ◌-ℤ◌}
use lib.Signed.{le_z}
use lib.ListN.{get_or}
use Rattle.base.specs.Lists.{all_below}
use Rattle.base.proofs.Facts.{all_at}
use Rattle.model.specs.declared.Relation.{Relation}
use Rattle.model.specs.declared.Relation.TheVariants.{Less, AtMost, Equal, AtLeast, More}
use Rattle.condition.specs.declared.Sign.{Sign}
use Rattle.condition.specs.declared.Sign.TheVariants.{Below, Same, Above}
use Rattle.condition.specs.Condition.{related}
use Rattle.condition.specs.Table.{sign_of, table, row_of, column_of, table_says, TableRule}
use Rattle.condition.proofs.Signed.{related_by, sub_below, sub_sub, minus, order, one_clock}

abbrev relation_at : ℕ → Relation
relation_at zero = Less
relation_at (suc zero) = AtMost
relation_at (suc (suc zero)) = Equal
relation_at (suc (suc (suc zero))) = AtLeast
relation_at (suc (suc (suc (suc k)))) = More

abbrev sign_at : ℕ → Sign
sign_at zero = Below
sign_at (suc zero) = Same
sign_at (suc (suc k)) = Above

-- a difference of each sign
abbrev sample : Sign → ℤ
sample Below = negsuc 0
sample Same = pos 0
sample Above = pos 1

abbrev alike : Bool → Bool → Bool
alike true b = b
alike false b = not b

alike_is : (a b : Bool) → So (alike a b) → a ≡ b
alike_is true true t = refl
alike_is true false t = sym t
alike_is false true t = t
alike_is false false t = refl

-- entry k has the answer of its relation for a difference of its sign
abbrev entry_right : ℕ → Bool
entry_right k = alike (get_or table k false) (related (relation_at (k / 3)) (sample (sign_at (k % 3))) (pos 0))

all_right : So (all_below 15 entry_right)
all_right = refl

row_at : (e : Relation) → (row_of e < 5) × (relation_at (row_of e) ≡ e)
row_at Less = (omega arith, refl)
row_at AtMost = (omega arith, refl)
row_at Equal = (omega arith, refl)
row_at AtLeast = (omega arith, refl)
row_at More = (omega arith, refl)

column_at : (s : Sign) → (column_of s < 3) × (sign_at (column_of s) ≡ s)
column_at Below = (omega arith, refl)
column_at Same = (omega arith, refl)
column_at Above = (omega arith, refl)

entry_is : (e : Relation) (s : Sign) → table_says e s ≡ related e (sample s) (pos 0)
entry_is e s =
    let k = row_of e * 3 + column_of s in
    let h : k < 15 = omega (arith, (row_at e).0, (column_at s).0) in
    let d : k / 3 ≡ row_of e = omega (arith, (column_at s).0) in
    let m : k % 3 ≡ column_of s = omega (arith, (column_at s).0) in
    alike_is _ _ (all_at 15 entry_right all_right k h)
    ∙ ap₂ (λ (i j : ℕ). related (relation_at i) (sample (sign_at j)) (pos 0)) d m
    ∙ ap₂ (λ (r : Relation) (c : Sign). related r (sample c) (pos 0)) (row_at e).1 (column_at s).1

-- the sign of a difference of numbers that are not negative
abbrev pub sign_by : ℕ → ℕ → Sign
sign_by p q = cond (ltb p q) Below (cond (ltb q p) Above Same)

above_zero : (n : ℕ) → 0 < n → sign_of (pos n) ≡ Above
above_zero zero h = absurd (omega arith)
above_zero (suc n) h = refl

pub sub_sign : (p q : ℕ) → sign_of (sub_ℕ p q) ≡ sign_by p q
sub_sign p q = by (ltb p q) (ltb q p) refl refl
  where
    by : (t u : Bool) → ltb p q ≡ t → ltb q p ≡ u → sign_of (cond t (negsuc (q - suc p)) (pos (p - q))) ≡ cond t Below
        (cond u Above Same)
    by true u e f = refl
    by false true e f = let l : q < p = ltb-true q p f in above_zero (p - q) (omega arith)
    by false false e f =
        let l : q ≤ p = ltb-false p q e in
        let m : p ≤ q = ltb-false q p f in
        let z : p - q ≡ 0 = omega arith in
        ap (λ (n : ℕ). sign_of (pos n)) z

-- the order of two numbers, by the sign of their difference
sample_le : (p q : ℕ) → le_z (sample (sign_by p q)) (pos 0) ≡ leb p q
sample_le p q = by (ltb p q) (ltb q p) refl refl
  where
    by : (t u : Bool) → ltb p q ≡ t → ltb q p ≡ u → le_z (sample (cond t Below (cond u Above Same))) (pos 0) ≡ leb p q
    by true u e f = let l : p < q = ltb-true p q e in sym (le-leb p q (omega arith))
    by false true e f = sym (lt-leb p q (ltb-true q p f))
    by false false e f = sym (le-leb p q (ltb-false q p f))

sample_ge : (p q : ℕ) → le_z (pos 0) (sample (sign_by p q)) ≡ leb q p
sample_ge p q = by (ltb p q) (ltb q p) refl refl
  where
    by : (t u : Bool) → ltb p q ≡ t → ltb q p ≡ u → le_z (pos 0) (sample (cond t Below (cond u Above Same))) ≡ leb q p
    by true u e f = sym (lt-leb q p (ltb-true p q e))
    by false true e f = let l : q < p = ltb-true q p f in sym (le-leb q p (omega arith))
    by false false e f = sym (le-leb q p (ltb-false p q e))

-- a number as a difference
abbrev up : ℤ → ℕ
up (pos n) = n
up (negsuc n) = 0

abbrev down : ℤ → ℕ
down (pos n) = 0
down (negsuc n) = suc n

as_sub : (x : ℤ) → x ≡ sub_ℕ (up x) (down x)
as_sub (pos n) = sym (one_clock n) ∙ minus n 0
as_sub (negsuc n) =
    let e : n ≡ suc n - suc 0 = omega arith in ap negsuc e ∙ sym (sub_below 0 (suc n) (omega arith))

module _ (x y : ℤ) where
  abbrev ups : ℕ
  ups = up x + down y

  abbrev downs : ℕ
  downs = up y + down x

  sign_is : sign_of (x -ℤ y) ≡ sign_by ups downs
  sign_is =
      ap sign_of (ap₂ ◌-ℤ◌ (as_sub x) (as_sub y) ∙ sub_sub (up x) (down x) (up y) (down y)) ∙ sub_sign ups downs

  le_is : le_z x y ≡ leb ups downs
  le_is = ap₂ le_z (as_sub x) (as_sub y) ∙ order (up x) (down x) (up y) (down y)

  ge_is : le_z y x ≡ leb downs ups
  ge_is = ap₂ le_z (as_sub y) (as_sub x) ∙ order (up y) (down y) (up x) (down x)

  -- a relation depends on the sign of the difference alone
  by_sign : (e : Relation) → related e (sample (sign_of (x -ℤ y))) (pos 0) ≡ related e x y
  by_sign e =
      related_by (sample (sign_of (x -ℤ y))) (pos 0) x y
      (ap (λ (s : Sign). le_z (sample s) (pos 0)) sign_is ∙ sample_le ups downs ∙ sym le_is)
      (ap (λ (s : Sign). le_z (pos 0) (sample s)) sign_is ∙ sample_ge ups downs ∙ sym ge_is) e

says_by : (e : Relation) (s : Sign) (x y : ℤ) → sign_of (x -ℤ y) ≡ s → table_says e s ≡ related e x y
says_by e s x y q = entry_is e s ∙ ap (λ (z : Sign). related e (sample z) (pos 0)) (sym q) ∙ by_sign x y e

pub table_rule : TableRule
table_rule =
    record {
      below = λ e x y q. says_by e _ x y q;
      same = λ e x y q. says_by e _ x y q;
      above = λ e x y q. says_by e _ x y q;
    }
