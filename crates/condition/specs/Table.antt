-- The table that decides terms (C18): a row for each relation, an entry for each sign of the exact difference.
use Rattle.std.specs.Prelude.{◌≡◌, Bool, true, false, List, [], ◌∷◌, ℕ, zero, suc, ◌+◌, ◌*◌, ℤ, pos, negsuc, ◌-ℤ◌, get_or}
use Rattle.model.specs.declared.Relation.{Relation}
use Rattle.model.specs.Numbers.{relation_number}
use Rattle.condition.specs.declared.Sign.{Sign}
use Rattle.condition.specs.declared.Sign.TheVariants.{Below, Same, Above}
use Rattle.condition.specs.Condition.{related}

abbrev pub sign_of : ℤ → Sign
sign_of (negsuc k) = Below
sign_of (pos zero) = Same
sign_of (pos (suc k)) = Above

-- the rows of <, ≤, =, ≥ and >; in each the entries for a difference below zero, for zero, and for one above zero
abbrev pub table : List Bool
table = true ∷ false ∷ false
    ∷ true ∷ true ∷ false
    ∷ false ∷ true ∷ false
    ∷ false ∷ true ∷ true
    ∷ false ∷ false ∷ true ∷ []

abbrev pub row_of : Relation → ℕ
row_of e = relation_number e

abbrev pub column_of : Sign → ℕ
column_of Below = 0
column_of Same = 1
column_of Above = 2

abbrev pub table_says : Relation → Sign → Bool
table_says e s = get_or table (row_of e * 3 + column_of s) false

-- each entry is yes exactly if its relation holds for differences of its sign
pub record TableRule : Type 0 where
  pub below : (e : Relation) (x y : ℤ) → sign_of (x -ℤ y) ≡ Below → table_says e Below ≡ related e x y
  pub same : (e : Relation) (x y : ℤ) → sign_of (x -ℤ y) ≡ Same → table_says e Same ≡ related e x y
  pub above : (e : Relation) (x y : ℤ) → sign_of (x -ℤ y) ≡ Above → table_says e Above ≡ related e x y
