-- When a condition holds, and which term fails (C9 to C12, C19), over the exact signed numbers.
use Rattle.std.specs.Prelude.{◌≡◌, Bool, false, cond, ◌&&◌, ℕ, ◌+◌, ◌<◌, ℤ, pos, ◌-ℤ◌, ltb}
use Rattle.std.proofs.Math.Bool.{So}
use Rattle.std.specs.Int.Signed.{le_z, lt_z}
use Rattle.base.specs.Lists.{fails_at}
use Rattle.model.specs.declared.Relation.{Relation}
use Rattle.model.specs.declared.Relation.TheVariants.{Less, AtMost, Equal, AtLeast, More}
use Rattle.model.specs.declared.Left.{Left}
use Rattle.model.specs.declared.Left.TheVariants.{Clock, Difference}
use Rattle.model.specs.declared.Term.{Term}
use Rattle.model.specs.declared.Region.{Region}
use Rattle.model.specs.Chart.{term_at}

-- C11: the number that 32 bits of two's complement stand for
abbrev pub signed : ℕ → ℤ
signed n = cond (ltb n 0x8000_0000) (pos n) (pos n -ℤ pos 0x1_0000_0000)

-- C10: the five relations
abbrev pub related : Relation → ℤ → ℤ → Bool
related Less x y = lt_z x y
related AtMost x y = le_z x y
related Equal x y = le_z x y && le_z y x
related AtLeast x y = le_z y x
related More x y = lt_z y x

-- C10, C12: a clock's value, or one clock's value less another's; `value` gives each clock's
abbrev pub left_of : Left → (ℕ → ℕ) → ℤ
left_of (Clock k) value = pos (value k)
left_of (Difference a b) value = pos (value a) -ℤ pos (value b)

abbrev pub term_holds : Term → (ℕ → ℕ) → Bool
term_holds t value = related t.relation (left_of t.left value) (signed t.n)

-- C9, C19: the test of a region's condition: 0 if all terms hold, otherwise the first that fails, counted from 1
abbrev pub failing_term : Region → (ℕ → ℕ) → ℕ
failing_term g value = fails_at g.count (λ j. term_holds (term_at g j) value)

-- C19, said without a search: the number that the test of a region's condition gives
pub data Tells (g : Region) (value : ℕ → ℕ) : ℕ → Type 0 where
  all_hold : ((j : ℕ) → j < g.count → So (term_holds (term_at g j) value)) → Tells g value 0
  first_fails : (j : ℕ) → j < g.count → term_holds (term_at g j) value ≡ false
      → ((i : ℕ) → i < j → So (term_holds (term_at g i) value)) → Tells g value (j + 1)
