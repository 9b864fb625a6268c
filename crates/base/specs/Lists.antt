-- Lists that grow at their end, and tests over the numbers below a bound.
use Rattle.std.specs.Prelude.{Bool, true, false, not, cond, ◌&&◌, ◌||◌, ℕ, zero, suc, ◌+◌}
use Rattle.std.proofs.Math.Option.{Option, none, some}

infixl 50 ◌▸◌
-- `l ▸ a` is the list l followed by a: rows, stretches and lists of feeds grow this way
pub data Snoc (A : Type 0) : Type 0 where
  ε : Snoc A
  ◌▸◌ : Snoc A → A → Snoc A

module _ {A : Type 0} where
  abbrev pub size : Snoc A → ℕ
  size ε = zero
  size (l ▸ a) = suc (size l)

  -- the elements that pass the test, in order
  abbrev pub keep : (A → Bool) → Snoc A → Snoc A
  keep t ε = ε
  keep t (l ▸ a) = cond (t a) (keep t l ▸ a) (keep t l)

  -- P holds of each element, with the part of the list before it
  abbrev pub EachIn : (Snoc A → A → Type 0) → Snoc A → Type 0
  EachIn P ε = Unit {0}
  EachIn P (l ▸ a) = EachIn P l × P l a

-- p is a beginning of the list, perhaps all of it
pub data Beginning {A : Type 0} (p : Snoc A) : Snoc A → Type 0 where
  all_of_it : Beginning p p
  shorter : {l : Snoc A} {a : A} → Beginning p l → Beginning p (l ▸ a)

abbrev pub each : {A B : Type 0} → (A → B) → Snoc A → Snoc B
each f ε = ε
each f (l ▸ a) = each f l ▸ f a

-- every number below the bound passes
abbrev pub all_below : ℕ → (ℕ → Bool) → Bool
all_below zero t = true
all_below (suc k) t = all_below k t && t k

-- some number below the bound passes
abbrev pub some_below : ℕ → (ℕ → Bool) → Bool
some_below zero t = false
some_below (suc k) t = some_below k t || t k

-- how many numbers below the bound pass
abbrev pub count_below : ℕ → (ℕ → Bool) → ℕ
count_below zero t = zero
count_below (suc k) t = cond (t k) (suc (count_below k t)) (count_below k t)

-- the first option, or the second where the first has nothing
abbrev pub or_else : {A : Type 0} → Option A → Option A → Option A
or_else none b = b
or_else (some a) b = some a

-- the lowest number below the bound that passes
abbrev pub first : ℕ → (ℕ → Bool) → Option ℕ
first zero t = none
first (suc k) t = or_else (first k t) (cond (t k) (some k) none)

-- the highest number below the bound that passes
abbrev pub last : ℕ → (ℕ → Bool) → Option ℕ
last zero t = none
last (suc k) t = cond (t k) (some k) (last k t)

-- `b` if nothing was found, otherwise `f` of what was found
abbrev pub on_found : {A B : Type 0} → Option A → B → (A → B) → B
on_found none b f = b
on_found (some a) b f = f a

-- whether something was found
abbrev pub is_found : {A : Type 0} → Option A → Bool
is_found o = on_found o false (λ a. true)

-- the lowest number below the bound that fails, counted from 1; 0 if every one passes
abbrev pub fails_at : ℕ → (ℕ → Bool) → ℕ
fails_at n t = on_found (first n (λ j. not (t j))) 0 (λ j. j + 1)
