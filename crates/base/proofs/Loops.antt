-- What a loop over the numbers below a bound keeps. Assumes nothing.
use mathlib.Core.Path.{◌≡◌, refl}
use mathlib.Core.Logic.{inl, inr}
use mathlib.Core.Bool.{Bool, true, false, or-true, ◌&&◌, false≢true}
use mathlib.Core.Option.{none, some}
use Prim.Native.Nat.{ℕ, zero, suc, ◌+◌, ◌≤◌, ◌<◌}
use native.Mathlib.Decide.{dec_lt, ℕ_discrete}
use native.Mathlib.Nat.{not-suc-le-zero}
use native.Mathlib.Numerals.{add-one}
use native.Mathlib.Omega.{arith}
use Rattle.base.specs.Lists.{all_below, some_below, first, fails_at}
use Rattle.base.proofs.Bools.{clash, either}
use Rattle.base.proofs.Facts.{first_is, first_is_none, fails_none, fails_is}

-- the test gave b for every number below k
pub record SoFar (t : ℕ → Bool) (b : Bool) (k : ℕ) : Type 0 where
  pub is : (j : ℕ) → j < k → t j ≡ b

pub at_start : {t : ℕ → Bool} {b : Bool} → SoFar t b 0
at_start = record { is = λ j l. absurd (not-suc-le-zero l) }

pub one_more : {t : ℕ → Bool} {b : Bool} {k : ℕ} → SoFar t b k → t k ≡ b → SoFar t b (k + 1)
one_more {k = k} S h = record { is = λ j l. elim (ℕ_discrete j k) [ yes q ↦ rw q h | no q ↦ S.is j (omega arith) ] }

pub none_passes : {t : ℕ → Bool} {k : ℕ} (n : ℕ) → SoFar t false k → n ≤ k → first n t ≡ none
none_passes {t} n S q = first_is_none n t (λ j l e. clash e (S.is j (omega arith)))

pub first_passes : {t : ℕ → Bool} {k : ℕ} (n : ℕ) → SoFar t false k → t k ≡ true → k < n → first n t ≡ some k
first_passes {t} {k} n S h l = first_is n t k (record {
  below = l;
  passes = h;
  lowest = λ j m e. elim (dec_lt j k) [ yes b ↦ clash e (S.is j b) | no b ↦ omega arith ];
})

pub none_fails : {t : ℕ → Bool} {k : ℕ} (n : ℕ) → SoFar t true k → ((j : ℕ) → k ≤ j → j < n → t j ≡ true)
    → fails_at n t ≡ 0
none_fails {t} {k} n S h = fails_none n t (λ j l. elim (dec_lt j k) [ yes b ↦ S.is j b | no b ↦ h j (omega arith) l ])

pub first_fails : {t : ℕ → Bool} {k : ℕ} (n : ℕ) → SoFar t true k → t k ≡ false → k < n → fails_at n t ≡ k + 1
first_fails {t} {k} n S h l = fails_is n t k (record { below = l; fails = h; before = S.is })

pub one_passes : (t : ℕ → Bool) (k n : ℕ) → k < n → t k ≡ true → some_below n t ≡ true
one_passes t k zero l h = absurd (not-suc-le-zero l)
one_passes t k (suc n) l h = elim (ℕ_discrete k n) [
  | yes q ↦ rw (← q, h) (or-true (some_below k t))
  | no q ↦ rw (one_passes t k n (omega arith) h)
]

pub some_at : (n : ℕ) (t : ℕ → Bool) → some_below n t ≡ true → (i : ℕ) × (t i ≡ true) × (i < n)
some_at zero t h = absurd (false≢true h)
some_at (suc n) t h = elim (either (some_below n t) (t n) h) [
  | inl p ↦ let s = some_at n t p in (s.0, s.1, omega (arith, s.2))
  | inr p ↦ (n, p, omega arith)
]

pub none_some : {t : ℕ → Bool} (n : ℕ) → SoFar t false n → some_below n t ≡ false
none_some zero S = refl
none_some (suc n) S = rw (none_some n (record { is = λ j l. S.is j (omega arith) }), S.is n (omega arith))

-- b: every number below k passes; such a loop runs to its end
pub record AllSoFar (t : ℕ → Bool) (k : ℕ) (b : Bool) : Type 0 where
  pub is : b ≡ all_below k t

pub all_start : {t : ℕ → Bool} → AllSoFar t 0 true
all_start = record { is = refl }

pub all_next : {t : ℕ → Bool} {k : ℕ} {b : Bool} {x : Bool} → AllSoFar t k b → x ≡ t k → AllSoFar t (k + 1) (b && x)
all_next S h = record { is = rw (add-one, h, S.is) }

pub all_below_lem : {t : ℕ → Bool} {k : ℕ} {b : Bool} (n : ℕ) → AllSoFar t k b → k ≡ n → b ≡ all_below n t
all_below_lem n S q = rw (← q) S.is
