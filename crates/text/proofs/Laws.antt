-- The decimal digits of a number are std's decimal text of it, which spells it, as no other text does. Assumes nothing.
use mathlib.Core.Path.{◌≡◌, refl, sym, ap, ◌∙◌}
use mathlib.Core.List.{List, [], ◌∷◌, ◌++◌}
use Prim.Native.Nat.{ℕ, suc, ◌/◌, ◌%◌, ◌+◌, ◌^◌, ◌≤◌, ◌<◌}
use native.Mathlib.Omega.{arith}
use native.Mathlib.Decide.{ℕ_discrete}
use borrow.Author.Tests.{lt-ltb, le-ltb}
use lib.ListN.{length, get_or}
use Rattle.std.specs.Prelude.{decimal}
use Rattle.std.proofs.lemmas.Str.Parse.{IsNumeralModel, numerals_by_fold, tells_by_index}
use Rattle.std.proofs.lemmas.Fmt.{decimal_nonempty, digits_decimal, digits_value-decimal, first_decimal, decimal_digit}
use Rattle.std.proofs.lemmas.Fmt.{decimal-digits_value, decimal_from_appends, length-decimal-le}
use Rattle.text.specs.Text.{Spells, digits_of, decimal_of, spelt}

-- a text of digits, and the number that they spell, in std's words
abbrev Digits : List ℕ → Type 0
Digits t = (i : ℕ) → i < length t → (48 ≤ get_or t i 0) × (get_or t i 0 ≤ 57)

numerals : IsNumeralModel Digits (spelt 0)
numerals = numerals_by_fold Digits tells_by_index spelt (record { empty = λ n. refl; more = λ n c cs k. refl })

spells : (n : ℕ) → n < 2 ^ 64 → Spells n (decimal n)
spells n h = record {
  some = decimal_nonempty n h;
  digits = digits_decimal numerals n h;
  number = digits_value-decimal numerals n h;
  no_leading_zero = λ p. first_decimal n p h;
  lone_zero = λ e. ap decimal e ∙ decimal_digit 0 (omega arith);
}

-- the digit 0 leads alone
alone : (n : ℕ) (t : List ℕ) → Spells n t → get_or t 0 0 ≡ 48 → length t ≡ 1
alone n t S e = elim (ℕ_discrete n 0) [
  | yes z ↦ ap length (S.lone_zero z)
  | no z ↦ absurd (omega (arith, S.no_leading_zero (omega arith)))
]

spells_only : (n : ℕ) → n < 2 ^ 64 → (t : List ℕ) → Spells n t → t ≡ decimal n
spells_only n h t S =
    sym (decimal-digits_value numerals t S.digits S.some (alone n t S) (omega (arith, S.number))) ∙ ap decimal S.number

one : (k n : ℕ) → n < 10 → digits_of (suc k) n ≡ (48 + n) ∷ []
unfolding digits_of
one k n h = rw (lt-ltb _ _ h)

more : (k n : ℕ) → 10 ≤ n → digits_of (suc k) n ≡ digits_of k (n / 10) ++ ((48 + n % 10) ∷ [])
unfolding digits_of
more k n h = rw (le-ltb _ _ h)

pub decimal_is : (n : ℕ) → n < 2 ^ 64 → decimal_of n ≡ decimal n
decimal_is n h =
    decimal_from_appends digits_of (record { one = one; more = more }) 20 n h
    (length-decimal-le 20 n (omega arith) (omega arith) h)

-- P9
pub spelling : (n : ℕ) → n < 2 ^ 64 → Spells n (decimal_of n) × ((t : List ℕ) → Spells n t → t ≡ decimal_of n)
spelling n h = rw (decimal_is n h) (spells n h, spells_only n h)

pub decimal_short : (n : ℕ) → n < 2 ^ 64 → length (decimal_of n) ≤ 20
decimal_short n h = omega (arith, ap length (decimal_is n h), length-decimal-le 20 n (omega arith) (omega arith) h)
