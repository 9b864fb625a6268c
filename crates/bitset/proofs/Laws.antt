-- What callers use of sets: which numbers each operation's result has, and that a set is what it has.
-- Assumes nothing.
use mathlib.Core.Path.{◌≡◌, refl, sym, ap, ap₂, ◌∙◌}
use mathlib.Core.Bool.{Bool, true, false, true≢false, false≢true, not, ◌||◌, ◌&&◌}
use Prim.Native.Nat.{ℕ, zero, suc, ◌+◌, ◌-◌, ◌*◌, ◌/◌, ◌%◌, ◌^◌, ◌≤◌, ◌<◌, min, max, zero-le}
use native.Mathlib.Decide.{dec_lt, ℕ_discrete}
use native.Mathlib.Nat.{lt_of_le_of_lt, lt_of_lt_of_le, div-eq_of_lt, one-mul, div-one, zero-div, div-add-mod', pow-suc}
use native.Mathlib.Numerals.{one-add}
use native.Mathlib.Omega.{arith}
use borrow.Author.Tests.{lt-ltb, ltb-true, le-ltb, eqb-true, eq-eqb, ne_eqb}
use lib.Dec.{eqb, ltb, leb-suc-suc, eqb-zero-suc, eqb-suc-zero, eqb-suc-suc}
use lib.Pow.{pow_mono, pow_pos, shr-shr, low}
use lib.Arith.{lt-one, bin_ind}
use lib.Count.{count_trailing_zeros, under}
use lib.Bits.{and_le_l, bit_and, bit_or, and_shr, or_shr, and_step, or_step, shifted_even}
use Rattle.bitset.specs.Set.{contains, single, inserted, union, is_subset, within}

-- a digit is 0 or 1
two : (d : ℕ) → d < 2 → (P : ℕ → Type 0) → P 0 → P 1 → P d
two zero h P p q = p
two (suc zero) h P p q = q
two (suc (suc d)) h P p q = absurd (omega arith)

digit_lt : (x : ℕ) → x % 2 < 2
digit_lt x = omega arith

and_digit : (a b : ℕ) → bit_and a b % 2 ≡ min (a % 2) (b % 2)
and_digit a b = ap (λ (x : ℕ). x % 2) (and_step a b) ∙ low (bit_and (a / 2) (b / 2)) 1 (omega arith)

or_digit : (a b : ℕ) → bit_or a b % 2 ≡ max (a % 2) (b % 2)
or_digit a b = ap (λ (x : ℕ). x % 2) (or_step a b) ∙ low (bit_or (a / 2) (b / 2)) 1 (omega arith)

min_is_one : {d e : ℕ} → d < 2 → e < 2 → eqb (min d e) 1 ≡ (eqb d 1 && eqb e 1)
min_is_one {d} {e} hd he =
    two d hd (λ d. eqb (min d e) 1 ≡ (eqb d 1 && eqb e 1))
    (two e he (λ e. eqb (min 0 e) 1 ≡ (eqb 0 1 && eqb e 1)) refl refl)
    (two e he (λ e. eqb (min 1 e) 1 ≡ (eqb 1 1 && eqb e 1)) refl refl)

max_is_one : {d e : ℕ} → d < 2 → e < 2 → eqb (max d e) 1 ≡ (eqb d 1 || eqb e 1)
max_is_one {d} {e} hd he =
    two d hd (λ d. eqb (max d e) 1 ≡ (eqb d 1 || eqb e 1))
    (two e he (λ e. eqb (max 0 e) 1 ≡ (eqb 0 1 || eqb e 1)) refl refl)
    (two e he (λ e. eqb (max 1 e) 1 ≡ (eqb 1 1 || eqb e 1)) refl refl)

-- the common part
pub contains_and : (a b i : ℕ) → contains (bit_and a b) i ≡ (contains a i && contains b i)
unfolding contains
contains_and a b i =
    ap (λ (x : ℕ). eqb (x % 2) 1) (and_shr a b i) ∙ ap (λ (x : ℕ). eqb x 1) (and_digit (a / 2 ^ i) (b / 2 ^ i))
    ∙ min_is_one (digit_lt (a / 2 ^ i)) (digit_lt (b / 2 ^ i))

pub contains_union : (a b i : ℕ) → contains (union a b) i ≡ (contains a i || contains b i)
unfolding contains union
contains_union a b i =
    ap (λ (x : ℕ). eqb (x % 2) 1) (or_shr a b i) ∙ ap (λ (x : ℕ). eqb x 1) (or_digit (a / 2 ^ i) (b / 2 ^ i))
    ∙ max_is_one (digit_lt (a / 2 ^ i)) (digit_lt (b / 2 ^ i))

contains_half : (s i : ℕ) → contains (s / 2) i ≡ contains s (suc i)
unfolding contains
contains_half s i = ap (λ (x : ℕ). eqb (x % 2) 1) (shr-shr s 1 i ∙ ap (λ (k : ℕ). s / 2 ^ k) (one-add i))

pub contains_empty : (i : ℕ) → contains 0 i ≡ false
unfolding contains
contains_empty i = ap (λ (x : ℕ). eqb (x % 2) 1) (zero-div (2 ^ i))

contains_zero : (s : ℕ) → contains s 0 ≡ eqb (s % 2) 1
unfolding contains
contains_zero s = ap (λ (x : ℕ). eqb (x % 2) 1) (div-one s)

same_digit : (a b : ℕ) → eqb (a % 2) 1 ≡ eqb (b % 2) 1 → a % 2 ≡ b % 2
same_digit a b = two (a % 2) (digit_lt a) (λ x. eqb x 1 ≡ eqb (b % 2) 1 → x ≡ b % 2)
    (two (b % 2) (digit_lt b) (λ y. eqb 0 1 ≡ eqb y 1 → 0 ≡ y) (λ e. refl) (λ e. absurd (false≢true e)))
    (two (b % 2) (digit_lt b) (λ y. eqb 1 1 ≡ eqb y 1 → 1 ≡ y) (λ e. absurd (true≢false e)) (λ e. refl))

half_lt : {a : ℕ} (k : ℕ) → a < 2 ^ suc k → a / 2 < 2 ^ k
half_lt k h = let p = pow-suc 2 k in omega arith

pow_half : (j : ℕ) → 2 ^ suc j / 2 ≡ 2 ^ j
pow_half j = let p = pow-suc 2 j in omega arith

pub contains_single : (j i : ℕ) → contains (single j) i ≡ eqb i j
unfolding contains single
contains_single zero zero = refl
contains_single zero (suc i) = sym (contains_half 1 i) ∙ contains_empty i ∙ sym (eqb-suc-zero i)
contains_single (suc j) zero =
    ap (λ (x : ℕ). eqb (x % 2) 1) (div-one (2 ^ suc j) ∙ sym (one-mul (2 ^ suc j)))
    ∙ ap (λ (x : ℕ). eqb x 1) (shifted_even 1 j) ∙ sym (eqb-zero-suc j)
contains_single (suc j) (suc i) =
    sym (contains_half (2 ^ suc j) i) ∙ ap (λ (x : ℕ). contains x i) (pow_half j) ∙ contains_single j i
    ∙ sym (eqb-suc-suc i j)

-- a set after an insertion: the new member, and those it had
pub contains_inserted : (s j i : ℕ) → contains (inserted s j) i ≡ (contains s i || eqb i j)
unfolding inserted union
contains_inserted s j i = rw (contains_union s (single j) i, contains_single j i)

-- two numbers with the same members are the same number
pub same_members : (k a b : ℕ) → a < 2 ^ k → b < 2 ^ k → ((i : ℕ) → i < k → contains a i ≡ contains b i) → a ≡ b
same_members zero a b ha hb h = lt-one ha ∙ sym (lt-one hb)
same_members (suc k) a b ha hb h =
    sym (div-add-mod' a 2)
    ∙ ap₂ (λ (x y : ℕ). x * 2 + y)
    (same_members k (a / 2) (b / 2) (half_lt k ha) (half_lt k hb)
    (λ i hi. contains_half a i ∙ h (suc i) (omega arith) ∙ sym (contains_half b i)))
    (same_digit a b (sym (contains_zero a) ∙ h 0 (omega arith) ∙ contains_zero b))
    ∙ div-add-mod' b 2

-- a subset by the common part: every member of a is one of b
pub subset_members : (a b : ℕ) → is_subset a b ≡ true → (i : ℕ) → contains a i ≡ true → contains b i ≡ true
unfolding is_subset
subset_members a b h i m =
    let e : contains a i ≡ (contains a i && contains b i) = ap (λ (x : ℕ). contains x i) (sym (eqb-true _ _ h))
    ∙ contains_and a b i in
    sym (rw m at e)

pub members_subset : (k a b : ℕ) → a < 2 ^ k → ((i : ℕ) → i < k → contains a i ≡ true → contains b i ≡ true)
    → is_subset a b ≡ true
unfolding is_subset
members_subset k a b ha h =
    eq-eqb _ _ (same_members k (bit_and a b) a (lt_of_le_of_lt (and_le_l a b) ha) ha
    (λ i hi. contains_and a b i ∙ absorbs (contains a i) (contains b i) (h i hi)))
  where
    absorbs : (x y : Bool) → (x ≡ true → y ≡ true) → (x && y) ≡ x
    absorbs true y f = f refl
    absorbs false y f = refl

-- the set of all numbers below n
pub contains_below : (n i : ℕ) → contains (2 ^ n - 1) i ≡ ltb i n
contains_below zero i = contains_empty i ∙ sym (le-ltb i 0 zero-le)
contains_below (suc n) zero =
    let p = pow-suc 2 n in let q = pow_pos n in let o : (2 ^ suc n - 1) % 2 ≡ 1 = omega arith in
    contains_zero (2 ^ suc n - 1) ∙ ap (λ (x : ℕ). eqb x 1) o ∙ sym (lt-ltb 0 (suc n) (omega arith))
contains_below (suc n) (suc i) =
    let p = pow-suc 2 n in let o : (2 ^ suc n - 1) / 2 ≡ 2 ^ n - 1 = omega arith in
    sym (contains_half (2 ^ suc n - 1) i) ∙ ap (λ (x : ℕ). contains x i) o ∙ contains_below n i
    ∙ sym (leb-suc-suc (suc i) n)

-- a number that is not 0 has a member
pub some_member : (s : ℕ) → (s ≡ 0 → ⊥) → (i : ℕ) × (contains s i ≡ true)
some_member =
    bin_ind (λ (s : ℕ). (s ≡ 0 → ⊥) → (i : ℕ) × (contains s i ≡ true)) (λ h. absurd (h refl))
    (λ s ih h. by_digit s ih h (s % 2) (digit_lt s) refl)
  where
    by_digit : (s : ℕ) → ((s / 2 ≡ 0 → ⊥) → (i : ℕ) × (contains (s / 2) i ≡ true)) → (s ≡ 0 → ⊥) → (d : ℕ) → d < 2
        → s % 2 ≡ d
        → (i : ℕ) × (contains s i ≡ true)
    by_digit s ih h zero hd e =
        let r = ih (λ z. h (omega arith)) in (suc r.0, sym (contains_half s r.0) ∙ r.1)
    by_digit s ih h (suc zero) hd e = (0, contains_zero s ∙ ap (λ (x : ℕ). eqb x 1) e)
    by_digit s ih h (suc (suc d)) hd e = absurd (omega arith)

-- a member of a set of numbers below k is below k
pub member_lt : (k s i : ℕ) → s < 2 ^ k → contains s i ≡ true → i < k
unfolding contains
member_lt k s i h e = by (dec_lt i k)
  where
    by : Dec (i < k) → i < k
    by (yes l) = l
    by (no n) =
        let l : k ≤ i = omega arith in
        absurd (false≢true (ap (λ (x : ℕ). eqb (x % 2) 1) (sym (div-eq_of_lt (lt_of_lt_of_le h (pow_mono l)))) ∙ e))

-- a set whose members are below n is a number below 2 ^ n
pub within_true : (n s : ℕ) → within n s ≡ true → s < 2 ^ n
unfolding within
within_true n s e = ltb-true s (2 ^ n) e

pub lt_within : (n s : ℕ) → s < 2 ^ n → within n s ≡ true
unfolding within
lt_within n s h = lt-ltb s (2 ^ n) h

odd : (s : ℕ) → (s + 1) % 2 ≡ 0 → contains s 0 ≡ true
unfolding contains
odd s e = let q : s / 1 % 2 ≡ 1 = rw (div-one s) (omega arith) in eq-eqb (s / 1 % 2) 1 q

-- the numbers below the zeros at the end of the set's successor are members
pub trailing_members : (k s i : ℕ) → i < count_trailing_zeros k (s + 1) → contains s i ≡ true
unfolding count_trailing_zeros
trailing_members zero s i h = absurd (omega arith)
trailing_members (suc k) s i h = by ((s + 1) % 2) refl i h (λ j l. trailing_members k (s / 2) j l)
  where
    by : (r : ℕ) → (s + 1) % 2 ≡ r → (i : ℕ) → i < under r (count_trailing_zeros k ((s + 1) / 2))
        → ((j : ℕ) → j < count_trailing_zeros k (s / 2 + 1) → contains (s / 2) j ≡ true) → contains s i ≡ true
    by zero e zero l ih = odd s e
    by zero e (suc j) l ih =
        let q : (s + 1) / 2 ≡ s / 2 + 1 = omega arith in
        let m : j < count_trailing_zeros k ((s + 1) / 2) = omega arith in
        sym (contains_half s j) ∙ ih j (rw (sym q) m)
    by (suc r) e i l ih = absurd (omega arith)

-- of a set of numbers below n, at most n
pub trailing_few : (n k s : ℕ) → s < 2 ^ n → count_trailing_zeros k (s + 1) ≤ n
trailing_few n k s h = elim (dec_lt n (count_trailing_zeros k (s + 1))) [
  | yes l ↦ absurd (omega (arith, member_lt n s n h (trailing_members k s n l)))
  | no l ↦ omega arith
]

even : (s : ℕ) → (s + 1) % 2 ≡ 1 → contains s 0 ≡ false
unfolding contains
even s e = ne_eqb (s / 1 % 2) 1 (rw (div-one s) (λ f. omega arith))

-- and the number at their count is no member
pub trailing_gap : (k s : ℕ) → s < 2 ^ k → contains s (count_trailing_zeros k (s + 1)) ≡ false
unfolding count_trailing_zeros
trailing_gap zero s h = let e : s ≡ 0 = omega arith in rw e (contains_empty 0)
trailing_gap (suc k) s h =
    by ((s + 1) % 2) refl (trailing_gap k (s / 2) (let m : 2 ^ suc k ≡ 2 ^ k * 2 = pow-suc 2 k in omega arith))
  where
    by : (r : ℕ) → (s + 1) % 2 ≡ r → contains (s / 2) (count_trailing_zeros k (s / 2 + 1)) ≡ false
        → contains s (under r (count_trailing_zeros k ((s + 1) / 2))) ≡ false
    by zero e ih =
        let q : (s + 1) / 2 ≡ s / 2 + 1 = omega arith in
        rw q (sym (contains_half s (count_trailing_zeros k (s / 2 + 1))) ∙ ih)
    by (suc r) e ih = even s (omega arith)

-- what the complement has
other_digit : (m s : ℕ) → s < m * 2 → eqb ((m * 2 - 1 - s) % 2) 1 ≡ not (eqb (s % 2) 1)
other_digit m s h = elim (ℕ_discrete (s % 2) 1) [
  | yes e ↦ rw (eq-eqb (s % 2) 1 e) (ne_eqb ((m * 2 - 1 - s) % 2) 1 (λ f. omega arith))
  | no e ↦ rw (ne_eqb (s % 2) 1 e) (eq-eqb ((m * 2 - 1 - s) % 2) 1 (omega arith))
]

pub contains_others : (k s i : ℕ) → s < 2 ^ k → i < k → contains (2 ^ k - 1 - s) i ≡ not (contains s i)
unfolding contains
contains_others zero s i h l = absurd (omega arith)
contains_others (suc k) s zero h l =
    let m : 2 ^ suc k ≡ 2 ^ k * 2 = pow-suc 2 k in
    rw (m, div-one (2 ^ k * 2 - 1 - s), div-one s) (other_digit (2 ^ k) s (omega arith))
contains_others (suc k) s (suc i) h l =
    let m : 2 ^ suc k ≡ 2 ^ k * 2 = pow-suc 2 k in
    let q : (2 ^ suc k - 1 - s) / 2 ≡ 2 ^ k - 1 - s / 2 = omega arith in
    sym (contains_half (2 ^ suc k - 1 - s) i) ∙ ap (λ (x : ℕ). contains x i) q
    ∙ contains_others k (s / 2) i (omega arith) (omega arith) ∙ ap not (contains_half s i)
