-- The search for the first number that passes a test, by a set of numbers that are skipped. Assumes nothing.
use mathlib.Core.Path.{◌≡◌, refl, sym, ◌∙◌}
use mathlib.Core.Bool.{Bool, true, false, cond, not, So, ◌&&◌, ◌||◌, or-true, and-false}
use mathlib.Core.Logic.{inl, inr}
use mathlib.Core.Option.{Option, none, some}
use Prim.Native.Nat.{ℕ, zero, suc, ◌-◌, ◌≤◌, ◌<◌}
use native.Mathlib.Decide.{dec_lt, ℕ_discrete}
use native.Mathlib.Omega.{arith}
use borrow.Author.Tests.{eq-eqb, ne_eqb}
use lib.Dec.{eqb}
use Rattle.bitset.specs.Set.{contains, inserted}
use Rattle.bitset.proofs.Laws.{contains_inserted}
use Rattle.base.specs.Lists.{first, some_below, or_else, is_found}
use Rattle.base.proofs.Bools.{split, clash, either}
use Rattle.base.proofs.Facts.{found, first_none, first_some, first_is, first_is_none}
use Rattle.base.proofs.Loops.{SoFar}

-- what is known of the first number that is no member
pub record FirstGap (s r : ℕ) : Type 0 where
  pub before : (j : ℕ) → j < r → So (contains s j)
  pub gap : contains s r ≡ false
  pub few : r ≤ 32

pub gap_of : {s r : ℕ} → ((j : ℕ) → j < r → So (contains s j)) × ((contains s r ≡ false) × (r ≤ 32)) → FirstGap s r
gap_of h = record { before = h.0; gap = h.1.0; few = h.1.1 }

-- with one more number skipped, the first that is not is higher
gap_grows : {s i u r : ℕ} → FirstGap s i → u ≡ inserted s i → FirstGap u r → i < r
gap_grows {s} {i} {u} {r} A e R = elim (dec_lt i r) [
  | yes l ↦ l
  | no l ↦ elim (ℕ_discrete r i) [
    | yes z ↦ clash (rw (e, z) (contains_inserted s i i ∙ rw (eq-eqb i i refl) (or-true (contains s i)))) R.gap
    | no z ↦ clash (rw e (contains_inserted s i r ∙ rw (A.before r (omega arith)))) R.gap
  ]
]

-- so what is left of the search grows less
pub run_less : {s i u r : ℕ} → FirstGap s i → u ≡ inserted s i → FirstGap u r → i < 32 → 32 - r < 32 - i
run_less A e R l = omega (arith, gap_grows A e R)

-- the number is not of the set and passes the test
abbrev pub left_by : ℕ → (ℕ → Bool) → ℕ → Bool
left_by skipped t j = not (contains skipped j) && t j

-- what is skipped is of the set or fails; the set is skipped; i is the first number that is not
pub record Skips (skipped : ℕ) (t : ℕ → Bool) (s i : ℕ) : Type 0 where
  pub fails : (j : ℕ) → So (contains s j) → left_by skipped t j ≡ false
  pub all : (j : ℕ) → So (contains skipped j) → So (contains s j)
  pub at : FirstGap s i

pub skips_start : {skipped : ℕ} {t : ℕ → Bool} {r : ℕ} → FirstGap skipped r → Skips skipped t skipped r
skips_start R = record { fails = λ j m. rw m; all = λ j m. m; at = R }

module _ {skipped : ℕ} {t : ℕ → Bool} {s i : ℕ} (S : Skips skipped t s i) where
  pub left : t i ≡ true → left_by skipped t i ≡ true
  left h = elim (split (contains skipped i)) [ inl m ↦ clash (S.all i m) S.at.gap | inr m ↦ rw (m, h) ]

  pub skips_more : {u r : ℕ} → u ≡ inserted s i → t i ≡ false → FirstGap u r → Skips skipped t u r
  skips_more e f R = record {
    fails = λ j m. elim (either (contains s j) (eqb j i) (sym (contains_inserted s i j) ∙ rw (← e) m)) [
      | inl k ↦ S.fails j k
      | inr q ↦ elim (ℕ_discrete j i) [
        | yes z ↦ rw (z, f) (and-false (not (contains skipped i)))
        | no z ↦ clash q (ne_eqb j i z)
      ]
    ];
    all = λ j m. rw e (contains_inserted s i j ∙ rw (S.all j m));
    at = R;
  }

  pub none_before : SoFar (left_by skipped t) false i
  none_before = record { is = λ j m. S.fails j (S.at.before j m) }

-- two searches: both tests agree below the lower bound, and from there on the first fails
pub first_within : (n m : ℕ) (s t : ℕ → Bool) → n ≤ m → ((i : ℕ) → i < n → s i ≡ t i)
    → ((i : ℕ) → n ≤ i → i < m → s i ≡ false) → first m s ≡ first n t
first_within n m s t l same rest = elim (found (first n t)) [
  | inl e ↦ first_is_none m s (λ j k p. elim (dec_lt j n) [
    | yes b ↦ clash p (same j b ∙ first_none n t e j b)
    | no b ↦ clash p (rest j (omega arith) k)
  ]) ∙ sym e
  | inr f ↦
      let L = first_some n t f.0 f.1 in
      first_is m s f.0 (record {
        below = omega (arith, L.below);
        passes = same f.0 L.below ∙ L.passes;
        lowest = λ j k p. elim (dec_lt j n) [
          | yes b ↦ L.lowest j b (sym (same j b) ∙ p)
          | no b ↦ clash p (rest j (omega arith) k)
        ];
      }) ∙ sym f.1
]

-- whether some number passes, by what the search for it finds
pub some_found : (n : ℕ) (t : ℕ → Bool) → some_below n t ≡ is_found (first n t)
some_found zero t = refl
some_found (suc n) t = rw (some_found n t) (by (first n t) (t n))
  where
    by : (o : Option ℕ) (b : Bool) → (is_found o || b) ≡ is_found (or_else o (cond b (some n) none))
    by none true = refl
    by none false = refl
    by (some i) b = refl
