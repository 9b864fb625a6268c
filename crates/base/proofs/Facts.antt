-- Facts on searches, on the lowest number that passes a test, and on lists that grow at their end. Assumes nothing.
use mathlib.Core.Path.{◌≡◌, refl, sym, ap, ap₂, ◌∙◌}
use mathlib.Core.Logic.{◌⊎◌, inl, inr}
use mathlib.Core.Bool.{Bool, false, not, So, ◌&&◌, ◌||◌, true≢false, false≢true}
use mathlib.Core.Option.{Option, none, some}
use Prim.Native.Nat.{ℕ, zero, suc, ◌+◌, ◌≤◌, ◌<◌}
use native.Mathlib.Nat.{not-suc-le-zero}
use native.Mathlib.Omega.{arith}
use native.Mathlib.Decide.{dec_lt, ℕ_discrete}
use lib.Dec.{eqb, ltb}
use borrow.Author.Tests.{eq-eqb, ne_eqb, lt-ltb, le-ltb, not-true, not-false}
use Rattle.base.proofs.Bools.{split, clash, and_both, and_left, and_right}
use Rattle.base.specs.Lists.{Snoc, ε, ◌▸◌, size, each, all_below, count_below, first, last, is_found}
use Rattle.base.specs.Lists.{fails_at}

-- a search's value, with the equation
pub found : {A : Type 0} (o : Option A) → (o ≡ none) ⊎ ((a : A) × (o ≡ some a))
found none = inl refl
found (some a) = inr (a, refl)

pub none_some : {X : Type 0} {A : Type 0} {o : Option A} {a : A} → o ≡ none → o ≡ some a → X
none_some p q = absurd (let z : ◌≡◌ {A = ℕ} 0 1 = cc in omega arith)

pub some_same : {A : Type 0} {o : Option A} {a b : A} → o ≡ some a → o ≡ some b → a ≡ b
some_same p q = cc

pub found_none : {A : Type 0} (o : Option A) → is_found o ≡ false → o ≡ none
found_none none h = refl
found_none (some a) h = absurd (true≢false h)

pub found_some : {A : Type 0} (o : Option A) → So (is_found o) → (a : A) × (o ≡ some a)
found_some none h = absurd (false≢true h)
found_some (some a) h = (a, refl)

-- i is the lowest number below k that passes
pub record Lowest (k : ℕ) (t : ℕ → Bool) (i : ℕ) : Type 0 where
  pub below : i < k
  pub passes : So (t i)
  pub lowest : (j : ℕ) → j < k → So (t j) → i ≤ j

pub first_none : (k : ℕ) (t : ℕ → Bool) → first k t ≡ none → (j : ℕ) → j < k → t j ≡ false
first_none zero t e j h = absurd (not-suc-le-zero h)
first_none (suc k) t e j h = elim (found (first k t)) [
  | inl n ↦ elim (split (t k)) [
    | inl p ↦ none_some {a = k} e (rw (n, p))
    | inr p ↦ elim (ℕ_discrete j k) [ yes q ↦ rw q p | no q ↦ first_none k t n j (omega arith) ]
  ]
  | inr f ↦ none_some {a = f.0} e (rw f.1)
]

pub first_some : (k : ℕ) (t : ℕ → Bool) (i : ℕ) → first k t ≡ some i → Lowest k t i
first_some zero t i e = none_some refl e
first_some (suc k) t i e = elim (found (first k t)) [
  | inl n ↦ elim (split (t k)) [
    | inl p ↦
        let q : i ≡ k = some_same {a = i} {b = k} e (rw (n, p)) in
        record {
          below = omega arith;
          passes = rw q p;
          lowest = λ j h c. elim
              (ℕ_discrete j k) [ yes d ↦ omega arith | no d ↦ clash c (first_none k t n j (omega arith)) ];
        }
    | inr p ↦ none_some {o = first (suc k) t} (rw (n, p)) e
  ]
  | inr f ↦
      let q : f.0 ≡ i = some_same {o = first (suc k) t} {a = f.0} (rw f.1) e in
      let L : Lowest k t i = first_some k t i (rw q at f.1) in
      record {
        below = omega (arith, L.below);
        passes = L.passes;
        lowest = λ j h c. elim
            (ℕ_discrete j k) [ yes d ↦ omega (arith, L.below) | no d ↦ L.lowest j (omega arith) c ];
      }
]

pub first_is : (k : ℕ) (t : ℕ → Bool) (i : ℕ) → Lowest k t i → first k t ≡ some i
first_is k t i L = elim (found (first k t)) [
  | inl n ↦ clash L.passes (first_none k t n i L.below)
  | inr f ↦
      let F : Lowest k t f.0 = first_some k t f.0 f.1 in
      let q : f.0 ≡ i = omega (arith, F.lowest i L.below L.passes, L.lowest f.0 F.below F.passes) in
      rw q at f.1
]

pub first_is_none : (k : ℕ) (t : ℕ → Bool) → ((j : ℕ) → j < k → ¬ So (t j)) → first k t ≡ none
first_is_none k t h = elim (found (first k t)) [
  | inl n ↦ n
  | inr f ↦ absurd (h f.0 (first_some k t f.0 f.1).below (first_some k t f.0 f.1).passes)
]

-- i is the highest number below k that passes
pub record Highest (k : ℕ) (t : ℕ → Bool) (i : ℕ) : Type 0 where
  pub below : i < k
  pub passes : So (t i)
  pub highest : (j : ℕ) → j < k → So (t j) → j ≤ i

pub last_none : (k : ℕ) (t : ℕ → Bool) → last k t ≡ none → (j : ℕ) → j < k → t j ≡ false
last_none zero t e j h = absurd (not-suc-le-zero h)
last_none (suc k) t e j h = elim (split (t k)) [
  | inl p ↦ none_some {a = k} e (rw p)
  | inr p ↦ elim (ℕ_discrete j k) [ yes q ↦ rw q p | no q ↦ last_none k t (rw p at e) j (omega arith) ]
]

pub last_some : (k : ℕ) (t : ℕ → Bool) (i : ℕ) → last k t ≡ some i → Highest k t i
last_some zero t i e = none_some refl e
last_some (suc k) t i e = elim (split (t k)) [
  | inl p ↦
      let q : k ≡ i = some_same {o = last (suc k) t} {a = k} {b = i} (rw p) e in
      record { below = omega arith; passes = rw (← q) p; highest = λ j h c. omega arith }
  | inr p ↦
      let H : Highest k t i = last_some k t i (rw p at e) in
      record {
        below = omega (arith, H.below);
        passes = H.passes;
        highest = λ j h c. elim
            (ℕ_discrete j k) [ yes d ↦ clash (rw d at c) p | no d ↦ H.highest j (omega arith) c ];
      }
]

pub last_is : (k : ℕ) (t : ℕ → Bool) (i : ℕ) → Highest k t i → last k t ≡ some i
last_is k t i H = elim (found (last k t)) [
  | inl n ↦ clash H.passes (last_none k t n i H.below)
  | inr f ↦
      let F : Highest k t f.0 = last_some k t f.0 f.1 in
      let q : f.0 ≡ i = omega (arith, F.highest i H.below H.passes, H.highest f.0 F.below F.passes) in
      rw q at f.1
]

pub last_is_none : (k : ℕ) (t : ℕ → Bool) → ((j : ℕ) → j < k → t j ≡ false) → last k t ≡ none
last_is_none k t h = elim (found (last k t)) [
  | inl n ↦ n
  | inr f ↦ let H = last_some k t f.0 f.1 in clash H.passes (h f.0 H.below)
]

-- i is the lowest number below n that fails
pub record FailsFirst (n : ℕ) (t : ℕ → Bool) (i : ℕ) : Type 0 where
  pub below : i < n
  pub fails : t i ≡ false
  pub before : (j : ℕ) → j < i → So (t j)

pub pass_or_fail : (n : ℕ) (t : ℕ → Bool) → ((j : ℕ) → j < n → So (t j)) ⊎ ((i : ℕ) × FailsFirst n t i)
pass_or_fail n t = elim (found (first n (λ j. not (t j)))) [
  | inl e ↦ inl (λ j l. not-false (t j) (first_none n (λ i. not (t i)) e j l))
  | inr f ↦
      let L : Lowest n (λ j. not (t j)) f.0 = first_some n (λ j. not (t j)) f.0 f.1 in
      inr (
        f.0,
        record {
          below = L.below;
          fails = not-true (t f.0) L.passes;
          before = λ j l. elim (split (t j)) [
            | inl p ↦ p
            | inr p ↦ absurd (omega (arith, L.lowest j (omega (arith, L.below)) (rw p)))
          ];
        },
      )
]

-- the lowest number that fails, counted from 1
pub fails_none : (n : ℕ) (t : ℕ → Bool) → ((j : ℕ) → j < n → So (t j)) → fails_at n t ≡ 0
fails_none n t h = rw (first_is_none n (λ j. not (t j)) (λ j l e. clash (h j l) (not-true (t j) e)))

pub fails_is : (n : ℕ) (t : ℕ → Bool) (i : ℕ) → FailsFirst n t i → fails_at n t ≡ i + 1
fails_is n t i F = rw (first_is n (λ j. not (t j)) i (record {
  below = F.below;
  passes = rw F.fails;
  lowest = λ j l e. elim (dec_lt j i) [ yes b ↦ clash (F.before j b) (not-true (t j) e) | no b ↦ omega arith ];
}))

pub fails_bound : (n : ℕ) (t : ℕ → Bool) → fails_at n t ≤ n
fails_bound n t = elim (pass_or_fail n t) [
  | inl h ↦ omega (arith, fails_none n t h)
  | inr f ↦ omega (arith, f.1.below, fails_is n t f.0 f.1)
]

-- it is the same for two tests that agree below n, if the second passes every number from n on
pub fails_same : (n m : ℕ) (t u : ℕ → Bool) → n ≤ m → ((j : ℕ) → j < n → t j ≡ u j)
    → ((j : ℕ) → n ≤ j → j < m → So (u j)) → fails_at m u ≡ fails_at n t
fails_same n m t u l same rest = elim (pass_or_fail n t) [
  | inl h ↦ fails_none m u (λ j k. elim (dec_lt j n) [
    | yes b ↦ sym (same j b) ∙ h j b
    | no b ↦ rest j (omega arith) k
  ]) ∙ sym (fails_none n t h)
  | inr f ↦
      let F : FailsFirst n t f.0 = f.1 in
      fails_is m u f.0 (record {
        below = omega (arith, F.below);
        fails = sym (same f.0 F.below) ∙ F.fails;
        before = λ j k. sym (same j (omega (arith, F.below))) ∙ F.before j k;
      }) ∙ sym (fails_is n t f.0 F)
]

pub all_of : (k : ℕ) (t : ℕ → Bool) → ((j : ℕ) → j < k → So (t j)) → So (all_below k t)
all_of zero t h = refl
all_of (suc k) t h = and_both (all_of k t (λ j l. h j (omega arith))) (h k (omega arith))

pub all_at : (k : ℕ) (t : ℕ → Bool) → So (all_below k t) → (j : ℕ) → j < k → So (t j)
all_at zero t h j l = absurd (not-suc-le-zero l)
all_at (suc k) t h j l = elim (ℕ_discrete j k) [
  | yes q ↦ rw q (and_right (all_below k t) (t k) h)
  | no q ↦ all_at k t (and_left (all_below k t) (t k) h) j (omega arith)
]

pub all_same : (n : ℕ) (s t : ℕ → Bool) → ((i : ℕ) → i < n → s i ≡ t i) → all_below n s ≡ all_below n t
all_same zero s t h = refl
all_same (suc n) s t h = ap₂ ◌&&◌ (all_same n s t (λ i l. h i (omega arith))) (h n (omega arith))

-- one more number fails: the count falls by one
count_same : (k : ℕ) (f : ℕ → Bool) (i : ℕ) → k ≤ i
    → count_below k (λ j. not (eqb j i || f j)) ≡ count_below k (λ j. not (f j))
count_same zero f i h = refl
count_same (suc k) f i h =
    let ne : eqb k i ≡ false = ne_eqb k i (λ q. omega arith) in
    rw (ne, count_same k f i (omega arith))

pub count_falls : (k : ℕ) (f : ℕ → Bool) (i : ℕ) → i < k → f i ≡ false
    → suc (count_below k (λ j. not (eqb j i || f j))) ≡ count_below k (λ j. not (f j))
count_falls zero f i h u = absurd (not-suc-le-zero h)
count_falls (suc k) f i h u = elim (ℕ_discrete k i) [
  | yes q ↦ rw (q, eq-eqb i i refl, u, count_same i f i (omega arith))
  | no q ↦ elim (split (f k)) [
    | inl p ↦ rw (ne_eqb k i q, p, count_falls k f i (omega arith) u)
    | inr p ↦ rw (ne_eqb k i q, p, count_falls k f i (omega arith) u)
  ]
]

pub count_bound : (n : ℕ) (t : ℕ → Bool) → count_below n t ≤ n
count_bound zero t = omega arith
count_bound (suc n) t = elim (split (t n)) [
  | inl p ↦ rw p (omega (arith, count_bound n t))
  | inr p ↦ rw p (omega (arith, count_bound n t))
]

-- the numbers below n pass, and none after them
pub count_is : (n m : ℕ) (t : ℕ → Bool) → n ≤ m → ((j : ℕ) → j < n → So (t j))
    → ((j : ℕ) → n ≤ j → j < m → t j ≡ false) → count_below m t ≡ n
count_is n zero t l pass rest = omega arith
count_is n (suc m) t l pass rest = elim (ℕ_discrete n (suc m)) [
  | yes q ↦
      let r : count_below m t ≡ m = count_is m m t (omega arith) (λ j k. pass j (omega arith))
      (λ j a b. absurd (omega arith)) in
      rw (pass m (omega arith), r) (sym q)
  | no q ↦ rw (rest m (omega (arith, q)) (omega arith))
      (count_is n m t (omega (arith, q)) pass (λ j a b. rest j a (omega arith)))
]

-- if none passes after one that fails, those that pass are the ones below their count
pub count_below_lem : (n : ℕ) (t : ℕ → Bool) → ((j k : ℕ) → j ≤ k → k < n → t j ≡ false → t k ≡ false)
    → (j : ℕ) → j < n → t j ≡ ltb j (count_below n t)
count_below_lem n t closed j l = elim (pass_or_fail n t) [
  | inl h ↦
      rw (count_is n n t (omega arith) h (λ k a b. absurd (omega arith)), lt-ltb j n l) (h j l)
  | inr f ↦
      let F : FailsFirst n t f.0 = f.1 in
      let e : count_below n t ≡ f.0 = count_is f.0 n t (omega (arith, F.below)) F.before
      (λ k a b. closed f.0 k a b F.fails) in
      elim (dec_lt j f.0) [
        | yes b ↦ rw (e, lt-ltb j f.0 b) (F.before j b)
        | no b ↦ rw (e, le-ltb j f.0 (omega arith)) (closed f.0 j (omega arith) l F.fails)
      ]
]

pub size_each : {A B : Type 0} (f : A → B) (l : Snoc A) → size (each f l) ≡ size l
size_each f ε = refl
size_each f (l ▸ a) = ap suc (size_each f l)

pub snoc_same_init : {A : Type 0} {l m : Snoc A} {a b : A} → l ▸ a ≡ m ▸ b → l ≡ m
snoc_same_init p = cc

pub snoc_same_last : {A : Type 0} {l m : Snoc A} {a b : A} → l ▸ a ≡ m ▸ b → a ≡ b
snoc_same_last p = cc

pub empty_snoc : {X : Type 0} {A : Type 0} {l : Snoc A} {a : A} → ◌≡◌ {A = Snoc A} ε (l ▸ a) → X
empty_snoc p = absurd (let z : ◌≡◌ {A = ℕ} 0 1 = cc in omega arith)
