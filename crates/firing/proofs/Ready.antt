-- Ready regions, and all regions, by masks. Assumes nothing.
use mathlib.Core.Path.{◌≡◌, refl, sym, ap, ap₂, ◌∙◌}
use mathlib.Core.Logic.{inl, inr}
use mathlib.Core.Bool.{Bool, true, false, not, So, ◌&&◌, ◌||◌, and-false, and_assoc, not-not}
use mathlib.Core.List.{List}
use Prim.Native.Nat.{ℕ, zero, suc, ◌≤◌, ◌<◌, ◌-◌, ◌^◌}
use native.Mathlib.Decide.{ℕ_discrete}
use native.Mathlib.Nat.{pow-suc}
use native.Mathlib.Omega.{arith}
use lib.ListN.{get_or}
use lib.Pow.{ones_lt}
use lib.Dec.{eqb}
use borrow.Author.Tests.{lt-ltb, ne_eqb}
use Rattle.std.specs.Prelude.{Option, Some, None, is_some}
use Rattle.bitset.specs.Set.{contains, union, is_subset}
use Rattle.bitset.proofs.Laws.{subset_members, members_subset, contains_below, contains_union}
use Rattle.base.specs.Lists.{first, some_below, is_found, all_below}
use Rattle.rounds.specs.Rows.{plain}
use Rattle.rounds.specs.Machine.{ready, ready_plain}
use Rattle.base.proofs.Bools.{split}
use Rattle.base.proofs.Facts.{all_of, all_at}
use Rattle.layout.specs.declared.Head.{Head}
use Rattle.layout.specs.View.{plan_chart, Within, Covers, Compiled}
use Rattle.firing.specs.Parts.{found_of}
use Rattle.firing.specs.Parts.{ready_by}
use Rattle.firing.proofs.Skips.{left_by, first_within, some_found}

so_same : (x y : Bool) → (So x → So y) → (So y → So x) → x ≡ y
so_same true y f g = sym (f refl)
so_same false true f g = g refl
so_same false false f g = refl

pub lt_two_pow : (n : ℕ) → n < 2 ^ n
lt_two_pow zero = omega arith
lt_two_pow (suc n) = let p = pow-suc 2 n in omega (arith, lt_two_pow n)

-- a subset by masks, where each member of m is below n
pub subset_all : (n m f : ℕ) → ((a : ℕ) → So (contains m a) → a < n)
    → is_subset m f ≡ all_below n (λ a. not (contains m a) || contains f a)
subset_all n m f small =
    so_same (is_subset m f) (all_below n _)
    (λ s. all_of n _ (λ a l. elim (split (contains m a)) [ inl p ↦ rw p (subset_members m f s a p) | inr p ↦ rw p ]))
    (λ s. members_subset m m f (lt_two_pow m) (λ a l p. rw p at (all_at n _ s a (small a p))))

-- all below n, by the set of the numbers below n
pub below_all : (n f : ℕ) → is_subset (2 ^ n - 1) f ≡ all_below n (contains f)
below_all n f =
    so_same (is_subset (2 ^ n - 1) f) (all_below n _)
    (λ s. all_of n _ (λ a l. subset_members (2 ^ n - 1) f s a (contains_below n a ∙ lt-ltb a n l)))
    (λ s. members_subset n (2 ^ n - 1) f (ones_lt n) (λ a l p. all_at n _ s a l))

-- whether something was found
pub found_is : (o : Option ℕ) → is_some o ≡ is_found (found_of o)
found_is (Some i) = refl
found_is None = refl

-- the first that passes either test, where the tests agree
pub first_same : (n : ℕ) (s t : ℕ → Bool) → ((i : ℕ) → i < n → s i ≡ t i) → first n s ≡ first n t
first_same n s t h = first_within n n s t (omega arith) h (λ i a b. absurd (omega arith))

module _ {h : Head} {keys above resets terms : List ℕ} (K : Compiled h keys above resets terms) (fired : ℕ) where
  -- a region is ready by its mask exactly if it is in the chart
  pub ready_same : (i : ℕ) → i < h.count → ready_by above fired i ≡ ready (plan_chart h keys above resets terms)
      (contains fired) i
  unfolding ready
  ready_same i l = rw (subset_all h.count (get_or above i 0) fired (λ a p. omega (arith, K.accepted.downward a i p)))

-- with the fired numbers skipped, and those that are not of p, the others of p are left
left_of : (fired p o s : ℕ) → ((i : ℕ) → i < 32 → contains o i ≡ not (contains p i)) → s ≡ union fired o
    → (j : ℕ) → j < 32 → not (contains s j) ≡ (contains p j && not (contains fired j))
left_of fired p o s h e j l = rw (e, contains_union fired o j, h j l) (by (contains fired j) (contains p j))
  where
    by : (f p : Bool) → not (f || not p) ≡ (p && not f)
    by true true = refl
    by true false = refl
    by false true = refl
    by false false = refl

-- what the search for a region of a set found
pub set_found : {count set : ℕ} → Within count set → (above : List ℕ) (fired o s : ℕ)
    → ((i : ℕ) → i < 32 → contains o i ≡ not (contains set i)) → s ≡ union fired o
    → first 32 (left_by s (λ i. is_subset (get_or above i 0) fired))
    ≡ first count (λ i. contains set i && ready_by above fired i)
set_found {count} {set} W above fired o s q e =
    first_within count 32 (left_by s (λ i. is_subset (get_or above i 0) fired))
    (λ i. contains set i && ready_by above fired i) W.few
    (λ i l. rw (left_of fired set o s q e i (omega (arith, W.few)))
    (and_assoc (contains set i) (not (contains fired i)) (is_subset (get_or above i 0) fired)))
    (λ i l m. rw (left_of fired set o s q e i m) (elim (split (contains set i)) [
      | inl p ↦ absurd (omega (arith, W.own i p))
      | inr p ↦ rw p
    ]))

-- what the search for a plain region found
pub plain_found : {h : Head} {keys above resets terms : List ℕ} → Compiled h keys above resets terms
    → (fired o s : ℕ) → ((i : ℕ) → i < 32 → contains o i ≡ not (contains h.plain i)) → s ≡ union fired o
    → first 32 (left_by s (λ i. is_subset (get_or above i 0) fired))
    ≡ ready_plain (plan_chart h keys above resets terms) (contains fired)
unfolding ready_plain plain
plain_found {h} {keys} {above} {resets} {terms} K fired o s q e =
    set_found K.within above fired o s q e
    ∙ first_same h.count _ _ (λ i l. ap₂ ◌&&◌ (K.plain i l) (ready_same K fired i l))

module _ {count : ℕ} {keys : List ℕ} {code among : ℕ} (W : Covers count keys code among) where
  -- a region with the message is in the set, and only regions are
  covered : (i : ℕ) → i < count → (contains among i && eqb (get_or keys i 0) code) ≡ eqb (get_or keys i 0) code
  covered i l = elim (ℕ_discrete (get_or keys i 0) code) [
    | yes z ↦ rw (W.has i l z)
    | no z ↦ rw (ne_eqb (get_or keys i 0) code z) (and-false (contains among i))
  ]

  beyond : (i : ℕ) → count ≤ i → contains among i ≡ false
  beyond i l = elim (split (contains among i)) [ inl m ↦ absurd (omega (arith, W.within.own i m)) | inr m ↦ m ]

  -- what the search for the ready region of a message found
  pub message_found : (above : List ℕ) (fired o s : ℕ) → ((i : ℕ) → i < 32 → contains o i ≡ not (contains among i))
      → s ≡ union fired o
      → first 32 (left_by s (λ i. eqb (get_or keys i 0) code && is_subset (get_or above i 0) fired))
      ≡ first count (λ i. eqb (get_or keys i 0) code && ready_by above fired i)
  message_found above fired o s q e =
      first_within count 32 (left_by s (λ i. eqb (get_or keys i 0) code && is_subset (get_or above i 0) fired))
      (λ i. eqb (get_or keys i 0) code && ready_by above fired i) W.within.few
      (λ i l. rw (left_of fired among o s q e i (omega (arith, W.within.few)))
      (regroup (contains among i) (contains fired i) (eqb (get_or keys i 0) code) (is_subset (get_or above i 0) fired)
      ∙ ap (λ (b : Bool). b && ready_by above fired i) (covered i l)))
      (λ i l m. rw (left_of fired among o s q e i m, beyond i l))
    where
      regroup : (p f k r : Bool) → ((p && not f) && (k && r)) ≡ ((p && k) && (not f && r))
      regroup true true true r = refl
      regroup true true false r = refl
      regroup true false true r = refl
      regroup true false false r = refl
      regroup false f k r = refl

  -- what the search for any region of a message found
  pub any_found : (o : ℕ) → ((i : ℕ) → i < 32 → contains o i ≡ not (contains among i))
      → is_found (first 32 (left_by o (λ i. eqb (get_or keys i 0) code)))
      ≡ some_below count (λ i. eqb (get_or keys i 0) code)
  any_found o q =
      ap is_found (first_within count 32 (left_by o (λ i. eqb (get_or keys i 0) code)) (λ i. eqb (get_or keys i 0) code)
      W.within.few
      (λ i l. rw (q i (omega (arith, W.within.few)), not-not (contains among i)) (covered i l))
      (λ i l m. rw (q i m, not-not (contains among i), beyond i l)))
      ∙ sym (some_found count (λ i. eqb (get_or keys i 0) code))
