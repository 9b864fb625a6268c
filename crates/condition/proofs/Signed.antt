-- Differences of signed numbers, and their order, by sums that are not negative: one fact for all relations and for both
-- kinds of term. Assumes nothing.
use mathlib.Core.Path.{◌≡◌, refl, sym, ap, ap₂, ◌∙◌}
use mathlib.Core.Bool.{Bool, true, false, cond, not, ◌&&◌}
use Prim.Native.Nat.{ℕ, zero, suc, ◌+◌, ◌-◌, ◌≤◌, ◌<◌}
use native.Mathlib.Omega.{arith}
use borrow.Author.Tests.{le-leb, lt-leb, leb-true, leb-false, lt-ltb, le-ltb, ltb-true, ltb-false}
use lib.Dec.{leb, ltb}
use lib.IntN.{ℤ, pos, negsuc, sub_ℕ, ◌-ℤ◌}
use lib.Signed.{le_z, lt_z}
use Rattle.model.specs.declared.Relation.{Relation}
use Rattle.model.specs.declared.Relation.TheVariants.{Less, AtMost, Equal, AtLeast, More}
use Rattle.condition.specs.Condition.{signed, related}
use Rattle.condition.specs.Rows.{bias, biased}

leb_same : (m n m' n' : ℕ) → (m ≤ n → m' ≤ n') → (n < m → n' < m') → leb m n ≡ leb m' n'
leb_same m n m' n' f g = by (leb m n) refl
  where
    by : (t : Bool) → leb m n ≡ t → t ≡ leb m' n'
    by true e = sym (le-leb _ _ (f (leb-true _ _ e)))
    by false e = sym (lt-leb _ _ (g (leb-false _ _ e)))

ltb_not : (x y : ℕ) → ltb x y ≡ not (leb y x)
ltb_not x y = by (ltb x y) refl
  where
    by : (t : Bool) → ltb x y ≡ t → t ≡ not (leb y x)
    by true e = ap not (sym (lt-leb y x (ltb-true x y e)))
    by false e = ap not (sym (le-leb y x (ltb-false x y e)))

lt_z_not : (x y : ℤ) → lt_z x y ≡ not (le_z y x)
lt_z_not (pos a) (pos b) = ltb_not a b
lt_z_not (pos a) (negsuc b) = refl
lt_z_not (negsuc a) (pos b) = refl
lt_z_not (negsuc a) (negsuc b) = ltb_not b a

-- every relation is decided by the order, both ways
module _ (x y x' y' : ℤ) (l : le_z x y ≡ le_z x' y') (g : le_z y x ≡ le_z y' x') where
  pub related_by : (e : Relation) → related e x y ≡ related e x' y'
  related_by Less = lt_z_not x y ∙ ap not g ∙ sym (lt_z_not x' y')
  related_by AtMost = l
  related_by Equal = ap₂ ◌&&◌ l g
  related_by AtLeast = g
  related_by More = lt_z_not y x ∙ ap not l ∙ sym (lt_z_not y' x')

module _ (a b : ℕ) where
  pub sub_above : b ≤ a → sub_ℕ a b ≡ pos (a - b)
  sub_above h = rw (le-ltb a b h)

  pub sub_below : a < b → sub_ℕ a b ≡ negsuc (b - suc a)
  sub_below h = rw (lt-ltb a b h)

-- the same difference
pub sub_same : (a b m k : ℕ) → a + k ≡ m + b → sub_ℕ a b ≡ sub_ℕ m k
sub_same a b m k e = by (ltb a b) refl
  where
    by : (t : Bool) → ltb a b ≡ t → sub_ℕ a b ≡ sub_ℕ m k
    by true f =
        let l : a < b = ltb-true a b f in
        let q : b - suc a ≡ k - suc m = omega arith in
        sub_below a b l ∙ ap negsuc q ∙ sym (sub_below m k (omega arith))
    by false f =
        let l : b ≤ a = ltb-false a b f in
        let q : a - b ≡ m - k = omega arith in
        sub_above a b l ∙ ap pos q ∙ sym (sub_above m k (omega arith))

pub minus : (a b : ℕ) → pos a -ℤ pos b ≡ sub_ℕ a b
minus a zero = rw (le-ltb a 0 (omega arith)) (let e : a + 0 ≡ a - 0 = omega arith in ap pos e)
minus a (suc b) = refl

minus_below : (a b : ℕ) → negsuc a -ℤ pos b ≡ negsuc (a + b)
minus_below a zero = sub_below 0 (suc a) (omega arith) ∙ (let e : suc a - suc 0 ≡ a + 0 = omega arith in ap negsuc e)
minus_below a (suc b) = let e : suc (a + b) ≡ a + suc b = omega arith in ap negsuc e

-- a difference of differences is one of sums across
pub sub_sub : (a b m k : ℕ) → sub_ℕ a b -ℤ sub_ℕ m k ≡ sub_ℕ (a + k) (m + b)
sub_sub a b m k = by (ltb a b) (ltb m k) refl refl
  where
    by : (t u : Bool) → ltb a b ≡ t → ltb m k ≡ u → sub_ℕ a b -ℤ sub_ℕ m k ≡ sub_ℕ (a + k) (m + b)
    by true true e f =
        let l : a < b = ltb-true a b e in
        let h : m < k = ltb-true m k f in
        ap₂ ◌-ℤ◌ (sub_below a b l) (sub_below m k h)
        ∙ sub_same (suc (k - suc m)) (suc (b - suc a)) (a + k) (m + b) (omega arith)
    by true false e f =
        let l : a < b = ltb-true a b e in
        let h : k ≤ m = ltb-false m k f in
        let q : (b - suc a) + (m - k) ≡ (m + b) - suc (a + k) = omega arith in
        ap₂ ◌-ℤ◌ (sub_below a b l) (sub_above m k h) ∙ minus_below (b - suc a) (m - k) ∙ ap negsuc q
        ∙ sym (sub_below (a + k) (m + b) (omega arith))
    by false true e f =
        let l : b ≤ a = ltb-false a b e in
        let h : m < k = ltb-true m k f in
        let q : (a - b) + suc (k - suc m) ≡ (a + k) - (m + b) = omega arith in
        ap₂ ◌-ℤ◌ (sub_above a b l) (sub_below m k h) ∙ ap pos q ∙ sym (sub_above (a + k) (m + b) (omega arith))
    by false false e f =
        let l : b ≤ a = ltb-false a b e in
        let h : k ≤ m = ltb-false m k f in
        ap₂ ◌-ℤ◌ (sub_above a b l) (sub_above m k h) ∙ minus (a - b) (m - k)
        ∙ sub_same (a - b) (m - k) (a + k) (m + b) (omega arith)

-- differences are ordered as the sums across
pub order : (a b m k : ℕ) → le_z (sub_ℕ a b) (sub_ℕ m k) ≡ leb (a + k) (m + b)
order a b m k = by (ltb a b) (ltb m k) refl refl
  where
    by : (t u : Bool) → ltb a b ≡ t → ltb m k ≡ u
        → le_z (cond t (negsuc (b - suc a)) (pos (a - b))) (cond u (negsuc (k - suc m)) (pos (m - k))) ≡ leb (a + k)
        (m + b)
    by true true e f =
        leb_same (k - suc m) (b - suc a) (a + k) (m + b) (λ h. omega (arith, ltb-true, ltb-false))
        (λ h. omega (arith, ltb-true, ltb-false))
    by true false e f = sym (le-leb (a + k) (m + b) (omega (arith, ltb-true, ltb-false)))
    by false true e f = sym (lt-leb (a + k) (m + b) (omega (arith, ltb-true, ltb-false)))
    by false false e f =
        leb_same (a - b) (m - k) (a + k) (m + b) (λ h. omega (arith, ltb-true, ltb-false))
        (λ h. omega (arith, ltb-true, ltb-false))

-- C11: the number with bias added, less bias
pub signed_is : (n : ℕ) → signed n ≡ pos (biased n) -ℤ pos bias
signed_is n = by (ltb n bias) refl
  where
    by : (t : Bool) → ltb n bias ≡ t
        → cond t (pos n) (pos n -ℤ pos 0x1_0000_0000) ≡ pos (cond t (bias + n) (n - bias)) -ℤ pos bias
    by true e =
        let q : n ≡ (bias + n) - bias = omega arith in
        ap pos q ∙ sym (sub_above (bias + n) bias (omega arith)) ∙ sym (minus (bias + n) bias)
    by false e =
        let l : bias ≤ n = ltb-false n bias e in
        minus n 0x1_0000_0000 ∙ sub_same n 0x1_0000_0000 (n - bias) bias (omega arith) ∙ sym (minus (n - bias) bias)

-- a clock alone is its difference from 0
pub one_clock : (a : ℕ) → pos a -ℤ pos 0 ≡ pos a
one_clock a = let q : a + 0 ≡ a = omega arith in ap pos q
