-- A term's word holds exactly if the term does, and of the four words of a region the first that fails is that of the
-- first term that does. Assumes nothing.
use mathlib.Core.Path.{◌≡◌, refl, sym, ap, ◌∙◌}
use mathlib.Core.Bool.{Bool, true, cond, not, ◌&&◌, ◌||◌}
use mathlib.Core.Logic.{◌⊎◌, inl, inr}
use Prim.Native.Nat.{ℕ, ◌+◌, ◌*◌, ◌/◌, ◌%◌, ◌≤◌, ◌<◌}
use native.Mathlib.Omega.{arith}
use borrow.Author.Tests.{ltb-true, lt-ltb, le-ltb, eq-eqb, ne_eqb}
use lib.Dec.{eqb, ltb}
use lib.IntN.{ℤ, pos, ◌-ℤ◌}
use Rattle.base.proofs.Bools.{both}
use Rattle.base.proofs.Facts.{fails_same, count_is}
use Rattle.model.specs.declared.Term.{Term}
use Rattle.model.specs.declared.Region.{Region}
use Rattle.model.specs.declared.Left.{Left}
use Rattle.model.specs.declared.Left.TheVariants.{Clock, Difference}
use Rattle.model.specs.declared.Relation.{Relation}
use Rattle.model.specs.declared.Relation.TheVariants.{Less, AtMost, Equal, AtLeast, More}
use Rattle.model.specs.Chart.{most_clocks, most_terms, term_at}
use Rattle.condition.specs.Condition.{signed, related, left_of, term_holds, failing_term}
use Rattle.condition.specs.Rows.{row_bits, biased, compared}
use Rattle.condition.proofs.Signed.{one_clock}
use Rattle.condition.proofs.Rows.{tests_exactly}
use Rattle.base.specs.Lists.{count_below, fails_at}
use Rattle.chart_value.specs.WellFormed.{left_fits}
use Rattle.layout.specs.View.{second_place, row_place, number_place, clock_codes, first_of, second_of}
use Rattle.layout.specs.View.{second_value, tested, holds_by, InChart}
use Rattle.plan.specs.Words.{first_clock, second_clock, word_of, word_at}

-- a word taken apart
module _ (n r s f : ℕ) (hr : r < 8) (hs : s < clock_codes) (hf : f < clock_codes) where
  packed : ℕ
  packed = n * number_place + r * row_place + s * second_place + f

  first_of_lem : first_of packed ≡ f
  unfolding packed
  first_of_lem = omega arith

  second_of_lem : second_of packed ≡ s
  unfolding packed
  second_of_lem =
      let e : packed / second_place ≡ (n * 16 + r) * clock_codes + s = omega arith in
      let g : ((n * 16 + r) * clock_codes + s) % clock_codes ≡ s = omega arith in
      rw (e, g)

  row_of : packed / row_place % 8 ≡ r
  unfolding packed
  row_of =
      let e : packed / row_place ≡ n * 16 + r = omega arith in
      let g : (n * 16 + r) % 8 ≡ r = omega arith in
      rw (e, g)

  number_of : packed / number_place ≡ n
  unfolding packed
  number_of = omega arith

  unpack : (v : ℕ → ℕ) → tested packed (v (first_of packed)) (second_value packed v)
      ≡ compared (packed / row_place) (v f) (cond (ltb s most_clocks) (v s) 0) n
  unpack v = rw (first_of_lem, second_of_lem, number_of)

-- a relation's row says yes somewhere
row_fits : (e : Relation) → (0 < row_bits e) × (row_bits e < 8)
row_fits Less = (omega arith, omega arith)
row_fits AtMost = (omega arith, omega arith)
row_fits Equal = (omega arith, omega arith)
row_fits AtLeast = (omega arith, omega arith)
row_fits More = (omega arith, omega arith)

-- no term's word is 0
pub word_is : (t : Term) → ¬ (word_of t ≡ 0)
word_is t z = omega (arith, (row_fits t.relation).0)

-- the clocks of a term that fits
record Names (clocks : ℕ) (l : Left) : Type 0 where
  first : first_clock l < clocks
  second : (second_clock l < clocks) ⊎ (most_clocks ≤ second_clock l)
  codes : (first_clock l < clock_codes) × (second_clock l < clock_codes)
  value : (v : ℕ → ℕ) → pos (v (first_clock l)) -ℤ pos
      (cond (ltb (second_clock l) most_clocks) (v (second_clock l)) 0) ≡ left_of l v

names : (clocks : ℕ) (l : Left) → clocks ≤ most_clocks → left_fits clocks l ≡ true → Names clocks l
names clocks (Clock a) k f =
    let l : a < clocks = ltb-true _ _ f in
    record { first = l; second = inr (omega arith); codes = (omega arith, omega arith); value = λ v. one_clock (v a) }
names clocks (Difference a b) k f =
    let p = both (ltb a clocks) (ltb b clocks && not (eqb a b)) f in
    let l : a < clocks = ltb-true _ _ p.0 in
    let m : b < clocks = ltb-true _ _ (both (ltb b clocks) (not (eqb a b)) p.1).0 in
    record {
      first = l;
      second = inl m;
      codes = (omega arith, omega arith);
      value = λ v. rw (lt-ltb b most_clocks (omega arith));
    }

-- the word of a term that fits; nothing is asked of the values
module _ (clocks : ℕ) (t : Term) (k : clocks ≤ most_clocks) (f : left_fits clocks t.left ≡ true) where
  abbrev N : Names clocks t.left
  N = names clocks t.left k f

  pub word_holds : (v : ℕ → ℕ) → holds_by (word_of t) v ≡ term_holds t v
  unfolding packed holds_by
  word_holds v =
      let w = word_of t in
      let s = cond (ltb (second_clock t.left) most_clocks) (v (second_clock t.left)) 0 in
      ap (λ (b : Bool). b || tested w (v (first_of w)) (second_value w v)) (ne_eqb w 0 (word_is t))
      ∙ unpack (biased t.n) (row_bits t.relation) (second_clock t.left) (first_clock t.left)
      (row_fits t.relation).1 N.codes.1 N.codes.0 v
      ∙ tests_exactly.exact t.relation (w / row_place) (v (first_clock t.left)) s t.n
      (row_of (biased t.n) (row_bits t.relation) (second_clock t.left) (first_clock t.left)
      (row_fits t.relation).1 N.codes.1 N.codes.0)
      ∙ ap (λ (x : ℤ). related t.relation x (signed t.n)) (N.value v)

  pub word_named : InChart clocks (word_of t)
  unfolding packed
  word_named =
      let p = first_of_lem (biased t.n) (row_bits t.relation) (second_clock t.left) (first_clock t.left)
      (row_fits t.relation).1 N.codes.1 N.codes.0 in
      let q = second_of_lem (biased t.n) (row_bits t.relation) (second_clock t.left) (first_clock t.left)
      (row_fits t.relation).1 N.codes.1 N.codes.0 in
      record { first = rw p N.first; second = rw q N.second }

-- the word without a term
zero_holds : (v : ℕ → ℕ) → holds_by 0 v ≡ true
unfolding holds_by
zero_holds v = refl

-- the words of a region: its terms' words, and zeros from there on
module _ (g : Region) (words : ℕ → ℕ) (count : g.count ≤ most_terms)
    (same : (j : ℕ) → j < most_terms → words j ≡ word_at g j) where
  used : (j : ℕ) → j < g.count → words j ≡ word_of (term_at g j)
  used j h = same j (omega arith) ∙ ap (λ (b : Bool). cond b (word_of (term_at g j)) 0) (lt-ltb j g.count h)

  unused : (j : ℕ) → g.count ≤ j → j < most_terms → words j ≡ 0
  unused j h l = same j l ∙ ap (λ (b : Bool). cond b (word_of (term_at g j)) 0) (le-ltb j g.count h)

  -- the first that fails is the first term that does
  pub words_fail : (v : ℕ → ℕ)
      → ((j : ℕ) → j < g.count → holds_by (word_of (term_at g j)) v ≡ term_holds (term_at g j) v)
      → fails_at most_terms (λ j. holds_by (words j) v) ≡ failing_term g v
  words_fail v each =
      fails_same g.count most_terms (λ j. term_holds (term_at g j) v) (λ j. holds_by (words j) v) count
      (λ j h. sym (ap (λ (w : ℕ). holds_by w v) (used j h) ∙ each j h))
      (λ j h l. ap (λ (w : ℕ). holds_by w v) (unused j h l) ∙ zero_holds v)

  -- those that are not 0 are as many as the terms
  pub words_count : count_below most_terms (λ j. not (eqb (words j) 0)) ≡ g.count
  words_count =
      count_is g.count most_terms (λ j. not (eqb (words j) 0)) count
      (λ j h. ap not (ne_eqb (words j) 0 (λ z. word_is (term_at g j) (sym (used j h) ∙ z))))
      (λ j h l. ap not (eq-eqb (words j) 0 (unused j h l)))
