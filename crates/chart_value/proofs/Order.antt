-- The order of the regions of a well-formed chart. Assumes nothing.
use mathlib.Core.Path.{◌≡◌, refl, sym, ap, ◌∙◌}
use mathlib.Core.Logic.{◌≢◌, ◌⊎◌, inl, inr}
use mathlib.Core.Bool.{Bool, true, false, false≢true, not, ◌&&◌, ◌||◌}
use Prim.Native.Nat.{ℕ, zero, suc, ◌≤◌, ◌<◌}
use native.Mathlib.Omega.{arith}
use native.Mathlib.Decide.{dec_lt}
use lib.Bits.{bit_and}
use lib.Dec.{eqb, leb, ltb}
use borrow.Author.Tests.{ltb-true, leb-true, eqb-false, eq-eqb, not-true}
use Rattle.bitset.specs.Set.{contains, within}
use Rattle.base.proofs.Bools.{both, either, or_right}
use Rattle.bitset.proofs.Laws.{contains_union, contains_empty, contains_and, some_member}
use Rattle.model.specs.declared.Chart.{Chart}
use Rattle.model.specs.declared.Message.{Message}
use Rattle.model.specs.declared.Event.{Event}
use Rattle.model.specs.declared.Event.TheVariants as event
use Rattle.model.specs.Chart.{region_at, touched, touched_at}
use Rattle.model.proofs.Lines.{contains_touched}
use Rattle.order.specs.Above.{SharedLine, Over, Above, AboveIn, in_prechart, in_main, direct, halves, first, then}
use Rattle.chart_value.specs.WellFormed.{touched_before, event_fits}
use Rattle.chart_value.proofs.Facts.{WellFormed, Fits, fits_of}

module _ (lines : ℕ → ℕ) (p : ℕ) where
  over_lt : {a b : ℕ} → Over lines p a b → a < b
  over_lt (direct h k l) = h
  over_lt (halves h k) = omega arith

  pub above_lt : {a b : ℕ} → Above lines p a b → a < b
  above_lt (first o) = over_lt o
  above_lt (then q o) = let x = above_lt q in let y = over_lt o in omega arith

  pub above_trans : {x y z : ℕ} → Above lines p x y → Above lines p y z → Above lines p x z
  above_trans a (first o) = then a o
  above_trans a (then q o) = then (above_trans a q) o

module _ (c : Chart) (w : WellFormed c) where
  pub fits_at : (i : ℕ) → i < c.count
      → Fits c.lines c.clocks (leb c.prechart i) (not (leb c.prechart i) || eqb c.prechart 0)
      (touched_before c.regions i) (region_at c i)
  fits_at i h = fits_of _ _ _ _ _ _ (w.used i h)

  -- a message's lines are those of the chart
  pub lines_in_lem : (i : ℕ) (m : Message) → i < c.count → (region_at c i).event ≡ event.Message m → (m.source < c.lines)
      × (m.destination < c.lines)
  lines_in_lem i m h e =
      let o = not (leb c.prechart i) || eqb c.prechart 0 in
      let f : event_fits c.lines o (touched_before c.regions i) (event.Message m) ≡ true = rw e at
      (fits_at i h).event in
      let p = both (ltb m.source c.lines)
      (ltb m.destination c.lines && not (eqb m.source m.destination)) f in (
        ltb-true _ _ p.0,
        ltb-true _ _
            (both (ltb m.destination c.lines) (not (eqb m.source m.destination)) p.1).0,
      )

  -- a message region touches its destination line
  destination_at : (i : ℕ) (m : Message) → i < c.count → (region_at c i).event ≡ event.Message m
      → contains (touched_at c i) m.destination ≡ true
  destination_at i m h e =
      let l : m.destination < c.lines = (lines_in_lem i m h e).1 in
      let z : c.lines ≤ 16 = w.high in
      ap (λ (x : Event). contains (touched x) m.destination) e
      ∙ contains_touched (event.Message m) m.destination (omega arith)
      ∙ or_right (eqb m.destination m.source) (eq-eqb m.destination m.destination refl)

  -- of two regions with a common line, the one with the lower number is above
  lower : (a b k : ℕ) → a < b → contains (touched_at c a) k ≡ true → contains (touched_at c b) k ≡ true → AboveIn c a b
  lower a b k h e f = by (dec_lt a c.prechart) (dec_lt b c.prechart)
    where
      shared : SharedLine (touched_at c a) (touched_at c b)
      shared = record { line = k; one = e; other = f }

      by : Dec (a < c.prechart) → Dec (b < c.prechart) → AboveIn c a b
      by (yes x) (yes y) = first (direct h (in_prechart x y) shared)
      by (yes x) (no y) = let l : c.prechart ≤ b = omega arith in first (halves x l)
      by (no x) (yes y) = absurd (omega arith)
      by (no x) (no y) =
          let l : c.prechart ≤ a = omega arith in
          let k : c.prechart ≤ b = omega arith in
          first (direct h (in_main l k) shared)

  pub same_message : (a b : ℕ) (m : Message) → a < c.count → b < c.count → (region_at c a).event ≡ event.Message m
      → (region_at c b).event ≡ event.Message m
      → a ≢ b → AboveIn c a b ⊎ AboveIn c b a
  same_message a b m x y e f n = by (dec_lt a b)
    where
      by : Dec (a < b) → AboveIn c a b ⊎ AboveIn c b a
      by (yes l) = inl (lower a b m.destination l (destination_at a m x e) (destination_at b m y f))
      by (no l) = inr (lower b a m.destination (omega arith) (destination_at b m y f) (destination_at a m x e))

  -- a line that is touched before region i is a line of one before it
  touched_by : (i k : ℕ) → contains (touched_before c.regions i) k ≡ true → (a : ℕ) × (a < i)
      × (contains (touched_at c a) k ≡ true)
  unfolding touched_before
  touched_by zero k e = absurd (false≢true (sym (contains_empty k) ∙ e))
  touched_by (suc i) k e =
      by (either _ _ (sym (contains_union (touched_before c.regions i) (touched_at c i) k) ∙ e)) (touched_by i k)
    where
      by : (contains (touched_before c.regions i) k ≡ true) ⊎ (contains (touched_at c i) k ≡ true)
          → (contains (touched_before c.regions i) k ≡ true → (a : ℕ) × (a < i) × (contains (touched_at c a) k ≡ true))
          → (a : ℕ) × (a < suc i) × (contains (touched_at c a) k ≡ true)
      by (inl x) r = let q = r x in (q.0, omega (arith, q.1), q.2)
      by (inr x) r = (i, omega arith, x)

  pub plain_below : (i l : ℕ) → i < c.count → (region_at c i).event ≡ event.Plain l → (a : ℕ) × AboveIn c a i
  plain_below i l h e = by (leb c.prechart i) refl (eqb c.prechart 0) refl q.1
    where
      before : ℕ
      before = touched_before c.regions i

      f : event_fits c.lines (not (leb c.prechart i) || eqb c.prechart 0) before (event.Plain l) ≡ true
      f = rw e at (fits_at i h).event

      q : (within c.lines l ≡ true) ×
          ((not (not (leb c.prechart i) || eqb c.prechart 0) || not (eqb (bit_and l before) 0)) ≡ true)
      q = both _ _ (both (not (eqb l 0)) _ f).1

      shared : not (eqb (bit_and l before) 0) ≡ true → (a : ℕ) × AboveIn c a i
      shared z =
          let m = some_member (bit_and l before) (λ n. eqb-false _ _ (not-true (eqb (bit_and l before) 0) z) n) in
          let b = both (contains l m.0) (contains before m.0) (sym (contains_and l before m.0) ∙ m.1) in
          let t = touched_by i m.0 b.1 in
          (t.0, lower t.0 i m.0 t.1 t.2 (ap (λ (x : Event). contains (touched x) m.0) e ∙ b.0))

      by : (m : Bool) → leb c.prechart i ≡ m → (z : Bool) → eqb c.prechart 0 ≡ z
          → (not (not m || z) || not (eqb (bit_and l before) 0)) ≡ true → (a : ℕ) × AboveIn c a i
      by false x z y g = shared g
      by true x true y g = shared g
      by true x false y g =
          let n : c.prechart ≢ 0 = eqb-false _ _ y in
          let k : 0 < c.prechart = omega arith in
          (0, first (halves k (leb-true _ _ x)))
