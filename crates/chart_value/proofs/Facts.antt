-- What a well-formed chart is, field by field; `Shape` is what the Rust types say of the arrays. Assumes nothing.
use mathlib.Core.Path.{◌≡◌, refl, sym, ap, ◌∙◌}
use mathlib.Core.Bool.{Bool, true, false, cond, not, ◌&&◌, ◌||◌}
use mathlib.Core.List.{List}
use Prim.Native.Nat.{ℕ, ◌≤◌, ◌<◌, ◌^◌}
use native.Mathlib.Omega.{arith}
use borrow.Author.Tests.{ltb-true, ltb-false, leb-true, eqb-true, lt-ltb, le-ltb, le-leb, not-true}
use lib.Dec.{eqb, leb, ltb}
use lib.ListN.{length, replicate, get_or-replicate}
use lib.Seq.{ext_get_or}
use Rattle.model.specs.declared.Chart.{Chart}
use Rattle.model.specs.declared.Region.{Region}
use Rattle.model.specs.declared.Event.{Event}
use Rattle.model.specs.declared.Event.TheVariants.{Message, Plain}
use Rattle.model.specs.declared.Term.{Term}
use Rattle.model.specs.declared.Left.{Left}
use Rattle.model.specs.declared.Left.TheVariants.{Clock, Difference}
use Rattle.model.specs.declared.Relation.{Relation}
use Rattle.model.specs.declared.Relation.TheVariants.{Less, AtMost, Equal, AtLeast, More}
use Rattle.base.proofs.Bools.{both, and_both}
use Rattle.base.proofs.Facts.{all_at, all_of}
use Rattle.bitset.proofs.Laws.{within_true, lt_within}
use Rattle.model.specs.Chart.{zero_term, zero_region, region_at, term_at, is_bare}
use Rattle.chart_value.specs.WellFormed.{well_formed, region_placed, placed_at, used_region_fits, region_fits, event_fits}
use Rattle.chart_value.specs.WellFormed.{terms_fit, term_placed, left_fits, is_zero_term, is_zero_region, is_zero_left}
use Rattle.chart_value.specs.WellFormed.{is_less, is_zero_event}

pub record Shape (c : Chart) : Type 0 where
  pub regions : length c.regions ≡ 32
  pub terms : (i : ℕ) → i < 32 → length (region_at c i).terms ≡ 4

-- the terms of a region that is used, or of one that is being read
pub record Terms (clocks : ℕ) (g : Region) : Type 0 where
  pub count : g.count ≤ 4
  pub used : (j : ℕ) → j < g.count → left_fits clocks (term_at g j).left ≡ true
  pub unused : (j : ℕ) → g.count ≤ j → j < 4 → term_at g j ≡ zero_term

pub record Fits (lines clocks : ℕ) (main opening : Bool) (before : ℕ) (g : Region) : Type 0 where
  pub event : event_fits lines opening before g.event ≡ true
  pub terms : Terms clocks g
  pub resets : g.resets < 2 ^ clocks
  pub bare : is_bare g ≡ false
  pub hot : (not g.hot || (main && not (eqb g.count 0))) ≡ true
  pub rest : (not g.rest || main) ≡ true

pub record WellFormed (c : Chart) : Type 0 where
  pub low : 2 ≤ c.lines
  pub high : c.lines ≤ 16
  pub clocks : c.clocks ≤ 8
  pub main : c.prechart < c.count
  pub room : c.count ≤ 32
  pub used : (i : ℕ) → i < c.count → used_region_fits c (leb c.prechart i) i ≡ true
  pub unused : (i : ℕ) → c.count ≤ i → i < 32 → is_zero_region (region_at c i) ≡ true

-- a chart with other regions
abbrev pub with_regions : Chart → ℕ → List Region → Chart
with_regions c n gs = record { lines = c.lines; clocks = c.clocks; prechart = c.prechart; count = n; regions = gs }

-- records are equal by their fields
pub same_region : (g h : Region) → g.event ≡ h.event → g.terms ≡ h.terms → g.count ≡ h.count → g.hot ≡ h.hot
    → g.resets ≡ h.resets → g.rest ≡ h.rest → g ≡ h
same_region g h a b k d e f =
    λ i. record { event = a i; terms = b i; count = k i; hot = d i; resets = e i; rest = f i }

pub same_chart : (c d : Chart) → c.lines ≡ d.lines → c.clocks ≡ d.clocks → c.prechart ≡ d.prechart
    → c.count ≡ d.count
    → c.regions ≡ d.regions → c ≡ d
same_chart c d a b p n g = λ i. record { lines = a i; clocks = b i; prechart = p i; count = n i; regions = g i }

zero_left : (l : Left) → is_zero_left l ≡ true → l ≡ Clock 0
zero_left (Clock k) e = ap Clock (eqb-true k 0 e)
zero_left (Difference a b) e = cc

zero_relation : (r : Relation) → is_less r ≡ true → r ≡ Less
zero_relation Less e = refl
zero_relation AtMost e = cc
zero_relation Equal e = cc
zero_relation AtLeast e = cc
zero_relation More e = cc

zero_event : (e : Event) → is_zero_event e ≡ true → e ≡ Plain 0
zero_event (Message m) h = cc
zero_event (Plain l) h = ap Plain (eqb-true l 0 h)

pub zero_term_lem : (t : Term) → is_zero_term t ≡ true → t ≡ zero_term
unfolding is_zero_term
zero_term_lem t e =
    let a = both _ _ e in
    let b = both _ _ a.1 in
    rw (sym (zero_left t.left a.0), sym (zero_relation t.relation b.0), sym (eqb-true t.n 0 b.1)) refl

terms_of : (clocks : ℕ) (g : Region) → terms_fit clocks g ≡ true → Terms clocks g
unfolding terms_fit term_placed
terms_of clocks g e =
    let a = both _ _ e in
    let p : (j : ℕ) → j < 4 → cond (ltb j g.count) (left_fits clocks (term_at g j).left)
    (is_zero_term (term_at g j)) ≡ true =
    all_at 4 (λ j. term_placed clocks g.count j (term_at g j)) a.1 in
    let n : g.count ≤ 4 = leb-true _ _ a.0 in
    record {
      count = n;
      used = λ j h. rw (lt-ltb j g.count h) at (p j (omega arith));
      unused = λ j h k. zero_term_lem (term_at g j) (rw (le-ltb j g.count h) at (p j k));
    }

pub of_terms_lem : (clocks : ℕ) (g : Region) → Terms clocks g → terms_fit clocks g ≡ true
unfolding terms_fit term_placed is_zero_term
of_terms_lem clocks g t =
    and_both (le-leb _ _ t.count)
    (all_of 4 (λ j. term_placed clocks g.count j (term_at g j)) (λ j h. by j h (ltb j g.count) refl))
  where
    by : (j : ℕ) → j < 4 → (b : Bool) → ltb j g.count ≡ b
        → cond b (left_fits clocks (term_at g j).left) (is_zero_term (term_at g j)) ≡ true
    by j h true e = t.used j (ltb-true _ _ e)
    by j h false e = rw (t.unused j (ltb-false _ _ e) h) refl

module _ (lines clocks : ℕ) (main opening : Bool) (before : ℕ) (g : Region) where
  pub fits_of : region_fits lines clocks main opening before g ≡ true → Fits lines clocks main opening before g
  unfolding region_fits
  fits_of e =
      let a = both _ _ e in
      let b = both _ _ a.1 in
      let d = both _ _ b.1 in
      let f = both _ _ d.1 in
      let h = both _ _ f.1 in
      record {
        event = a.0;
        terms = terms_of clocks g b.0;
        resets = within_true _ _ d.0;
        bare = not-true _ f.0;
        hot = h.0;
        rest = h.1;
      }

  pub of_fits : Fits lines clocks main opening before g → region_fits lines clocks main opening before g ≡ true
  unfolding region_fits
  of_fits f =
      and_both f.event
      (and_both (of_terms_lem clocks g f.terms)
      (and_both (lt_within _ _ f.resets) (and_both (ap not f.bare) (and_both f.hot f.rest))))

-- an unused region is the region of zeros
pub zero_region_lem : (g : Region) → length g.terms ≡ 4 → is_zero_region g ≡ true → g ≡ zero_region
unfolding is_zero_region
zero_region_lem g l e =
    let a = both _ _ e in
    let b = both _ _ a.1 in
    let d = both _ _ b.1 in
    let f = both _ _ d.1 in
    let h = both _ _ f.1 in
    let t = terms_of 0 g h.1 in
    let n : g.count ≡ 0 = eqb-true _ _ b.0 in
    let ts : g.terms ≡ replicate 4 zero_term =
    ext_get_or zero_term g.terms (replicate 4 zero_term) l
    (λ j k. t.unused j (omega arith) (omega arith) ∙ sym (get_or-replicate 4 j zero_term zero_term (omega arith))) in
    same_region g zero_region (zero_event g.event a.0) ts n (not-true g.hot d.0)
    (eqb-true g.resets 0 f.0) (not-true g.rest h.0)

pub zero_is_zero : is_zero_region zero_region ≡ true
unfolding is_zero_region is_zero_term terms_fit term_placed
zero_is_zero = refl

pub wf_of : (c : Chart) → well_formed c ≡ true → WellFormed c
unfolding well_formed region_placed
wf_of c e =
    let a = both _ _ e in
    let b = both _ _ a.1 in
    let h = both _ _ a.0 in
    let k = both _ _ h.1 in
    let n = both _ _ b.0 in
    let p : (i : ℕ) → i < 32 → cond (ltb i c.count) (used_region_fits c (leb c.prechart i) i)
    (is_zero_region (region_at c i)) ≡ true =
    all_at 32 (placed_at c) b.1 in
    let room : c.count ≤ 32 = leb-true _ _ n.1 in
    record {
      low = leb-true _ _ h.0;
      high = leb-true _ _ k.0;
      clocks = leb-true _ _ k.1;
      main = ltb-true _ _ n.0;
      room = room;
      used = λ i h. rw (lt-ltb i c.count h) at (p i (omega arith));
      unused = λ i h k. rw (le-ltb i c.count h) at (p i k);
    }

pub of_wf : (c : Chart) → WellFormed c → well_formed c ≡ true
unfolding well_formed region_placed
of_wf c w =
    and_both (and_both (le-leb _ _ w.low) (and_both (le-leb _ _ w.high) (le-leb _ _ w.clocks)))
    (and_both (and_both (lt-ltb _ _ w.main) (le-leb _ _ w.room))
    (all_of 32 (placed_at c) (λ i h. by i h (ltb i c.count) refl)))
  where
    by : (i : ℕ) → i < 32 → (b : Bool) → ltb i c.count ≡ b
        → cond b (used_region_fits c (leb c.prechart i) i) (is_zero_region (region_at c i)) ≡ true
    by i h true e = w.used i (ltb-true _ _ e)
    by i h false e = w.unused i (ltb-false _ _ e) h
