-- Reading the bytes of a well-formed chart gives the chart. The reader is followed along the writer: from an offset
-- where the writer's bytes of something stand, reading goes on after them in the state that has it. This is shown of a
-- term, of hot, of resets, of the mark, of a region, of all regions, and at last of the end. Assumes nothing.
use mathlib.Core.Path.{◌≡◌, refl, sym, ap, subst, ◌∙◌}
use mathlib.Core.Bool.{Bool, true, false, cond, not, ◌&&◌, ◌||◌}
use mathlib.Core.List.{List, [], ◌∷◌}
use Prim.Native.Nat.{ℕ, zero, suc, ◌+◌, ◌≤◌, ◌<◌, ◌^◌}
use native.Mathlib.Omega.{arith}
use native.Mathlib.Numerals.{add-one}
use native.Mathlib.Decide.{ℕ_discrete}
use borrow.Author.Tests.{ltb-true, ltb-false, eqb-true, eqb-false, lt-ltb, le-ltb, le-leb, lt-leb, ne_eqb, not-true}
use lib.Arith.{lt_of_le-ne}
use lib.Bits.{bit_and}
use lib.Dec.{eqb, leb, ltb, leb-suc-suc}
use lib.ListN.{length, get_or, drop, set, replicate, length-replicate, get_or-replicate, length-set}
use lib.Seq.{ext_get_or, get_or-set_same, get_or-set_other}
use Rattle.model.specs.declared.Chart.{Chart}
use Rattle.model.specs.declared.Region.{Region}
use Rattle.model.specs.declared.Event.{Event}
use Rattle.model.specs.declared.Event.TheVariants as event
use Rattle.model.specs.declared.Term.{Term}
use Rattle.model.specs.declared.Left.{Left}
use Rattle.model.specs.declared.Left.TheVariants.{Clock, Difference}
use Rattle.model.specs.declared.Relation.{Relation}
use Rattle.model.specs.declared.Relation.TheVariants.{Less, AtMost, Equal, AtLeast, More}
use Rattle.model.specs.Chart.{zero_term, zero_region, absent_region, region_at, term_at, touched}
use Rattle.chart_command.specs.Bytes.{hot_byte, rest_byte, resets_byte, main_byte, end_byte}
use Rattle.std.proofs.Common.{None}
use Rattle.chart_step.specs.declared.Refusal.TheVariants.{Bare, HotAlone}
use Rattle.chart_step.specs.declared.Reading.{Reading}
use Rattle.chart_step.specs.Reading.{first_fault, closing_fault, closed, or_else, when, with_term, relation_of}
use Rattle.chart_step.specs.Reading.{relation_count, begun_with, with_main, with_heading}
use Rattle.chart_reader.specs.Read.{read_chart, start_reading}
use Rattle.chart_reader.specs.Said.{Said, accepted_as}
use Rattle.chart_value.specs.WellFormed.{well_formed, event_fits, left_fits, touched_before}
use Rattle.chart_value.specs.Writer.{chart_bytes, regions_bytes, region_bytes, event_bytes, terms_bytes, left_bytes}
use Rattle.chart_value.specs.Writer.{flag_bytes, relation_byte, four}
use Rattle.bitset.specs.Set.{union, within}
use Rattle.base.proofs.Bools.{both, and_both, or_neither}
use Rattle.bitset.proofs.Laws.{lt_within}
use Rattle.chart_value.proofs.Facts.{Shape, Terms, Fits, WellFormed, wf_of, fits_of, zero_region_lem, same_region}
use Rattle.chart_value.proofs.Facts.{same_chart, with_regions}
use Rattle.chart_value.proofs.Bytes.{Gives, gives_chart, on_heading, on_message, on_plain, on_clock_term}
use Rattle.chart_value.proofs.Bytes.{on_difference_term, on_hot, on_rest, on_resets, on_main, on_end}

-- the first k elements of a list, put one by one into n copies of z
module _ {A : Type 0} (z d : A) (n : ℕ) (xs : List A) where
  unfoldable pub first_of : ℕ → List A
  first_of zero = replicate n z
  first_of (suc k) = set (first_of k) k (get_or xs k d)

  length_first : (k : ℕ) → length (first_of k) ≡ n
  unfolding first_of
  length_first zero = length-replicate n z
  length_first (suc k) = length-set (first_of k) k _ ∙ length_first k

  -- the places below k have the list's elements, the others z
  first_used : (k i : ℕ) → i < k → k ≤ n → get_or (first_of k) i d ≡ get_or xs i d
  unfolding first_of
  first_used zero i h l = absurd (omega arith)
  first_used (suc k) i h l = by (ℕ_discrete i k) (length_first k) (first_used k i)
    where
      by : Dec (i ≡ k) → length (first_of k) ≡ n → (i < k → k ≤ n → get_or (first_of k) i d ≡ get_or xs i d)
          → get_or (set (first_of k) k (get_or xs k d)) i d ≡ get_or xs i d
      by (yes e) m r = rw e (get_or-set_same (first_of k) k (get_or xs k d) d (omega arith))
      by (no e) m r = get_or-set_other (first_of k) k i _ d e ∙ r (lt_of_le-ne (omega arith) e) (omega arith)

  first_unused : (k i : ℕ) → k ≤ i → i < n → get_or (first_of k) i d ≡ z
  unfolding first_of
  first_unused zero i h l = get_or-replicate n i z d l
  first_unused (suc k) i h l = get_or-set_other (first_of k) k i _ d (omega arith) ∙ first_unused k i (omega arith) l

  -- with zeros beyond the first k it is the list itself
  pub first_all : (k : ℕ) → k ≤ n → length xs ≡ n → ((i : ℕ) → k ≤ i → i < n → get_or xs i d ≡ z) → first_of k ≡ xs
  first_all k h l f =
      let m = length_first k in
      ext_get_or d (first_of k) xs (m ∙ sym l) (λ i q. by i (omega arith) (ltb i k) refl)
    where
      by : (i : ℕ) → i < n → (b : Bool) → ltb i k ≡ b → get_or (first_of k) i d ≡ get_or xs i d
      by i q true e = first_used k i (ltb-true _ _ e) h
      by i q false e = let j = ltb-false _ _ e in first_unused k i j q ∙ sym (f i j q)

-- a relation's byte stands for it, and is in its range
relation_back : (e : Relation) → relation_of (relation_byte e) ≡ e
relation_back Less = refl
relation_back AtMost = refl
relation_back Equal = refl
relation_back AtLeast = refl
relation_back More = refl

relation_small : (e : Relation) → leb relation_count (relation_byte e) ≡ false
relation_small Less = refl
relation_small AtMost = refl
relation_small Equal = refl
relation_small AtLeast = refl
relation_small More = refl

-- the region read as far as its first j terms
abbrev partly : Region → ℕ → Bool → ℕ → Bool → Region
partly g j hot resets rest =
    record {
      event = g.event;
      terms = first_of zero_term zero_term 4 g.terms j;
      count = j;
      hot = hot;
      resets = resets;
      rest = rest;
    }

-- the state after r in which the region g is the last started
abbrev busy : Reading → ℕ → ℕ → Region → Reading
busy r at l g =
    record {
      headed = r.headed;
      main = r.main;
      started = true;
      start = at;
      touched = union r.touched l;
      region = g;
      chart = closed r;
    }

-- the parts of one region
module _ (s : List ℕ) (x : Said) (clocks : ℕ) (r : Reading) (start l : ℕ) (same : (closed r).clocks ≡ clocks)
    (g : Region) where
  -- adding term j in its place
  added : (j : ℕ) → j < 4 → (left : Left) → (term_at g j).left ≡ left
      → with_term (busy r start l (partly g j false 0 false)) left (relation_byte (term_at g j).relation) (term_at g j).n
      ≡ busy r start l (partly g (suc j) false 0 false)
  unfolding first_of
  added j h left e =
      ap (λ (b : Bool). cond b (busy r start l (grown left (relation_of (relation_byte t.relation)) (j + 1)))
      (busy r start l (partly g j false 0 false))) (lt-ltb j 4 h)
      ∙ (λ i. busy r start l (grown (sym e i) (relation_back t.relation i) (add-one j i)))
    where
      t : Term
      t = term_at g j

      grown : Left → Relation → ℕ → Region
      grown left relation k =
          record {
            event = g.event;
            terms = set (first_of zero_term zero_term 4 g.terms j) j
                (record { left = left; relation = relation; n = t.n });
            count = k;
            hot = false;
            resets = 0;
            rest = false;
          }

  in_range : (k : ℕ) → ltb k clocks ≡ true → leb (closed r).clocks k ≡ false
  in_range k e = ap (λ (n : ℕ). leb n k) same ∙ lt-leb clocks k (ltb-true _ _ e)

  -- one term
  term_read : (rest : List ℕ) (j : ℕ) → j < 4 → (left : Left) → (term_at g j).left ≡ left → left_fits clocks left ≡ true
      → (at : ℕ) → drop at s ≡ left_bytes left (relation_byte (term_at g j).relation ∷ four (term_at g j).n rest)
      → ((at' : ℕ) → drop at' s ≡ rest → Gives s x at' (busy r start l (partly g (suc j) false 0 false)))
      → Gives s x at (busy r start l (partly g j false 0 false))
  term_read rest j h (Clock k) e f at d =
      let range = or_neither (in_range k f) (relation_small (term_at g j).relation) in
      on_clock_term s x at (busy r start l (partly g j false 0 false)) rest k (relation_byte (term_at g j).relation)
      (term_at g j).n d
      (λ i. first_fault false None (range i) (lt-leb 4 j h i) false false false false false at at) _ (added j h (Clock k) e)
  term_read rest j h (Difference a b) e f at d =
      let p = both _ _ f in
      let q = both _ _ p.1 in
      let range =
      or_neither (in_range a p.0)
      (or_neither (in_range b q.0)
      (or_neither (not-true (eqb a b) q.1) (relation_small (term_at g j).relation))) in
      on_difference_term s x at (busy r start l (partly g j false 0 false)) rest a b (relation_byte (term_at g j).relation)
      (term_at g j).n d
      (λ i. first_fault false None (range i) (lt-leb 4 j h i) false false false false false at at) _
      (added j h (Difference a b) e)

  -- n terms from term j on
  terms_read : Terms clocks g → (rest : List ℕ) (n j : ℕ) → j + n ≡ g.count → (at : ℕ)
      → drop at s ≡ terms_bytes g n j rest
      → ((at' : ℕ) → drop at' s ≡ rest → Gives s x at' (busy r start l (partly g g.count false 0 false)))
      → Gives s x at (busy r start l (partly g j false 0 false))
  unfolding terms_bytes
  terms_read t rest zero j e at d next =
      let z : g.count ≡ j = omega arith in
      subst (λ (k : ℕ). Gives s x at (busy r start l (partly g k false 0 false))) z (next at d)
  terms_read t rest (suc n) j e at d next =
      let m = t.count in
      term_read (terms_bytes g n (suc j) rest) j (omega arith) (term_at g j).left refl (t.used j (omega arith)) at d
      (λ at' h. terms_read t rest n (suc j) (omega arith) at' h next)

  -- hot, if it is
  hot_read : (main : Bool) → r.main ≡ main → (rest : List ℕ) (n : ℕ) (hot : Bool)
      → (not hot || (main && not (eqb n 0))) ≡ true
      → (at : ℕ) → drop at s ≡ flag_bytes hot_byte hot rest
      → ((at' : ℕ) → drop at' s ≡ rest → Gives s x at' (busy r start l (partly g n hot 0 false)))
      → Gives s x at (busy r start l (partly g n false 0 false))
  hot_read main m rest n true e at d =
      on_hot s x at (busy r start l (partly g n false 0 false)) rest d
      (λ i. first_fault false None false false
      (ap not (m ∙ (both main (not (eqb n 0)) e).0) i) false false false false at at)
  hot_read main m rest n false e at d = λ next. next at d

  -- resets, if there are any
  resets_read : (rest : List ℕ) (n : ℕ) (hot : Bool) (k : ℕ) → k < 2 ^ clocks → (z : Bool) → eqb k 0 ≡ z
      → (at : ℕ) → drop at s ≡ cond z rest (resets_byte ∷ k ∷ rest)
      → ((at' : ℕ) → drop at' s ≡ rest → Gives s x at' (busy r start l (partly g n hot k false)))
      → Gives s x at (busy r start l (partly g n hot 0 false))
  resets_read rest n hot k h true e at d =
      λ next. subst (λ (k : ℕ). Gives s x at (busy r start l (partly g n hot k false))) (eqb-true k 0 e) (next at d)
  resets_read rest n hot k h false e at d =
      let range = or_neither e (ap (λ (m : ℕ). not (within m k)) same ∙ ap not (lt_within clocks k h)) in
      on_resets s x at (busy r start l (partly g n hot 0 false)) rest k d
      (λ i. first_fault false None (range i) false false false false false false at at)

  -- the mark, if there is one
  rest_read : (main : Bool) → r.main ≡ main → (rest : List ℕ) (n : ℕ) (hot : Bool) (k : ℕ) (mark : Bool)
      → (not mark || main) ≡ true
      → (at : ℕ) → drop at s ≡ flag_bytes rest_byte mark rest
      → ((at' : ℕ) → drop at' s ≡ rest → Gives s x at' (busy r start l (partly g n hot k mark)))
      → Gives s x at (busy r start l (partly g n hot k false))
  rest_read main m rest n hot k true e at d =
      on_rest s x at (busy r start l (partly g n hot k false)) rest d
      (λ i. first_fault false None false false false (ap not (m ∙ e) i) false false false at at)
  rest_read main m rest n hot k false e at d = λ next. next at d

-- a region that fits, with all its terms read, is the region itself
whole : (lines clocks : ℕ) (main opening : Bool) (before : ℕ) (g : Region) → Fits lines clocks main opening before g
    → length g.terms ≡ 4
    → partly g g.count g.hot g.resets g.rest ≡ g
whole lines clocks main opening before g f l =
    let t = f.terms in
    same_region (partly g g.count g.hot g.resets g.rest) g refl
    (first_all zero_term zero_term 4 g.terms g.count t.count l (λ j h k. t.unused j h k)) refl refl refl refl

-- from the tests of the value to the reader's: not 9, not 7
not_alone : (main : Bool) (p : ℕ) (z : Bool) → (not (not main || eqb p 0) || not z) ≡ true
    → ((not main || eqb (cond main p 0) 0) && z) ≡ false
not_alone false p z e = not-true z e
not_alone true p z e = by (eqb p 0) e
  where
    by : (b : Bool) → (not b || not z) ≡ true → (b && z) ≡ false
    by true e = not-true z e
    by false e = refl

cold : (hot main z : Bool) → (not hot || (main && not z)) ≡ true → (hot && z) ≡ false
cold true main z e = not-true z (both main (not z) e).1
cold false main z e = refl

-- one region of a chart
module _ (c : Chart) where
  -- the chart when its first i regions are closed
  abbrev so_far : Bool → ℕ → Chart
  so_far main i =
      record {
        lines = c.lines;
        clocks = c.clocks;
        prechart = cond main c.prechart 0;
        count = i;
        regions = first_of zero_region absent_region 32 c.regions i;
      }

  -- the state in which the first i regions are read, the last perhaps not closed
  record Before (r : Reading) (main : Bool) (i : ℕ) : Type 0 where
    headed : r.headed ≡ true
    half : r.main ≡ main
    lines : r.chart.lines ≡ c.lines
    prechart : r.chart.prechart ≡ cond main c.prechart 0
    touched : r.touched ≡ touched_before c.regions i
    fine : closing_fault r ≡ None
    chart : closed r ≡ so_far main i

  module _ (s : List ℕ) (x : Said) (main : Bool) (i : ℕ) (r : Reading) (b : Before r main i) (small : i < 32)
      (f : Fits c.lines c.clocks main (not main || eqb c.prechart 0) (touched_before c.regions i)
      (region_at c i)) where
    room : leb 32 (closed r).count ≡ false
    room = ap (λ (c : Chart). leb 32 c.count) b.chart ∙ lt-leb 32 i small

    line_fits : (k : ℕ) → ltb k c.lines ≡ true → leb r.chart.lines k ≡ false
    line_fits k e = ap (λ (n : ℕ). leb n k) b.lines ∙ lt-leb c.lines k (ltb-true _ _ e)

    -- its 20 or 21
    start_read : (e : Event) → event_fits c.lines (not main || eqb c.prechart 0)
        (touched_before c.regions i) e ≡ true
        → (rest : List ℕ) (at : ℕ) → drop at s ≡ event_bytes e rest
        → ((at' : ℕ) → drop at' s ≡ rest → Gives s x at' (begun_with r at e)) → Gives s x at r
    start_read (event.Message m) f rest at d =
        let p = both _ _ f in
        let q = both _ _ p.1 in
        let range = or_neither (line_fits m.source p.0)
        (or_neither (line_fits m.destination q.0) (not-true (eqb m.source m.destination) q.1)) in
        on_message s x at r rest m.source m.destination m.label d
        (λ i. first_fault (ap not b.headed i) (b.fine i) (range i) (room i) false false false false false at at)
    start_read (event.Plain l) f rest at d =
        let p = both _ _ f in
        let q = both (within c.lines l) _ p.1 in
        let range =
        or_neither (not-true (eqb l 0) p.0) (ap (λ (m : ℕ). not (within m l)) b.lines ∙ ap not q.0) in
        let alone : ((not r.main || eqb r.chart.prechart 0) && eqb (bit_and l r.touched) 0) ≡ false =
        (λ i. (not (b.half i) || eqb (b.prechart i) 0) && eqb (bit_and l (b.touched i)) 0)
        ∙ not_alone main c.prechart (eqb (bit_and l (touched_before c.regions i)) 0) q.1 in
        on_plain s x at r rest l d
        (λ i. first_fault (ap not b.headed i) (b.fine i) (range i) (room i) false false (alone i) false false at at)

    -- the state after the region
    before_next : (at : ℕ) → Before (busy r at (touched (region_at c i).event) (region_at c i)) main (suc i)
    unfolding first_of touched_before
    before_next at =
        record {
          headed = b.headed;
          half = b.half;
          lines = ap (λ (c : Chart). c.lines) b.chart;
          prechart = ap (λ (c : Chart). c.prechart) b.chart;
          touched = ap (λ (t : ℕ). union t (touched (region_at c i).event)) b.touched;
          fine = λ j. or_else (when (f.bare j) Bare at)
              (when (cold (region_at c i).hot main (eqb (region_at c i).count 0) f.hot j) HotAlone at);
          chart =
              (λ j. put (b.chart j) (ltb (b.chart j).count 32))
              ∙ ap (λ (t : Bool). put (so_far main i) t) (lt-ltb i 32 small)
              ∙ (λ j. with_regions (so_far main i) (add-one i j)
              (set (first_of zero_region absent_region 32 c.regions i) i (region_at c i)));
        }
      where
        put : Chart → Bool → Chart
        put d t = cond t (with_regions d (d.count + 1) (set d.regions d.count (region_at c i))) d

    -- all of it
    region_read : length (region_at c i).terms ≡ 4 → (rest : List ℕ) (at : ℕ)
        → drop at s ≡ region_bytes (region_at c i) rest
        → ((at' : ℕ) (r' : Reading) → Before r' main (suc i) → drop at' s ≡ rest → Gives s x at' r') → Gives s x at r
    unfolding region_bytes first_of
    region_read l rest at d next =
        start_read g.event f.event _ at d
        (λ at₁ d₁. terms_read s x c.clocks r at (touched g.event) same g f.terms _ g.count 0
        (omega arith) at₁ d₁
        (λ at₂ d₂. hot_read s x c.clocks r at (touched g.event) same g main b.half _ g.count g.hot
        f.hot at₂ d₂
        (λ at₃ d₃. resets_read s x c.clocks r at (touched g.event) same g _ g.count g.hot g.resets
        f.resets (eqb g.resets 0) refl at₃ d₃
        (λ at₄ d₄. rest_read s x c.clocks r at (touched g.event) same g main b.half rest g.count g.hot
        g.resets g.rest f.rest at₄ d₄
        (λ at₅ d₅. next at₅ (busy r at (touched g.event) all) after d₅)))))
      where
        g : Region
        g = region_at c i

        same : (closed r).clocks ≡ c.clocks
        same = ap (λ (c : Chart). c.clocks) b.chart

        all : Region
        all = partly g g.count g.hot g.resets g.rest

        after : Before (busy r at (touched g.event) all) main (suc i)
        after =
            subst (λ (h : Region). Before (busy r at (touched g.event) h) main (suc i))
            (sym (whole c.lines c.clocks main _ _ g f l)) (before_next at)

  -- 50 before the first main region
  main_read : (s : List ℕ) (x : Said) (i : ℕ) (r : Reading) → Before r false i → i ≡ c.prechart
      → (rest : List ℕ) (at : ℕ) → drop at s ≡ main_byte ∷ rest
      → ((at' : ℕ) (r' : Reading) → Before r' true i → drop at' s ≡ rest → Gives s x at' r') → Gives s x at r
  main_read s x i r b e rest at d next =
      on_main s x at r rest d
      (λ i. first_fault (not (b.headed i) || b.half i) (b.fine i) false false false false false false false at at)
      (λ at' d'. next at' (with_main r) after d')
    where
      after : Before (with_main r) true i
      after =
          record {
            headed = b.headed;
            half = refl;
            lines = ap (λ (c : Chart). c.lines) b.chart;
            prechart = ap (λ (c : Chart). c.count) b.chart ∙ e;
            touched = b.touched;
            fine = refl;
            chart =
                same_chart (with_main r).chart (so_far true i) (ap (λ (c : Chart). c.lines) b.chart)
                (ap (λ (c : Chart). c.clocks) b.chart)
                (ap (λ (c : Chart). c.count) b.chart ∙ e) (ap (λ (c : Chart). c.count) b.chart)
                (ap (λ (c : Chart). c.regions) b.chart);
          }

-- all regions of a well-formed chart
module _ (c : Chart) (w : WellFormed c) (shape : Shape c) (s : List ℕ) where
  abbrev given : Said
  given = accepted_as c

  fits_at : (i : ℕ) → i < c.count → (main : Bool) → leb c.prechart i ≡ main
      → Fits c.lines c.clocks main (not main || eqb c.prechart 0) (touched_before c.regions i) (region_at c i)
  fits_at i h main e = fits_of _ _ _ _ _ _ (rw e at (w.used i h))

  -- the 7F
  end_read : (r : Reading) → Before c r true c.count → (at : ℕ) → drop at s ≡ end_byte ∷ [] → Gives s given at r
  end_read r b at d =
      on_end s given at r d
      (λ i. first_fault (not (b.headed i)) (b.fine i) false false false false false
      (or_neither (ap not b.half) some i) false at (at + 1 + 0))
      (λ i. accepted_as ((b.chart ∙ whole_chart) i))
    where
      some : eqb (closed r).count (closed r).prechart ≡ false
      some = ap (λ (d : Chart). eqb d.count d.prechart) b.chart
          ∙ ne_eqb c.count c.prechart (let m = w.main in omega arith)

      whole_chart : so_far c true c.count ≡ c
      whole_chart =
          same_chart (so_far c true c.count) c refl refl refl refl
          (first_all zero_region absent_region 32 c.regions c.count w.room shape.regions
          (λ i h k. zero_region_lem (region_at c i) (shape.terms i k) (w.unused i h k)))

  -- region i, before which a 50 stands if it is the first of the main chart
  region_at_lem : (i : ℕ) → i < c.count → (main : Bool) → leb c.prechart i ≡ main → (r : Reading) → Before c r main i
      → (rest : List ℕ) (at : ℕ)
      → drop at s ≡ region_bytes (region_at c i) rest
      → ((at' : ℕ) (r' : Reading) → Before c r' (ltb c.prechart (suc i)) (suc i) → drop at' s ≡ rest
      → Gives s given at' r') → Gives s given at r
  region_at_lem i h main e r b rest at d next =
      let room = w.room in
      region_read c s given main i r b (omega arith) (fits_at i h main e) (shape.terms i (omega arith)) rest at d
      (λ at' r' b'. next at' r'
      (subst (λ (m : Bool). Before c r' m (suc i)) (sym (leb-suc-suc c.prechart i ∙ e)) b'))

  place_read : (i : ℕ) → i < c.count → (t : Bool) → eqb i c.prechart ≡ t → (r : Reading)
      → Before c r (ltb c.prechart i) i → (rest : List ℕ) (at : ℕ)
      → drop at s ≡ cond t (main_byte ∷ region_bytes (region_at c i) rest) (region_bytes (region_at c i) rest)
      → ((at' : ℕ) (r' : Reading) → Before c r' (ltb c.prechart (suc i)) (suc i) → drop at' s ≡ rest
      → Gives s given at' r') → Gives s given at r
  place_read i h true e r b rest at d next =
      let z : i ≡ c.prechart = eqb-true i c.prechart e in
      main_read c s given i r (subst (λ (m : Bool). Before c r m i) (le-ltb c.prechart i (omega arith)) b) z _ at d
      (λ at' r' b' d'. region_at_lem i h true (le-leb c.prechart i (omega arith)) r' b' rest at' d' next)
  place_read i h false e r b rest at d next =
      region_at_lem i h (ltb c.prechart i) (by (ltb c.prechart i) refl) r b rest at d next
    where
      by : (m : Bool) → ltb c.prechart i ≡ m → leb c.prechart i ≡ m
      by true q = let l : c.prechart < i = ltb-true _ _ q in le-leb c.prechart i (omega arith)
      by false q = lt-leb c.prechart i (lt_of_le-ne (ltb-false _ _ q) (eqb-false i c.prechart e))

  -- n regions from region i on
  regions_read : (n i : ℕ) → i + n ≡ c.count → (r : Reading) → Before c r (ltb c.prechart i) i → (at : ℕ)
      → drop at s ≡ regions_bytes c n i (end_byte ∷ []) → Gives s given at r
  unfolding regions_bytes
  regions_read zero i e r b at d =
      let z : i ≡ c.count = omega arith in
      let b' = subst (λ (k : ℕ). Before c r (ltb c.prechart k) k) z b in
      end_read r (subst (λ (m : Bool). Before c r m c.count) (lt-ltb c.prechart c.count w.main) b') at d
  regions_read (suc n) i e r b at d =
      place_read i (omega arith) (eqb i c.prechart) refl r b (regions_bytes c n (suc i) (end_byte ∷ [])) at d
      (λ at' r' b' d'. regions_read n (suc i) (omega arith) r' b' at' d')

-- the heading, the regions, the end
pub round_trip : (c : Chart) → Shape c → well_formed c ≡ true → read_chart (chart_bytes c) ≡ accepted_as c
unfolding chart_bytes first_of touched_before
round_trip c shape e =
    gives_chart (chart_bytes c) (accepted_as c)
    (on_heading (chart_bytes c) _ 0 start_reading (regions_bytes c c.count 0 (end_byte ∷ [])) c.lines c.clocks refl
    (λ i. first_fault false None (not (range i)) false false false false false false 0 0)
    (λ at d. regions_read c w shape (chart_bytes c) c.count 0 (omega arith)
    (with_heading start_reading c.lines c.clocks) first at d))
  where
    w : WellFormed c
    w = wf_of c e

    range : (leb 2 c.lines && (leb c.lines 16 && leb c.clocks 8)) ≡ true
    range = and_both (le-leb _ _ w.low) (and_both (le-leb _ _ w.high) (le-leb _ _ w.clocks))

    first : Before c (with_heading start_reading c.lines c.clocks) (ltb c.prechart 0) 0
    first =
        subst (λ (m : Bool). Before c (with_heading start_reading c.lines c.clocks) m 0)
        (sym (le-ltb c.prechart 0 (omega arith)))
        (record {
          headed = refl;
          half = refl;
          lines = refl;
          prechart = refl;
          touched = refl;
          fine = refl;
          chart = refl;
        })
