-- Accepted bytes give a well-formed chart. The invariant of the reading state: the closed regions fit their places
-- (SoFar), the region last started fits up to what its closing asks (Grows). Each command without a fault keeps it,
-- a closing turns the second into the first, and at the 7F the first is what the test asks. Assumes nothing.
use mathlib.Core.Path.{◌≡◌, refl, sym, ap, subst, ◌∙◌}
use mathlib.Core.Bool.{Bool, true, false, true≢false, cond, not, ◌&&◌, ◌||◌}
use mathlib.Core.Logic.{◌⊎◌, inl, inr}
use mathlib.Core.List.{List}
use Prim.Native.Nat.{ℕ, zero, suc, ◌+◌, ◌≤◌, ◌<◌, ◌^◌}
use native.Mathlib.Omega.{arith}
use native.Mathlib.Numerals.{add-one}
use native.Mathlib.Decide.{ℕ_discrete}
use borrow.Author.Tests.{ltb-true, ltb-false, leb-true, leb-false, eqb-false, lt-ltb, le-leb, lt-leb, not-false}
use lib.Arith.{lt_of_le-ne}
use lib.Bits.{bit_and}
use lib.Pow.{pow_pos}
use lib.Dec.{eqb, leb, ltb}
use lib.ListN.{length, set, get_or-replicate, length-set}
use lib.Seq.{get_or-set_same, get_or-set_other}
use Rattle.model.specs.declared.Chart.{Chart}
use Rattle.model.specs.declared.Region.{Region}
use Rattle.model.specs.declared.Event.{Event}
use Rattle.model.specs.declared.Event.TheVariants as event
use Rattle.model.specs.declared.Term.{Term}
use Rattle.model.specs.declared.Left.{Left}
use Rattle.model.specs.declared.Left.TheVariants.{Clock, Difference}
use Rattle.model.specs.Chart.{zero_term, zero_region, absent_region, region_at, term_at, is_bare, touched}
use Rattle.chart_command.specs.declared.Command.{Command}
use Rattle.chart_command.specs.declared.Command.TheVariants.{Heading, Message, Plain, ClockTerm, DifferenceTerm, Hot}
use Rattle.chart_command.specs.declared.Command.TheVariants.{Rest, Resets, Main, End}
use Rattle.chart_command.specs.declared.Decoded.{Decoded}
use Rattle.chart_command.specs.declared.Undecoded.{Undecoded}
use Rattle.std.proofs.Common.{Option, Some, None, Result, Ok, Err}
use Rattle.chart_command.specs.Command.{decode_at}
use Rattle.chart_step.specs.declared.Fault.{Fault}
use Rattle.chart_step.specs.declared.Refusal.{Refusal}
use Rattle.chart_step.specs.declared.Refusal.TheVariants.{CutShort, Misplaced, Outside, Excess, Bare, HotAlone, Early}
use Rattle.chart_step.specs.declared.Refusal.TheVariants.{RestInPrechart, Unanchored, Mainless}
use Rattle.chart_step.proofs.Numbers.{refusal_nonzero}
use Rattle.chart_step.specs.declared.Reading.{Reading}
use Rattle.chart_step.specs.declared.Step.{Step}
use Rattle.chart_step.specs.Reading.{step_of, fault_of, decided, applied, next_of, closing_fault, closed, or_else, when}
use Rattle.chart_step.specs.Reading.{with_term, relation_of, begun_with, with_region, with_main, with_heading, is_outside}
use Rattle.chart_step.specs.Reading.{is_unanchored, is_mainless}
use Rattle.chart_reader.specs.Read.{read_chart, read_from, continue_at, continue_by, advance_of, advance_by, start_reading}
use Rattle.chart_reader.specs.Said.{Said, accepted_as, refused_for}
use Rattle.chart_value.specs.WellFormed.{well_formed, used_region_fits, region_fits, event_fits, left_fits, touched_before}
use Rattle.chart_value.specs.WellFormed.{is_zero_region}
use Rattle.bitset.specs.Set.{union, within}
use Rattle.base.proofs.Bools.{both, and_both, neither}
use Rattle.bitset.proofs.Laws.{within_true}
use Rattle.chart_value.proofs.Facts.{Shape, Terms, Fits, of_wf, of_fits, zero_is_zero, with_regions}

-- the closed regions of a chart that is being read; `main`: 50 was read
pub record SoFar (c : Chart) (main : Bool) : Type 0 where
  pub low : 2 ≤ c.lines
  pub high : c.lines ≤ 16
  pub clocks : c.clocks ≤ 8
  pub size : length c.regions ≡ 32
  pub room : c.count ≤ 32
  pub half : main ≡ false → c.prechart ≡ 0
  pub split : c.prechart ≤ c.count
  pub used : (i : ℕ) → i < c.count → used_region_fits c (main && leb c.prechart i) i ≡ true
  pub terms : (i : ℕ) → i < c.count → length (region_at c i).terms ≡ 4
  pub unused : (i : ℕ) → c.count ≤ i → i < 32 → region_at c i ≡ zero_region

-- the region last started: all but what its closing asks
pub record Grows (c : Chart) (main : Bool) (g : Region) : Type 0 where
  pub room : c.count < 32
  pub event : event_fits c.lines (not main || eqb c.prechart 0) (touched_before c.regions c.count)
      g.event ≡ true
  pub size : length g.terms ≡ 4
  pub terms : Terms c.clocks g
  pub resets : g.resets < 2 ^ c.clocks
  pub hot : (not g.hot || main) ≡ true
  pub rest : (not g.rest || main) ≡ true

-- both, between two commands; and the lines touched so far
pub data State (r : Reading) : Type 0 where
  idle : r.started ≡ false → SoFar r.chart r.main
      → r.touched ≡ touched_before r.chart.regions r.chart.count → State r
  busy : r.started ≡ true → SoFar r.chart r.main → Grows r.chart r.main r.region
      → r.touched ≡ union (touched_before r.chart.regions r.chart.count) (touched r.region.event) → State r

-- faults that were not found
pub first_clear : (f g : Option Fault) → or_else f g ≡ None → (f ≡ None) × (g ≡ None)
first_clear None g e = (refl, e)
first_clear (Some x) g e = absurd (let z : ◌≡◌ {A = ℕ} 0 1 = cc in omega arith)

quiet : (b : Bool) (k : Refusal) (o : ℕ) → when b k o ≡ None → b ≡ false
quiet true k o e = absurd (let z : ◌≡◌ {A = ℕ} 0 1 = cc in omega arith)
quiet false k o e = refl

pub clear : (b : Bool) (k : Refusal) (o : ℕ) (g : Option Fault) → or_else (when b k o) g ≡ None → (b ≡ false) × (g ≡ None)
clear true k o g e = absurd (let z : ◌≡◌ {A = ℕ} 0 1 = cc in omega arith)
clear false k o g e = (refl, e)

-- a later region changes nothing of what stands before
touched_set : (gs : List Region) (k : ℕ) (g : Region) (i : ℕ) → i ≤ k
    → touched_before (set gs k g) i ≡ touched_before gs i
unfolding touched_before
touched_set gs k g zero h = refl
touched_set gs k g (suc i) h =
    λ j. union (touched_set gs k g i (omega arith) j)
    (touched (get_or-set_other gs k i g absent_region (omega arith) j).event)

-- small facts for the closing of a region
and_true : (b : Bool) → (b && true) ≡ b
and_true true = refl
and_true false = refl

hot_closed : (hot main z : Bool) → (not hot || main) ≡ true → (hot && z) ≡ false → (not hot || (main && not z)) ≡ true
hot_closed false main z e f = refl
hot_closed true main z e f = and_both e (ap not f)

closed_same : (r : Reading) → ((closed r).lines ≡ r.chart.lines) × ((closed r).clocks ≡ r.chart.clocks)
    × ((closed r).prechart ≡ r.chart.prechart)
closed_same r = by (r.started && ltb r.chart.count 32)
  where
    next : Chart
    next = with_regions r.chart (r.chart.count + 1) (set r.chart.regions r.chart.count r.region)

    by : (b : Bool) → ((cond b next r.chart).lines ≡ r.chart.lines)
        × ((cond b next r.chart).clocks ≡ r.chart.clocks)
        × ((cond b next r.chart).prechart ≡ r.chart.prechart)
    by true = (refl, refl, refl)
    by false = (refl, refl, refl)

-- putting a region that fits after the closed ones
module _ (c : Chart) (main : Bool) (s : SoFar c main) (g : Region) (w : Grows c main g) (bare : is_bare g ≡ false)
    (hot : (g.hot && eqb g.count 0) ≡ false) where
  abbrev one_more : Chart
  one_more = with_regions c (suc c.count) (set c.regions c.count g)

  here : Fits c.lines c.clocks main (not main || eqb c.prechart 0) (touched_before c.regions c.count) g
  here =
      record {
        event = w.event;
        terms = w.terms;
        resets = w.resets;
        bare = bare;
        hot = hot_closed g.hot main (eqb g.count 0) w.hot hot;
        rest = w.rest;
      }

  put_touched : touched_before one_more.regions (suc c.count) ≡ union (touched_before c.regions c.count)
      (touched g.event)
  unfolding touched_before
  put_touched =
      let z = s.size in
      let l = w.room in
      λ j. union (touched_set c.regions c.count g c.count (omega arith) j)
      (touched (get_or-set_same c.regions c.count g absent_region (omega arith) j).event)

  put_used : (i : ℕ) → i ≤ c.count → Dec (i ≡ c.count) → used_region_fits one_more (main && leb c.prechart i) i ≡ true
  put_used i h (yes e) =
      let z : length c.regions ≡ 32 = s.size in
      let l : c.count < 32 = w.room in
      subst (λ (k : ℕ). used_region_fits one_more (main && leb c.prechart k) k ≡ true) (sym e)
      (ap (λ (b : Bool). used_region_fits one_more b c.count)
      (ap (λ (b : Bool). main && b) (le-leb c.prechart c.count s.split) ∙ and_true main)
      ∙ (λ j. region_fits c.lines c.clocks main (not main || eqb c.prechart 0)
      (touched_set c.regions c.count g c.count (omega arith) j)
      (get_or-set_same c.regions c.count g absent_region (omega arith) j))
      ∙ of_fits _ _ _ _ _ _ here)
  put_used i h (no e) =
      let m = main && leb c.prechart i in
      (λ j. region_fits c.lines c.clocks m (not m || eqb c.prechart 0)
      (touched_set c.regions c.count g i h j) (get_or-set_other c.regions c.count i g absent_region e j))
      ∙ s.used i (lt_of_le-ne h e)

  put_terms : (i : ℕ) → i ≤ c.count → Dec (i ≡ c.count) → length (region_at one_more i).terms ≡ 4
  put_terms i h (yes e) =
      let z : length c.regions ≡ 32 = s.size in
      let l : c.count < 32 = w.room in
      rw e (ap (λ (x : Region). length x.terms) (get_or-set_same c.regions c.count g absent_region (omega arith))
      ∙ w.size)
  put_terms i h (no e) =
      ap (λ (x : Region). length x.terms) (get_or-set_other c.regions c.count i g absent_region e)
      ∙ s.terms i (lt_of_le-ne h e)

  put_so_far : SoFar one_more main
  put_so_far =
      let z : length c.regions ≡ 32 = s.size in
      let l : c.count < 32 = w.room in
      let m : c.prechart ≤ c.count = s.split in
      record {
        low = s.low;
        high = s.high;
        clocks = s.clocks;
        size = length-set c.regions c.count g ∙ s.size;
        room = l;
        half = s.half;
        split = omega arith;
        used = λ i h. put_used i (omega arith) (ℕ_discrete i c.count);
        terms = λ i h. put_terms i (omega arith) (ℕ_discrete i c.count);
        unused = λ i h k. get_or-set_other c.regions c.count i g absent_region (omega arith)
            ∙ s.unused i (omega arith) k;
      }

-- what stands when the region last started is closed
record Closed (r : Reading) : Type 0 where
  so_far : SoFar (closed r) r.main
  touched : r.touched ≡ touched_before (closed r).regions (closed r).count

-- closing without 6 and 7 puts the region last started among the closed ones
close : (r : Reading) → State r → closing_fault r ≡ None → Closed r
close r (idle e s t) f =
    let q : closed r ≡ r.chart =
    ap (λ (b : Bool). cond (b && ltb r.chart.count 32)
    (with_regions r.chart (r.chart.count + 1) (set r.chart.regions r.chart.count r.region))
    r.chart) e in
    record {
      so_far = subst (λ (c : Chart). SoFar c r.main) (sym q) s;
      touched = t ∙ sym (ap (λ (c : Chart). touched_before c.regions c.count) q);
    }
close r (busy e s w t) f =
    let a = first_clear (when (r.started && is_bare r.region) Bare r.start)
    (when (r.started && (r.region.hot && eqb r.region.count 0)) HotAlone r.start) f in
    let bare : is_bare r.region ≡ false =
    ap (λ (b : Bool). b && is_bare r.region) (sym e) ∙ quiet _ _ _ a.0 in
    let hot : (r.region.hot && eqb r.region.count 0) ≡ false =
    ap (λ (b : Bool). b && (r.region.hot && eqb r.region.count 0)) (sym e) ∙ quiet _ _ _ a.1 in
    let q : closed r ≡ one_more r.chart r.main s r.region w bare hot =
    (λ j. cond (e j && lt-ltb r.chart.count 32 w.room j)
    (with_regions r.chart (add-one r.chart.count j) (set r.chart.regions r.chart.count r.region))
    r.chart) in
    record {
      so_far = subst (λ (c : Chart). SoFar c r.main) (sym q)
          (put_so_far r.chart r.main s r.region w bare hot);
      touched =
          t ∙ sym (put_touched r.chart r.main s r.region w bare hot)
          ∙ sym (ap (λ (c : Chart). touched_before c.regions c.count) q);
    }

-- a chart that is read whole
pub record Whole (c : Chart) : Type 0 where
  pub fine : well_formed c ≡ true
  pub shape : Shape c

-- what each command keeps, and what is true after one: the invariant, a whole chart, or nothing
pub record Inv (r : Reading) : Type 0 where
  pub headed : r.headed ≡ true
  pub state : State r

unfoldable pub AfterBy : Option ℕ → Reading → Type 0
AfterBy (Some next) r = Inv r
AfterBy None r = Whole r.chart

abbrev pub After : Result Step Fault → Type 0
After (Ok st) = AfterBy st.next st.reading
After (Err f) = Unit {0}

decided_after : (f : Option Fault) (st : Step) → (f ≡ None → AfterBy st.next st.reading) → After (decided f st)
unfolding AfterBy
decided_after None st k = k refl
decided_after (Some f) st k = tt

-- a region begins
begin : (r : Reading) → r.headed ≡ true → Closed r → (at : ℕ) (e : Event) → leb 32 (closed r).count ≡ false
    → event_fits r.chart.lines (not r.main || eqb r.chart.prechart 0) r.touched e ≡ true
    → Inv (begun_with r at e)
begin r h c at e room fits =
    record {
      headed = h;
      state =
          busy refl c.so_far
          (record {
            room = leb-false _ _ room;
            event =
                (λ j. event_fits ((closed_same r).0 j) (not r.main || eqb ((closed_same r).2 j) 0)
                (sym c.touched j) e) ∙ fits;
            size = refl;
            terms = record {
              count = omega arith;
              used = λ j l. absurd (omega arith);
              unused = λ j l k. get_or-replicate 4 j zero_term zero_term k;
            };
            resets = pow_pos (closed r).clocks;
            hot = refl;
            rest = refl;
          })
          (ap (λ (t : ℕ). union t (touched e)) c.touched);
    }

-- a term is added
module _ (clocks : ℕ) (g : Region) (size : length g.terms ≡ 4) (w : Terms clocks g) (room : g.count < 4) (t : Term)
    (fits : left_fits clocks t.left ≡ true) where
  abbrev with_term_lem : Region
  with_term_lem =
      record {
        event = g.event;
        terms = set g.terms g.count t;
        count = g.count + 1;
        hot = g.hot;
        resets = g.resets;
        rest = g.rest;
      }

  term_used : (j : ℕ) → j ≤ g.count → Dec (j ≡ g.count) → left_fits clocks (term_at with_term_lem j).left ≡ true
  term_used j h (yes e) =
      rw e (ap (λ (x : Term). left_fits clocks x.left) (get_or-set_same g.terms g.count t zero_term (omega arith))
      ∙ fits)
  term_used j h (no e) =
      ap (λ (x : Term). left_fits clocks x.left) (get_or-set_other g.terms g.count j t zero_term e)
      ∙ w.used j (lt_of_le-ne h e)

  more_terms : Terms clocks with_term_lem
  more_terms =
      record {
        count = omega arith;
        used = λ j h. term_used j (omega arith) (ℕ_discrete j g.count);
        unused = λ j h k. get_or-set_other g.terms g.count j t zero_term (omega arith) ∙ w.unused j (omega arith) k;
      }

grow : (r : Reading) → r.headed ≡ true → State r → not r.started ≡ false → (left : Left) (e n : ℕ)
    → leb 4 r.region.count ≡ false
    → left_fits r.chart.clocks left ≡ true → Inv (with_term r left e n)
grow r h (idle s c t) f left e n room fits = absurd (true≢false (sym (not-false _ f) ∙ s))
grow r h (busy s c w t) f left e n room fits =
    let g = r.region in
    let l : g.count < 4 = leb-false _ _ room in
    let x : Term = record { left = left; relation = relation_of e; n = n } in
    subst (λ (b : Bool). Inv (cond b (with_region r (with_term_lem r.chart.clocks g w.size w.terms l x fits)) r))
    (sym (lt-ltb g.count 4 l))
    (record {
      headed = h;
      state =
          busy s c
          (record {
            room = w.room;
            event = w.event;
            size = length-set g.terms g.count x ∙ w.size;
            terms = more_terms r.chart.clocks g w.size w.terms l x fits;
            resets = w.resets;
            hot = w.hot;
            rest = w.rest;
          })
          t;
    })

-- 32, 33, 40: the region becomes hot, is marked, or has resets
change : (r : Reading) (hot : Bool) (k : ℕ) (rest : Bool) → r.headed ≡ true → State r → not r.started ≡ false
    → (Grows r.chart r.main r.region
    → ((not hot || r.main) ≡ true) × (k < 2 ^ r.chart.clocks) × ((not rest || r.main) ≡ true))
    → Inv (with_region r
    (record {
      event = r.region.event;
      terms = r.region.terms;
      count = r.region.count;
      hot = hot;
      resets = k;
      rest = rest;
    }))
change r hot k rest h (idle s c t) f u = absurd (true≢false (sym (not-false _ f) ∙ s))
change r hot k rest h (busy s c w t) f u =
    record {
      headed = h;
      state =
          busy s c
          (record {
            room = w.room;
            event = w.event;
            size = w.size;
            terms = record { count = w.terms.count; used = w.terms.used; unused = w.terms.unused };
            resets = (u w).1;
            hot = (u w).0;
            rest = (u w).2;
          })
          t;
    }

-- 50: the main chart starts
cross : (r : Reading) → r.headed ≡ true → Closed r → r.main ≡ false → Inv (with_main r)
cross r h c m =
    let s = c.so_far in
    record {
      headed = h;
      state =
          idle refl
          (record {
            low = s.low;
            high = s.high;
            clocks = s.clocks;
            size = s.size;
            room = s.room;
            half = λ z. absurd (true≢false z);
            split = omega arith;
            used = λ i l.
                ap (λ (b : Bool). used_region_fits (with_main r).chart b i) (lt-leb (closed r).count i l)
                ∙ ap (λ (b : Bool). used_region_fits (closed r) b i)
                (sym (ap (λ (b : Bool). b && leb (closed r).prechart i) m)) ∙ s.used i l;
            terms = s.terms;
            unused = s.unused;
          })
          c.touched;
    }

-- 7F: the chart is whole
finish : (r : Reading) → Closed r → r.main ≡ true → eqb (closed r).count (closed r).prechart ≡ false
    → Whole (closed r)
finish r c m e =
    let s = c.so_far in
    record {
      fine =
          of_wf (closed r)
          (record {
            low = s.low;
            high = s.high;
            clocks = s.clocks;
            main = lt_of_le-ne s.split (λ z. eqb-false _ _ e (sym z));
            room = s.room;
            used = λ i l. ap (λ (b : Bool). used_region_fits (closed r) (b && leb (closed r).prechart i) i) (sym m)
                ∙ s.used i l;
            unused = λ i l k. ap is_zero_region (s.unused i l k) ∙ zero_is_zero;
          });
      shape = record { regions = s.size; terms = λ i l. by i l (ltb i (closed r).count) refl };
    }
  where
    by : (i : ℕ) → i < 32 → (b : Bool) → ltb i (closed r).count ≡ b → length (region_at (closed r) i).terms ≡ 4
    by i l true q = c.so_far.terms i (ltb-true _ _ q)
    by i l false q = ap (λ (g : Region). length g.terms) (c.so_far.unused i (ltb-false _ _ q) l)

-- tests that were not passed, turned round
inside : (a n : ℕ) → leb n a ≡ false → ltb a n ≡ true
inside a n e = lt-ltb a n (leb-false n a e)

nand : (x y : Bool) → (x && y) ≡ false → (not x || not y) ≡ true
nand true y e = ap not e
nand false y e = refl

-- each command after the heading, by what its checks say
module _ (r : Reading) (h : r.headed ≡ true) (s : State r) (at next : ℕ) (more : Bool) where
  kept : (c : Command) → fault_of r at next more c ≡ None → AfterBy (next_of next c) (applied r at c)
  unfolding AfterBy
  kept (Heading l k) e = absurd (true≢false (sym h ∙ (clear r.headed Misplaced at _ e).0))
  kept (Message a b l) e =
      let p = clear (not r.headed) Misplaced at _ e in
      let q = first_clear (closing_fault r) _ p.1 in
      let u = clear (is_outside r.chart (Message a b l)) Outside at _ q.1 in
      let v = clear (leb 32 (closed r).count) Excess at _ u.1 in
      let x = neither (leb r.chart.lines a) _ u.0 in
      let y = neither (leb r.chart.lines b) _ x.1 in
      begin r h (close r s q.0) at (event.Message (record { source = a; destination = b; label = l })) v.0
      (and_both (inside a r.chart.lines x.0) (and_both (inside b r.chart.lines y.0) (ap not y.1)))
  kept (Plain l) e =
      let p = clear (not r.headed) Misplaced at _ e in
      let q = first_clear (closing_fault r) _ p.1 in
      let u = clear (is_outside r.chart (Plain l)) Outside at _ q.1 in
      let v = clear (leb 32 (closed r).count) Excess at _ u.1 in
      let w = clear (is_unanchored r (Plain l)) Unanchored at _ v.1 in
      let x = neither (eqb l 0) _ u.0 in
      begin r h (close r s q.0) at (event.Plain l) v.0
      (and_both (ap not x.0)
      (and_both (not-false (within r.chart.lines l) x.1)
      (nand (not r.main || eqb r.chart.prechart 0) (eqb (bit_and l r.touched) 0) w.0)))
  kept (ClockTerm k e n) f =
      let p = clear (not r.started) Misplaced at _ f in
      let u = clear (is_outside r.chart (ClockTerm k e n)) Outside at _ p.1 in
      let v = clear (leb 4 r.region.count) Excess at _ u.1 in
      let x = neither (leb r.chart.clocks k) _ u.0 in
      grow r h s p.0 (Clock k) e n v.0 (inside k r.chart.clocks x.0)
  kept (DifferenceTerm a b e n) f =
      let p = clear (not r.started) Misplaced at _ f in
      let u = clear (is_outside r.chart (DifferenceTerm a b e n)) Outside at _ p.1 in
      let v = clear (leb 4 r.region.count) Excess at _ u.1 in
      let x = neither (leb r.chart.clocks a) _ u.0 in
      let y = neither (leb r.chart.clocks b) _ x.1 in
      let z = neither (eqb a b) _ y.1 in
      grow r h s p.0 (Difference a b) e n v.0
      (and_both (inside a r.chart.clocks x.0) (and_both (inside b r.chart.clocks y.0) (ap not z.0)))
  kept Hot e =
      let p = clear (not r.started || r.region.hot) Misplaced at _ e in
      let u = clear (not r.main) Early at _ p.1 in
      change r true r.region.resets r.region.rest h s (neither (not r.started) _ p.0).0
      (λ w. (not-false _ u.0, w.resets, w.rest))
  kept Rest e =
      let p = clear (not r.started || r.region.rest) Misplaced at _ e in
      let u = clear (not r.main) RestInPrechart at _ p.1 in
      change r r.region.hot r.region.resets true h s (neither (not r.started) _ p.0).0
      (λ w. (w.hot, w.resets, not-false _ u.0))
  kept (Resets k) e =
      let p = clear (not r.started || not (eqb r.region.resets 0)) Misplaced at _ e in
      let u = clear (is_outside r.chart (Resets k)) Outside at _ p.1 in
      change r r.region.hot k r.region.rest h s (neither (not r.started) _ p.0).0
      (λ w. (w.hot, within_true _ _ (not-false _ (neither (eqb k 0) _ u.0).1), w.rest))
  kept Main e =
      let p = clear (not r.headed || r.main) Misplaced at _ e in
      let q = first_clear (closing_fault r) _ p.1 in
      cross r h (close r s q.0) (neither (not r.headed) _ p.0).1
  kept End e =
      let p = clear (not r.headed) Misplaced at _ e in
      let q = first_clear (closing_fault r) _ p.1 in
      let u = clear (is_mainless r End) Mainless at _ q.1 in
      let x = neither (not r.main) _ u.0 in
      finish r (close r s q.0) (not-false _ x.0) x.1

-- before the heading there is nothing
started : (at next : ℕ) (more : Bool) (c : Command) → After (step_of start_reading at next more c)
unfolding AfterBy touched_before
started at next more (Heading l k) =
    decided_after (fault_of start_reading at next more (Heading l k))
    (record { reading = with_heading start_reading l k; next = Some next })
    (λ e. by (clear (not (leb 2 l && (leb l 16 && leb k 8))) Outside at None e).0)
  where
    by : not (leb 2 l && (leb l 16 && leb k 8)) ≡ false → Inv (with_heading start_reading l k)
    by e =
        let p = both (leb 2 l) (leb l 16 && leb k 8) (not-false _ e) in
        let q = both (leb l 16) (leb k 8) p.1 in
        record {
          headed = refl;
          state =
              idle refl
              (record {
                low = leb-true _ _ p.0;
                high = leb-true _ _ q.0;
                clocks = leb-true _ _ q.1;
                size = refl;
                room = omega arith;
                half = λ z. refl;
                split = omega arith;
                used = λ i h. absurd (omega arith);
                terms = λ i h. absurd (omega arith);
                unused = λ i h m. get_or-replicate 32 i zero_region absent_region m;
              })
              refl;
        }
started at next more (Message a b l) = tt
started at next more (Plain l) = tt
started at next more (ClockTerm k e n) = tt
started at next more (DifferenceTerm a b e n) = tt
started at next more Hot = tt
started at next more Rest = tt
started at next more (Resets k) = tt
started at next more Main = tt
started at next more End = tt

-- at the start, or with the invariant, every command keeps it
unfoldable pub Ready : Reading → Type 0
Ready r = (r ≡ start_reading) ⊎ Inv r

command_keeps : (r : Reading) → Ready r → (at next : ℕ) (more : Bool) (c : Command) → After (step_of r at next more c)
unfolding Ready
command_keeps r (inl e) at next more c =
    subst (λ (r : Reading). After (step_of r at next more c)) (sym e) (started at next more c)
command_keeps r (inr v) at next more c =
    decided_after (fault_of r at next more c) (record { reading = applied r at c; next = next_of next c })
    (λ e. kept r v.headed v.state at next more c e)

pub advance_keeps : (s : List ℕ) (at : ℕ) (r : Reading) → Ready r → After (advance_of s at r)
unfolding advance_of AfterBy
advance_keeps s at r v = by (decode_at s at)
  where
    by : (d : Result Decoded Undecoded) → After (advance_by s at r d)
    by (Ok d) = command_keeps r v at d.next (ltb d.next (length s)) d.command
    by (Err why) = tt

-- the whole reading, by the count of commands
pub never : {A : Type 0} (f : Refusal) (o : ℕ) (c : Chart) → refused_for f o ≡ accepted_as c → A
never f o c e = absurd (refusal_nonzero f (ap (λ (x : Said). x.number) e))

from_here : (n : ℕ) (s : List ℕ) (at : ℕ) (r : Reading) (c : Chart) → Ready r → read_from n s at r ≡ accepted_as c
    → Whole c
unfolding read_from AfterBy Ready
from_here zero s at r c v e = never CutShort (length s) c e
from_here (suc n) s at r c v e =
    by (advance_of s at r) (advance_keeps s at r v) e (λ at r v. from_here n s at r c v)
  where
    on : (o : Option ℕ) (x : Reading) → AfterBy o x → continue_at (read_from n s) o x ≡ accepted_as c
        → ((at : ℕ) (r : Reading) → Ready r → read_from n s at r ≡ accepted_as c → Whole c) → Whole c
    on (Some next) x v e k = k next x (inr v) e
    on None x w e k = subst Whole (ap (λ (y : Said). y.chart) e) w

    by : (a : Result Step Fault) → After a → continue_by (read_from n s) a ≡ accepted_as c
        → ((at : ℕ) (r : Reading) → Ready r → read_from n s at r ≡ accepted_as c → Whole c) → Whole c
    by (Ok st) v e k = on st.next st.reading v e k
    by (Err f) v e k = never f.refusal f.offset c e

pub sound : (s : List ℕ) (c : Chart) → read_chart s ≡ accepted_as c → Whole c
unfolding read_chart Ready
sound s c e = from_here (length s + 1) s 0 start_reading c (inl refl) e
