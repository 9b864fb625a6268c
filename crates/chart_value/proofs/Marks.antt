-- The abstract chart does not show the marks, and a chart without them is still a chart. Assumes nothing.
use mathlib.Core.Path.{◌≡◌, refl, sym, ap, fun_ext, ◌∙◌}
use mathlib.Core.Bool.{Bool, true, false, cond, not, ◌&&◌, ◌||◌}
use Prim.Native.Nat.{ℕ, zero, suc, ◌<◌, min}
use lib.Dec.{eqb, leb, ltb}
use lib.ListN.{length, get_or, length-map, get_or-map}
use Rattle.bitset.specs.Set.{contains, union}
use Rattle.model.specs.declared.Chart.{Chart}
use Rattle.model.specs.declared.Region.{Region}
use Rattle.model.specs.Chart.{zero_term, zero_region, absent_region, most_regions, region_at, touched, touched_at}
use Rattle.base.specs.Lists.{fails_at}
use Rattle.order.specs.Order.{above_of, above_sets}
use Rattle.condition.specs.Condition.{term_holds}
use Rattle.chart_reader.specs.Read.{read_chart}
use Rattle.chart_reader.specs.Said.{accepted_as}
use Rattle.chart_value.specs.Given.{Given}
use Rattle.chart_value.specs.WellFormed.{region_fits, used_region_fits, touched_before, is_zero_region}
use Rattle.chart_value.specs.Writer.{chart_bytes}
use Rattle.chart_value.specs.View.{key_of, region_of, chart_of}
use Rattle.chart_value.specs.Marks.{Alike, unmarked_region, unmarked, MarksApart}
use Rattle.chart_value.proofs.Facts.{Shape, Fits, WellFormed, wf_of, of_wf, fits_of, of_fits, zero_region_lem}
use Rattle.chart_value.proofs.Facts.{zero_is_zero}
use Rattle.chart_value.proofs.RoundTrip.{round_trip}
use Rattle.chart_value.proofs.Sound.{sound}

module _ (c d : Chart) (a : Alike c d) where
  -- a part of each region that is the same where it is stored is the same where it is shown
  part : {A : Type 0} (f : Region → A) → ((i : ℕ) → f (region_at c i) ≡ f (region_at d i)) → (i : ℕ)
      → f (region_of c i) ≡ f (region_of d i)
  part f e i =
      by (ltb i c.count) ∙ ap (λ (n : ℕ). f (cond (ltb i n) (region_at d i) zero_region)) a.count
    where
      by : (b : Bool) → f (cond b (region_at c i) zero_region) ≡ f (cond b (region_at d i) zero_region)
      by true = e i
      by false = refl

  lines_same : touched_at c ≡ touched_at d
  lines_same = fun_ext (λ i. ap touched (a.regions i).event)

  above_same : above_of c ≡ above_of d
  above_same = λ x. above_sets (lines_same x) (a.prechart x) (min (a.count x) most_regions)

  same_shown : chart_of c ≡ chart_of d
  same_shown =
      let terms = part (λ g. g.terms) (λ i. (a.regions i).terms) in
      let counts = part (λ g. g.count) (λ i. (a.regions i).count) in
      let resets = part (λ g. g.resets) (λ i. (a.regions i).resets) in
      λ x. record {
        regions = a.count x;
        prechart = a.prechart x;
        key = λ i. key_of (part (λ g. g.event) (λ j. (a.regions j).event) i x);
        above = λ i j. ltb j (a.count x) && contains (get_or (above_same x) j 0) i;
        clocks = a.clocks x;
        resets = λ i k. contains (resets i x) k;
        terms = λ i. counts i x;
        failing = λ i value. fails_at (counts i x) (λ j. term_holds (get_or (terms i x) j zero_term) value);
        hot = λ i. part (λ g. g.hot) (λ j. (a.regions j).hot) i x;
      }

module _ (c : Chart) where
  region_there : (i : ℕ) → region_at (unmarked c) i ≡ unmarked_region (region_at c i)
  unfolding unmarked
  region_there i = get_or-map unmarked_region c.regions i absent_region

  alike : Alike c (unmarked c)
  unfolding unmarked
  alike = record {
    lines = refl;
    clocks = refl;
    prechart = refl;
    count = refl;
    regions = λ i. record {
      event = ap (λ (g : Region). g.event) (sym (region_there i));
      terms = ap (λ (g : Region). g.terms) (sym (region_there i));
      count = ap (λ (g : Region). g.count) (sym (region_there i));
      hot = ap (λ (g : Region). g.hot) (sym (region_there i));
      resets = ap (λ (g : Region). g.resets) (sym (region_there i));
    };
  }

  no_mark : (i : ℕ) → (region_at (unmarked c) i).rest ≡ false
  no_mark i = ap (λ (g : Region). g.rest) (region_there i)

  touched_same : (i : ℕ) → touched_before (unmarked c).regions i ≡ touched_before c.regions i
  unfolding touched_before
  touched_same zero = refl
  touched_same (suc i) = λ x. union (touched_same i x) (touched (region_there i x).event)

-- the tests of the chart pass without the marks
unmarked_fits : (lines clocks : ℕ) (main opening : Bool) (before : ℕ) (g : Region)
    → Fits lines clocks main opening before g → Fits lines clocks main opening before (unmarked_region g)
unmarked_fits lines clocks main opening before g f = record {
  event = f.event;
  terms = record { count = f.terms.count; used = f.terms.used; unused = f.terms.unused };
  resets = f.resets;
  bare = f.bare;
  hot = f.hot;
  rest = refl;
}

module _ (c : Chart) (w : WellFormed c) (s : Shape c) where
  unmarked_used : (i : ℕ) → i < c.count → used_region_fits (unmarked c) (leb c.prechart i) i ≡ true
  unfolding unmarked
  unmarked_used i h =
      (λ x. region_fits c.lines c.clocks (leb c.prechart i) (not (leb c.prechart i) || eqb c.prechart 0)
      (touched_same c i x) (region_there c i x))
      ∙ of_fits _ _ _ _ _ _ (unmarked_fits _ _ _ _ _ _ (fits_of _ _ _ _ _ _ (w.used i h)))

  unmarked_formed : WellFormed (unmarked c)
  unfolding unmarked
  unmarked_formed = record {
    low = w.low;
    high = w.high;
    clocks = w.clocks;
    main = w.main;
    room = w.room;
    used = unmarked_used;
    unused = λ i h k. ap is_zero_region (region_there c i)
        ∙ ap (λ (g : Region). is_zero_region (unmarked_region g)) (zero_region_lem (region_at c i) (s.terms i k) (w.unused i h k))
        ∙ zero_is_zero;
  }

  unmarked_shape : Shape (unmarked c)
  unfolding unmarked
  unmarked_shape = record {
    regions = length-map c.regions unmarked_region ∙ s.regions;
    terms = λ i h. ap (λ (g : Region). length g.terms) (region_there c i) ∙ s.terms i h;
  }

unmarked_read : (c : Chart) → Given c → read_chart (chart_bytes (unmarked c)) ≡ accepted_as (unmarked c)
unmarked_read c g =
    let whole = sound g.bytes c g.accepted in
    let w = wf_of c whole.fine in
    round_trip (unmarked c) (unmarked_shape c w whole.shape) (of_wf (unmarked c) (unmarked_formed c w whole.shape))

pub marks_apart : MarksApart
marks_apart =
    record { shown = same_shown; without = alike; none_left = no_mark; still_read = unmarked_read }
