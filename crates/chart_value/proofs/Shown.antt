-- A chart that some accepted bytes give shows an accepted abstract chart. Assumes nothing.
use mathlib.Core.Path.{◌≡◌, refl, sym, ap, ◌∙◌}
use mathlib.Core.Logic.{◌≢◌, ◌⊎◌, inl, inr, ◌↔◌}
use mathlib.Core.Bool.{Bool, true, false, So, cond, not, ◌&&◌, ◌||◌, false≢true}
use mathlib.Core.List.{List}
use Prim.Native.Nat.{ℕ, ◌≤◌, ◌<◌}
use native.Mathlib.Omega.{arith}
use native.Mathlib.Decide.{dec_lt}
use lib.Dec.{ltb, leb, eqb}
use borrow.Author.Tests.{ltb-true, lt-ltb, le-ltb, lt-leb}
use Rattle.bitset.specs.Set.{contains}
use Rattle.base.proofs.Bools.{both, and_both}
use Rattle.base.proofs.Facts.{fails_bound}
use Rattle.bitset.proofs.Laws.{member_lt, contains_empty}
use Rattle.model.specs.declared.Chart.{Chart}
use Rattle.model.specs.declared.Region.{Region}
use Rattle.model.specs.declared.Event.{Event}
use Rattle.model.specs.declared.Event.TheVariants as event
use Rattle.model.specs.Chart.{zero_region, region_at, term_at, touched_at}
use Rattle.order.specs.Above.{AboveIn, halves, first}
use Rattle.order.proofs.Laws.{decides}
use Rattle.condition.specs.Condition.{term_holds}
use Rattle.chart_reader.specs.Read.{read_chart}
use Rattle.chart_reader.specs.Said.{accepted_as}
use Rattle.rounds.specs.Chart.{Accepted}
use Rattle.chart_value.specs.Given.{Given}
use Rattle.chart_value.specs.View.{key_of, region_of, chart_of, Shown, CodesTell}
use Rattle.chart_value.proofs.Facts.{WellFormed, wf_of}
use Rattle.chart_value.proofs.Sound.{sound}
use Rattle.chart_value.proofs.Order.{above_lt, above_trans, fits_at, lines_in_lem, same_message, plain_below}

pub codes_tell : CodesTell
codes_tell m n a b c d e =
    let x : m.source ≡ n.source = omega arith in
    let y : m.destination ≡ n.destination = omega arith in
    let z : m.label ≡ n.label = omega arith in
    λ i. record { source = x i; destination = y i; label = z i }

cold : (hot main term : Bool) → main ≡ false → (not hot || (main && term)) ≡ true → hot ≡ false
cold true main term m e = absurd (false≢true (rw m at e))
cold false main term m e = refl

module _ (c : Chart) (w : WellFormed c) where
  order : (a b : ℕ) → So ((chart_of c).above a b) ↔ ((b < c.count) × AboveIn c a b)
  order a b = (
    λ e. let p = both (ltb b c.count) _ e in
        let h : b < c.count = ltb-true _ _ p.0 in
        let r : c.count ≤ 32 = w.room in
        (h, ((decides c).members a b h (omega arith)).0 p.1),
    λ q. let h : b < c.count = q.0 in
        let r : c.count ≤ 32 = w.room in
        and_both (lt-ltb _ _ h) (((decides c).members a b h (omega arith)).1 q.1),
  )

  inside : (i : ℕ) → i < c.count → region_of c i ≡ region_at c i
  inside i h = ap (λ (b : Bool). cond b (region_at c i) zero_region) (lt-ltb i c.count h)

  same_key : (a b : ℕ) → a < c.count → b < c.count → (x y : Event) → (region_at c a).event ≡ x → (region_at c b).event ≡ y
      → key_of x ≢ 0 → key_of x ≡ key_of y → a ≢ b → AboveIn c a b ⊎ AboveIn c b a
  same_key a b h k (event.Plain l) y e f n q d = absurd (n refl)
  same_key a b h k (event.Message m) (event.Plain l) e f n q d = absurd (n q)
  same_key a b h k (event.Message m) (event.Message m') e f n q d =
      let p = lines_in_lem c w a m h e in
      let r = lines_in_lem c w b m' k f in
      let s : m.source < c.lines = p.0 in
      let t : m.destination < c.lines = p.1 in
      let u : m'.source < c.lines = r.0 in
      let v : m'.destination < c.lines = r.1 in
      let y : c.lines ≤ 16 = w.high in
      let z = codes_tell m m' (omega arith) (omega arith) (omega arith) (omega arith) q in
      same_message c w a b m h k e (f ∙ ap event.Message (sym z)) d

  plain_key : (i : ℕ) → i < c.count → (x : Event) → (region_at c i).event ≡ x → key_of x ≡ 0 → (a : ℕ) × AboveIn c a i
  plain_key i h (event.Plain l) e q = plain_below c w i l h e
  plain_key i h (event.Message m) e q = absurd (omega arith)

  cold_prechart : (i : ℕ) → i < c.prechart → (region_of c i).hot ≡ false
  cold_prechart i h =
      let k : i < c.count = omega (arith, w.main) in
      ap (λ (g : Region). g.hot) (inside i k)
      ∙ cold (region_at c i).hot (leb c.prechart i) (not (eqb (region_at c i).count 0)) (lt-leb c.prechart i h)
      (fits_at c w i k).hot

  own_clocks : (i k : ℕ) → So (contains (region_of c i).resets k) → k < c.clocks
  own_clocks i k e = by (dec_lt i c.count)
    where
      by : Dec (i < c.count) → k < c.clocks
      by (yes h) =
          member_lt c.clocks (region_at c i).resets k (fits_at c w i h).resets
          (ap (λ (g : Region). contains g.resets k) (sym (inside i h)) ∙ e)
      by (no h) =
          let l : c.count ≤ i = omega arith in
          let o : region_of c i ≡ zero_region = ap (λ (b : Bool). cond b (region_at c i) zero_region)
          (le-ltb i c.count l) in
          let z : false ≡ true = sym (contains_empty k) ∙ ap (λ (g : Region). contains g.resets k) (sym o) ∙ e in
          absurd (let z : ◌≡◌ {A = ℕ} 0 1 = cc in omega arith)

  pub accepted : Accepted (chart_of c)
  accepted =
      record {
        downward = λ a b e. above_lt (touched_at c) c.prechart ((order a b).0 e).1;
        transitive =
            λ x y z e f. (order x z).1
            (((order y z).0 f).0, above_trans (touched_at c) c.prechart ((order x y).0 e).1 ((order y z).0 f).1);
        same_message = λ a b h k n q d.
            pick a b h k
            (same_key a b h k (region_at c a).event (region_at c b).event refl refl
            (rw (inside a h) at n) (rw (inside a h, inside b k) at q) d);
        halves = λ a b h k l. (order a b).1 (l, first (halves h k));
        plain_below = λ i h q.
            let r = plain_key i h (region_at c i).event refl (rw (inside i h) at q) in
            (r.0, (order r.0 i).1 (h, r.1));
        has_main = w.main;
        cold_prechart = cold_prechart;
        own_clocks = own_clocks;
        own_terms = λ i value. fails_bound (region_of c i).count (λ j. term_holds (term_at (region_of c i) j) value);
      }
    where
      pick : (a b : ℕ) → a < c.count → b < c.count → AboveIn c a b ⊎ AboveIn c b a
          → So ((chart_of c).above a b) ⊎ So ((chart_of c).above b a)
      pick a b h k (inl q) = inl ((order a b).1 (k, q))
      pick a b h k (inr q) = inr ((order b a).1 (h, q))

-- said of bytes
pub shown_of : (s : List ℕ) (c : Chart) → read_chart s ≡ accepted_as c → Shown c
shown_of s c e = let w = wf_of c (sound s c e).fine in
    record { accepted = accepted c w; region = inside c w; order = order c w }

pub shown : (c : Chart) → Given c → Shown c
shown c g = shown_of g.bytes c g.accepted
