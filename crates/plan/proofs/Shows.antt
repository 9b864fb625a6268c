-- What is compiled part by part shows the chart. Assumes nothing.
use mathlib.Core.Path.{◌≡◌, refl, sym, ap, subst, ◌∙◌}
use mathlib.Core.Bool.{Bool, true, false, cond, ◌&&◌}
use mathlib.Core.List.{List}
use Prim.Native.Nat.{ℕ, ◌+◌, ◌*◌, ◌/◌, ◌%◌, ◌≤◌, ◌<◌}
use native.Mathlib.Omega.{arith}
use native.Mathlib.Decide.{dec_lt}
use borrow.Author.Tests.{lt-ltb, le-ltb, ltb-false, ne_eqb}
use lib.Dec.{eqb, ltb}
use lib.ListN.{length, get_or, set, replicate}
use Rattle.bitset.specs.Set.{contains, inserted}
use Rattle.bitset.proofs.Laws.{contains_empty}
use Rattle.base.proofs.Filled.{Filled, filled_none, filled_next}
use Rattle.model.specs.declared.Chart.{Chart}
use Rattle.model.specs.declared.Event.{Event}
use Rattle.model.specs.declared.Event.TheVariants.{Plain, Message}
use Rattle.model.specs.declared.Region.{Region}
use Rattle.model.specs.Chart.{zero_region, region_at, term_at, is_plain, most_regions, most_terms}
use Rattle.order.specs.Order.{above_of}
use Rattle.order.proofs.Laws.{sets_beyond}
use Rattle.rounds.specs.Chart.{Accepted}
use Rattle.chart_value.specs.WellFormed.{left_fits}
use Rattle.chart_value.specs.View.{code_of, key_of, region_of, chart_of}
use Rattle.chart_value.proofs.Facts.{WellFormed}
use Rattle.chart_value.proofs.Order.{fits_at}
use Rattle.layout.specs.View.{failing_by, terms_by, plan_chart, InChart, Words, Compiled}
use Rattle.layout.specs.declared.Head.{Head}
use Rattle.plan.specs.Words.{word_of, word_at}
use Rattle.plan.proofs.Words.{word_is, word_holds, word_named, words_fail, words_count}
use Rattle.plan.proofs.Members.{Gathered, gathered_below, gathered_none, gathered_next}

-- a part of the region at i, or of zeros beyond the chart
clipped : {A : Type 0} (c : Chart) (f : Region → A) (z : A) → z ≡ f zero_region → (i : ℕ)
    → cond (ltb i c.count) (f (region_at c i)) z ≡ f (region_of c i)
clipped {A} c f z e i = by (ltb i c.count)
  where
    by : (b : Bool) → cond b (f (region_at c i)) z ≡ f (cond b (region_at c i) zero_region)
    by true = refl
    by false = e

keys_show : (c : Chart) (keys : List ℕ) → Filled 0 (λ i. key_of (region_at c i).event) c.count keys → (i : ℕ)
    → get_or keys i 0 ≡ (chart_of c).key i
keys_show c keys F i = F.is i ∙ clipped c (λ g. key_of g.event) 0 refl i

resets_show : (c : Chart) (resets : List ℕ) → Filled 0 (λ i. (region_at c i).resets) c.count resets
    → (i k : ℕ) → contains (get_or resets i 0) k ≡ (chart_of c).resets i k
resets_show c resets F i k = ap (λ (s : ℕ). contains s k) (F.is i ∙ clipped c (λ g. g.resets) 0 refl i)

hot_shows : (c : Chart) (hot : ℕ) → Gathered (λ i. (region_at c i).hot) c.count hot → (i : ℕ)
    → contains hot i ≡ (chart_of c).hot i
hot_shows c hot G i = G.has i ∙ clipped c (λ g. g.hot) false refl i

plain_key : (e : Event) → is_plain e ≡ eqb (key_of e) 0
plain_key (Message m) = sym (ne_eqb (code_of m) 0 (λ z. omega arith))
plain_key (Plain l) = refl

plain_shows : (c : Chart) (plain : ℕ) → Gathered (λ i. is_plain (region_at c i).event) c.count plain
    → (i : ℕ) → i < c.count → contains plain i ≡ eqb ((chart_of c).key i) 0
plain_shows c plain G i h =
    G.has i ∙ rw (lt-ltb i c.count h) (plain_key (region_at c i).event)

-- beyond the chart nothing is above
above_shows : (c : Chart) (a b : ℕ) → contains (get_or (above_of c) b 0) a ≡ (chart_of c).above a b
above_shows c a b = by (ltb b c.count) refl
  where
    by : (t : Bool) → ltb b c.count ≡ t → contains (get_or (above_of c) b 0) a ≡
        (t && contains (get_or (above_of c) b 0) a)
    by true e = refl
    by false e = ap (λ (s : ℕ). contains s a) (sets_beyond c b (ltb-false _ _ e)) ∙ contains_empty a

-- four words for each region
abbrev pub words_of : Chart → ℕ → ℕ
words_of c k = word_at (region_at c (k / most_terms)) (k % most_terms)

-- one word more
pub word_next : (c : Chart) (i j v : ℕ) {out : List ℕ} → j < most_terms → Filled 0 (words_of c) (i * most_terms + j) out
    → i * most_terms + j < length out → v ≡ word_at (region_at c i) j
    → Filled 0 (words_of c) (i * most_terms + (j + 1)) (set out (i * most_terms + j) v)
word_next c i j v h F l e =
    let d : (i * most_terms + j) / most_terms ≡ i = omega arith in
    let m : (i * most_terms + j) % most_terms ≡ j = omega arith in
    let n : i * most_terms + j + 1 ≡ i * most_terms + (j + 1) = omega arith in
    rw n at (filled_next v F l (rw (d, m) e))

module _ (c : Chart) (w : WellFormed c) (terms : List ℕ) (F : Filled 0 (words_of c) (c.count * most_terms) terms) where
  -- the words of region i
  words_in : (i j : ℕ) → i < c.count → j < most_terms → get_or terms (i * most_terms + j) 0 ≡ word_at (region_at c i) j
  words_in i j h l =
      let a : i * most_terms + j < c.count * most_terms = omega arith in
      let d : (i * most_terms + j) / most_terms ≡ i = omega arith in
      let m : (i * most_terms + j) % most_terms ≡ j = omega arith in
      F.is (i * most_terms + j) ∙ rw (lt-ltb (i * most_terms + j) (c.count * most_terms) a, d, m)

  words_beyond : (i j : ℕ) → c.count ≤ i → get_or terms (i * most_terms + j) 0 ≡ 0
  words_beyond i j h =
      let a : c.count * most_terms ≤ i * most_terms + j = omega arith in
      F.is (i * most_terms + j) ∙ rw (le-ltb (i * most_terms + j) (c.count * most_terms) a)

  -- the words of a region that fits, in the chart or beyond it
  record RegionWords (i : ℕ) (g : Region) : Type 0 where
    count : g.count ≤ most_terms
    same : (j : ℕ) → j < most_terms → get_or terms (i * most_terms + j) 0 ≡ word_at g j
    fits : (j : ℕ) → j < g.count → left_fits c.clocks (term_at g j).left ≡ true

  region_words : (i : ℕ) → RegionWords i (region_of c i)
  region_words i = by (dec_lt i c.count)
    where
      by : Dec (i < c.count) → RegionWords i (region_of c i)
      by (yes h) =
          let t = (fits_at c w i h).terms in
          rw (lt-ltb i c.count h)
          (record { count = t.count; same = λ j l. words_in i j h l; fits = λ j l. t.used j l })
      by (no h) =
          let l : c.count ≤ i = omega arith in
          rw (le-ltb i c.count l)
          (record {
            count = omega arith;
            same = λ j k. words_beyond i j l ∙ sym
                (ap (λ (b : Bool). cond b (word_of (term_at zero_region j)) 0) (le-ltb j 0 (omega arith)));
            fits = λ j k. absurd (omega arith);
          })

  terms_show : (i : ℕ) → terms_by terms i ≡ (chart_of c).terms i
  terms_show i = let R = region_words i in
      words_count (region_of c i) (λ j. get_or terms (i * most_terms + j) 0) R.count R.same

  failing_shows : (i : ℕ) (v : ℕ → ℕ) → failing_by terms i v ≡ (chart_of c).failing i v
  failing_shows i v = let R = region_words i in
      words_fail (region_of c i) (λ j. get_or terms (i * most_terms + j) 0) R.count R.same v
      (λ j l. word_holds c.clocks (term_at (region_of c i) j) w.clocks (R.fits j l) v)

  -- a word that isn't 0 is a term's
  words_named : (k : ℕ) → ¬ (get_or terms k 0 ≡ 0) → InChart c.clocks (get_or terms k 0)
  words_named k z = by (dec_lt k (c.count * most_terms)) (dec_lt (k % most_terms) (region_at c (k / most_terms)).count)
    where
      by : Dec (k < c.count * most_terms) → Dec (k % most_terms < (region_at c (k / most_terms)).count)
          → InChart c.clocks (get_or terms k 0)
      by (no h) d = let l : c.count * most_terms ≤ k = omega arith in
          absurd (z (F.is k ∙ rw (le-ltb k (c.count * most_terms) l)))
      by (yes h) (no d) =
          let l : (region_at c (k / most_terms)).count ≤ k % most_terms = omega arith in
          absurd (z
          (F.is k ∙ rw
          (lt-ltb k (c.count * most_terms) h, le-ltb (k % most_terms) (region_at c (k / most_terms)).count l)))
      by (yes h) (yes d) =
          let r : c.count ≤ most_regions = w.room in
          let i : k / most_terms < c.count = omega arith in
          let t = (fits_at c w (k / most_terms) i).terms in
          let e : get_or terms k 0 ≡ word_of (term_at (region_at c (k / most_terms)) (k % most_terms)) = F.is k
          ∙ rw (lt-ltb k (c.count * most_terms) h, lt-ltb (k % most_terms) (region_at c (k / most_terms)).count d) in
          subst (InChart c.clocks) (sym e)
          (word_named c.clocks (term_at (region_at c (k / most_terms)) (k % most_terms)) w.clocks
          (t.used (k % most_terms) d))

  words_end : (i j k : ℕ) → j ≤ k → k < most_terms → get_or terms (i * most_terms + j) 0 ≡ 0
      → get_or terms (i * most_terms + k) 0 ≡ 0
  words_end i j k l m z = by (dec_lt i c.count) (dec_lt j (region_at c i).count)
    where
      by : Dec (i < c.count) → Dec (j < (region_at c i).count) → get_or terms (i * most_terms + k) 0 ≡ 0
      by (no h) d = words_beyond i k (omega arith)
      by (yes h) (yes d) =
          absurd (word_is (term_at (region_at c i) j)
          (ap (λ (b : Bool). cond b (word_of (term_at (region_at c i) j)) 0) (sym (lt-ltb j (region_at c i).count d))
          ∙ sym (words_in i j h (omega arith)) ∙ z))
      by (yes h) (no d) =
          let g : (region_at c i).count ≤ k = omega arith in
          words_in i k h m ∙ ap (λ (b : Bool). cond b (word_of (term_at (region_at c i) k)) 0)
          (le-ltb k (region_at c i).count g)

  words_are : Words c.clocks terms
  words_are = record { named = words_named; ends = words_end }

-- the parts, as far as region i
pub record Parts (c : Chart) (i plain hot : ℕ) (keys resets terms : List ℕ) : Type 0 where
  pub plain_set : Gathered (λ k. is_plain (region_at c k).event) i plain
  pub hot_set : Gathered (λ k. (region_at c k).hot) i hot
  pub key_at : Filled 0 (λ k. key_of (region_at c k).event) i keys
  pub resets_at : Filled 0 (λ k. (region_at c k).resets) i resets
  pub word_at_lem : Filled 0 (words_of c) (i * most_terms) terms

pub parts_none : {c : Chart} → Parts c 0 0 0 (replicate most_regions 0) (replicate most_regions 0)
    (replicate (most_regions * most_terms) 0)
parts_none = record {
  plain_set = gathered_none;
  hot_set = gathered_none;
  key_at = filled_none most_regions;
  resets_at = filled_none most_regions;
  word_at_lem = filled_none (most_regions * most_terms);
}

-- one region more
pub parts_next : {c : Chart} {i plain hot : ℕ} {keys resets terms : List ℕ} (P : Parts c i plain hot keys resets terms)
    (p h k s n : ℕ) {out : List ℕ} → i < length keys → i < length resets
    → p ≡ cond (is_plain (region_at c i).event) (inserted plain i) plain
    → h ≡ cond (region_at c i).hot (inserted hot i) hot
    → k ≡ key_of (region_at c i).event → s ≡ (region_at c i).resets
    → n ≡ (i + 1) * most_terms → Filled 0 (words_of c) n out
    → Parts c (i + 1) p h (set keys i k) (set resets i s) out
parts_next P p h k s n a b ep eh ek es e F = record {
  plain_set = gathered_next p P.plain_set ep;
  hot_set = gathered_next h P.hot_set eh;
  key_at = filled_next k P.key_at a ek;
  resets_at = filled_next s P.resets_at b es;
  word_at_lem = rw (← e) F;
}

-- the parts together
module _ (c : Chart) (w : WellFormed c) (accepted : Accepted (chart_of c)) {h : Head} {keys above resets terms : List ℕ}
    (heading : (h.count ≡ c.count) × (h.prechart ≡ c.prechart) × (h.clocks ≡ c.clocks)) (sets : above ≡ above_of c)
    (P : Parts c c.count h.plain h.hot keys resets terms) where
  above_set : (a b : ℕ) → contains (get_or above b 0) a ≡ (chart_of c).above a b
  above_set a b = ap (λ (l : List ℕ). contains (get_or l b 0) a) sets ∙ above_shows c a b

  pub shows : plan_chart h keys above resets terms ≡ chart_of c
  shows =
      λ x. record {
        regions = heading.0 x;
        prechart = heading.1 x;
        key = λ i. keys_show c keys P.key_at i x;
        above = λ a b. above_set a b x;
        clocks = heading.2 x;
        resets = λ i k. resets_show c resets P.resets_at i k x;
        terms = λ i. terms_show c w terms P.word_at_lem i x;
        failing = λ i v. failing_shows c w terms P.word_at_lem i v x;
        hot = λ i. hot_shows c h.hot P.hot_set i x;
      }

  pub compiled : Compiled h keys above resets terms
  compiled = record {
    regions = rw heading.0 w.room;
    clocks = rw heading.2 w.clocks;
    plain = λ i l. plain_shows c h.plain P.plain_set i (rw heading.0 at l)
        ∙ ap (λ (k : ℕ). eqb k 0) (sym (keys_show c keys P.key_at i));
    within = record {
      few = rw heading.0 w.room;
      own = λ i m. rw heading.0 (gathered_below P.plain_set i m);
    };
    words = rw heading.2 (words_are c w terms P.word_at_lem);
    accepted = subst Accepted (sym shows) accepted;
  }
