-- What the numbers of a compiled chart stand for: an abstract chart.
use Rattle.std.specs.Prelude.{◌≡◌, ◌⊎◌, Bool, not, cond, ◌||◌, List, ℕ, ◌+◌, ◌*◌, ◌/◌, ◌%◌, ◌≤◌, ◌<◌, eqb, ltb, get_or}
use Rattle.std.proofs.Math.Bool.{So}
use Rattle.bitset.specs.Set.{contains}
use Rattle.model.specs.Chart.{most_clocks, most_regions, most_terms}
use Rattle.base.specs.Lists.{count_below, fails_at}
use Rattle.condition.specs.Rows.{compared}
use Rattle.rounds.specs.Chart.{Chart, Accepted}
use Rattle.layout.specs.declared.Head.{Head}

-- A term as one number, its word: the first clock, then the second clock, the row of its relation and its number with
-- bias added, each at its place. A term of one clock has, as its second clock, a number from 8 on.
abbrev pub second_place : ℕ
second_place = 0x10

abbrev pub row_place : ℕ
row_place = 0x100

abbrev pub number_place : ℕ
number_place = 0x1000

-- how many numbers a word has room for, for each of its clocks
abbrev pub clock_codes : ℕ
clock_codes = 16

abbrev pub first_of : ℕ → ℕ
first_of w = w % clock_codes

abbrev pub second_of : ℕ → ℕ
second_of w = w / second_place % clock_codes

-- the second clock's value; a term of one clock has no second clock: 0
abbrev pub second_value : ℕ → (ℕ → ℕ) → ℕ
second_value w v = cond (ltb (second_of w) most_clocks) (v (second_of w)) 0

-- the term's test, given the values of its clocks
abbrev pub tested : ℕ → ℕ → ℕ → Bool
tested w a b = compared (w / row_place) a b (w / number_place)

-- the word's term holds, given each clock's value; word 0 is no term
unfoldable pub holds_by : ℕ → (ℕ → ℕ) → Bool
holds_by w v = eqb w 0 || tested w (v (first_of w)) (second_value w v)

-- the test of region i's condition (C19), by its four words
abbrev pub failing_by : List ℕ → ℕ → (ℕ → ℕ) → ℕ
failing_by terms i v = fails_at most_terms (λ j. holds_by (get_or terms (i * most_terms + j) 0) v)

-- how many terms region i has: its words that are not 0
abbrev pub terms_by : List ℕ → ℕ → ℕ
terms_by terms i = count_below most_terms (λ j. not (eqb (get_or terms (i * most_terms + j) 0) 0))

-- the chart that the numbers stand for
abbrev pub plan_chart : Head → List ℕ → List ℕ → List ℕ → List ℕ → Chart
plan_chart h keys above resets terms = record {
  regions = h.count;
  prechart = h.prechart;
  clocks = h.clocks;
  key = λ i. get_or keys i 0;
  above = λ a i. contains (get_or above i 0) a;
  resets = λ i c. contains (get_or resets i 0) c;
  terms = terms_by terms;
  failing = failing_by terms;
  hot = contains h.hot;
}

-- the word's clocks are the chart's; it may have no second clock
pub record InChart (clocks w : ℕ) : Type 0 where
  pub first : first_of w < clocks
  pub second : (second_of w < clocks) ⊎ (most_clocks ≤ second_of w)

-- what a compiled chart's words are
pub record Words (clocks : ℕ) (terms : List ℕ) : Type 0 where
  pub named : (k : ℕ) → ¬ (get_or terms k 0 ≡ 0) → InChart clocks (get_or terms k 0)
  -- after a region's last term come zeros
  pub ends : (i j k : ℕ) → j ≤ k → k < most_terms → get_or terms (i * most_terms + j) 0 ≡ 0
      → get_or terms (i * most_terms + k) 0 ≡ 0

-- every member of the set is a region, of at most 32
pub record Within (count set : ℕ) : Type 0 where
  pub few : count ≤ most_regions
  pub own : (i : ℕ) → So (contains set i) → i < count

-- every region that has the message is in the set, and nothing but regions is
pub record Covers (count : ℕ) (keys : List ℕ) (code among : ℕ) : Type 0 where
  pub within : Within count among
  pub has : (i : ℕ) → i < count → get_or keys i 0 ≡ code → So (contains among i)

-- what compiling an accepted chart gives
pub record Compiled (h : Head) (keys above resets terms : List ℕ) : Type 0 where
  pub regions : h.count ≤ most_regions
  pub clocks : h.clocks ≤ most_clocks
  -- the set of plain regions
  pub plain : (i : ℕ) → i < h.count → contains h.plain i ≡ eqb (get_or keys i 0) 0
  pub within : Within h.count h.plain
  pub words : Words h.clocks terms
  pub accepted : Accepted (plan_chart h keys above resets terms)
