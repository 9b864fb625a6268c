-- The order as sets of region numbers: for each region the set of those above it.
use Rattle.std.specs.Prelude.{◌≡◌, ◌↔◌, ℕ, zero, suc, min, ◌<◌, Bool, true, cond, not, ◌&&◌, ◌||◌, List, get_or, set, replicate, eqb, leb, ltb}
use Rattle.std.specs.Int.Bits.{bit_and}
use Rattle.bitset.specs.Set.{contains, inserted, union}
use Rattle.model.specs.declared.Chart.{Chart}
use Rattle.model.specs.Chart.{most_regions, touched_at}
use Rattle.order.specs.Above.{AboveIn}

-- O1, O2 as a test: region a is over b
unfoldable pub is_over : (ℕ → ℕ) → ℕ → ℕ → ℕ → Bool
is_over lines prechart a b =
    ltb a prechart && leb prechart b
    || ltb a b && ((ltb b prechart || leb prechart a) && not (eqb (bit_and (lines a) (lines b)) 0))

-- the set s; with region a and those above it, if a is over b
abbrev pub with_over : (ℕ → ℕ) → ℕ → List ℕ → ℕ → ℕ → ℕ → ℕ
with_over lines prechart above s a b = cond (is_over lines prechart a b) (union (inserted s a) (get_or above a 0)) s

-- the regions over b among the first so many, with those above them
unfoldable pub gathered : (ℕ → ℕ) → ℕ → List ℕ → ℕ → ℕ → ℕ
gathered lines prechart above zero b = 0
gathered lines prechart above (suc a) b = with_over lines prechart above (gathered lines prechart above a b) a b

-- the sets of the first b regions; zeros for the others
unfoldable pub above_sets : (ℕ → ℕ) → ℕ → ℕ → List ℕ
above_sets lines prechart zero = replicate most_regions 0
above_sets lines prechart (suc b) =
    set (above_sets lines prechart b) b (gathered lines prechart (above_sets lines prechart b) b b)

-- a chart's sets
abbrev pub above_of : Chart → List ℕ
above_of c = above_sets (touched_at c) c.prechart (min c.count most_regions)

-- The sets decide the order O3: a is a member of b's set exactly if a is above b.
pub record Decides (c : Chart) (sets : List ℕ) : Type 0 where
  pub members : (a b : ℕ) → b < c.count → b < most_regions → (contains (get_or sets b 0) a ≡ true) ↔ AboveIn c a b
