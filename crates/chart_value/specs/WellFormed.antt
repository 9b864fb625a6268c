-- M5 to M7: refusal 20 as a test of the value.
use Rattle.std.specs.Prelude.{ℕ, zero, suc, Bool, true, false, cond, not, ◌&&◌, ◌||◌, List, get_or, eqb, leb, ltb}
use Rattle.std.specs.Int.Bits.{bit_and}
use Rattle.base.specs.Lists.{all_below}
use Rattle.bitset.specs.Set.{union, within}
use Rattle.model.specs.declared.Chart.{Chart}
use Rattle.model.specs.declared.Region.{Region}
use Rattle.model.specs.declared.Event.{Event}
use Rattle.model.specs.declared.Event.TheVariants.{Message, Plain}
use Rattle.model.specs.declared.Term.{Term}
use Rattle.model.specs.declared.Left.{Left}
use Rattle.model.specs.declared.Left.TheVariants.{Clock, Difference}
use Rattle.model.specs.declared.Relation.{Relation}
use Rattle.model.specs.declared.Relation.TheVariants.{Less, AtMost, Equal, AtLeast, More}
use Rattle.model.specs.Chart.{least_lines, most_lines, most_clocks, most_regions, most_terms, absent_region, region_at, term_at}
use Rattle.model.specs.Chart.{is_bare, touched}

-- M3: zeros
abbrev pub is_zero_left : Left → Bool
is_zero_left (Clock k) = eqb k 0
is_zero_left (Difference a b) = false

abbrev pub is_less : Relation → Bool
is_less Less = true
is_less AtMost = false
is_less Equal = false
is_less AtLeast = false
is_less More = false

unfoldable pub is_zero_term : Term → Bool
is_zero_term t = is_zero_left t.left && (is_less t.relation && eqb t.n 0)

-- R7: a term's clocks
abbrev pub left_fits : ℕ → Left → Bool
left_fits clocks (Clock k) = ltb k clocks
left_fits clocks (Difference a b) = ltb a clocks && (ltb b clocks && not (eqb a b))

-- M6, M7: a term in use fits, a place not in use holds zeros
unfoldable pub term_placed : ℕ → ℕ → ℕ → Term → Bool
term_placed clocks count j t = cond (ltb j count) (left_fits clocks t.left) (is_zero_term t)

unfoldable pub terms_fit : ℕ → Region → Bool
terms_fit clocks g =
    leb g.count most_terms && all_below most_terms (λ j. term_placed clocks g.count j (term_at g j))

-- R7: a region's lines; R8: a plain one of the opening half shares a line with an earlier one
abbrev pub event_fits : ℕ → Bool → ℕ → Event → Bool
event_fits lines opening before (Message m) =
    ltb m.source lines && (ltb m.destination lines && not (eqb m.source m.destination))
event_fits lines opening before (Plain l) =
    not (eqb l 0) && (within lines l && (not opening || not (eqb (bit_and l before) 0)))

-- M6: a region in use; it has none of the faults 4 to 9 and 13
unfoldable pub region_fits : ℕ → ℕ → Bool → Bool → ℕ → Region → Bool
region_fits lines clocks main opening before g =
    event_fits lines opening before g.event
    && (terms_fit clocks g
    && (within clocks g.resets
    && (not (is_bare g) && ((not g.hot || (main && not (eqb g.count 0))) && (not g.rest || main)))))

abbrev pub is_zero_event : Event → Bool
is_zero_event (Message m) = false
is_zero_event (Plain l) = eqb l 0

unfoldable pub is_zero_region : Region → Bool
is_zero_region g =
    is_zero_event g.event
    && (eqb g.count 0 && (not g.hot && (eqb g.resets 0 && (not g.rest && terms_fit 0 g))))

-- the lines that the first i regions touch
unfoldable pub touched_before : List Region → ℕ → ℕ
touched_before gs zero = 0
touched_before gs (suc i) = union (touched_before gs i) (touched (get_or gs i absent_region).event)

-- M6, M7: region g at place i, with the lines touched before it: in use and fitting, or zeros
unfoldable pub region_placed : ℕ → ℕ → ℕ → ℕ → ℕ → ℕ → Region → Bool
region_placed lines clocks prechart count i before g =
    cond (ltb i count) (region_fits lines clocks (leb prechart i) (not (leb prechart i) || eqb prechart 0) before g)
    (is_zero_region g)

-- the region at a place in use; `main` says whether it is in the main chart
abbrev pub used_region_fits : Chart → Bool → ℕ → Bool
used_region_fits c main i =
    region_fits c.lines c.clocks main (not main || eqb c.prechart 0) (touched_before c.regions i)
    (region_at c i)

abbrev pub placed_at : Chart → ℕ → Bool
placed_at c i =
    region_placed c.lines c.clocks c.prechart c.count i (touched_before c.regions i) (region_at c i)

abbrev pub heading_fits : Chart → Bool
heading_fits c = leb least_lines c.lines && (leb c.lines most_lines && leb c.clocks most_clocks)

-- M5: one main region at least, 32 regions at most
abbrev pub region_counts_fit : Chart → Bool
region_counts_fit c = ltb c.prechart c.count && leb c.count most_regions

unfoldable pub well_formed : Chart → Bool
well_formed c = heading_fits c && (region_counts_fit c && all_below most_regions (placed_at c))
