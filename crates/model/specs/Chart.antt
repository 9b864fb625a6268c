-- A chart as a value: its limits, its zeros, the region and the term at a place, the lines that a region touches.
use Rattle.std.specs.Prelude.{ℕ, Bool, true, false, cond, ◌&&◌, ◌||◌, [], eqb, ltb, get_or, replicate}
use Rattle.bitset.specs.Set.{contains, single, union}
use Rattle.model.specs.declared.Event.{Event}
use Rattle.model.specs.declared.Event.TheVariants.{Plain, Message}
use Rattle.model.specs.declared.Relation.TheVariants.{Less}
use Rattle.model.specs.declared.Left.TheVariants.{Clock}
use Rattle.model.specs.declared.Term.{Term}
use Rattle.model.specs.declared.Region.{Region}
use Rattle.model.specs.declared.Chart.{Chart}

-- C1 to C3, C9: how many lines, clocks, regions and terms there can be
abbrev pub least_lines : ℕ
least_lines = 2

abbrev pub most_lines : ℕ
most_lines = 16

abbrev pub most_clocks : ℕ
most_clocks = 8

abbrev pub most_regions : ℕ
most_regions = 32

abbrev pub most_terms : ℕ
most_terms = 4

-- M3, M7: what a place that is not in use holds
abbrev pub zero_term : Term
zero_term = record { left = Clock 0; relation = Less; n = 0 }

abbrev pub zero_region : Region
zero_region = record {
  event = Plain 0;
  terms = replicate most_terms zero_term;
  count = 0;
  hot = false;
  resets = 0;
  rest = false;
}

abbrev pub zero_chart : Chart
zero_chart = record { lines = 0; clocks = 0; prechart = 0; count = 0; regions = replicate most_regions zero_region }

-- what the logic reads past the end of a list of regions: each enum at its first variant, each array empty
abbrev pub absent_region : Region
absent_region = record {
  event = Message (record { source = 0; destination = 0; label = 0 });
  terms = [];
  count = 0;
  hot = false;
  resets = 0;
  rest = false;
}

abbrev pub region_at : Chart → ℕ → Region
region_at c i = get_or c.regions i absent_region

abbrev pub term_at : Region → ℕ → Term
term_at g j = get_or g.terms j zero_term

abbrev pub is_plain : Event → Bool
is_plain (Plain l) = true
is_plain (Message m) = false

-- C14 forbids it: no message, no term, no reset
abbrev pub is_bare : Region → Bool
is_bare g = is_plain g.event && (eqb g.count 0 && eqb g.resets 0)

-- C7: the ends of the message, or exactly the lines that are named
abbrev pub touches : Event → ℕ → Bool
touches (Message m) k = eqb k m.source || eqb k m.destination
touches (Plain l) k = contains l k

-- the set of one line; no chart has a line from 16 on
abbrev pub line_set : ℕ → ℕ
line_set i = cond (ltb i most_lines) (single i) 0

-- C7 as a set: the lines that a region touches, of those below 16
abbrev pub touched : Event → ℕ
touched (Message m) = union (line_set m.source) (line_set m.destination)
touched (Plain l) = l

-- the lines that region i touches
abbrev pub touched_at : Chart → ℕ → ℕ
touched_at c i = touched (region_at c i).event
