-- V15: a chart value as 1,348 bytes, four numbers and then the 32 places for regions.
use Rattle.std.specs.Prelude.{ℕ, ◌+◌, ◌*◌, Bool, cond, ◌&&◌, ◌||◌, List, [], ◌∷◌, eqb, leb, length, get_or}
use Rattle.wire.specs.Bytes.{word16, word32}
use Rattle.base.specs.Lists.{all_below}
use Rattle.base.specs.Table.{table}
use Rattle.model.specs.declared.Event.{Event}
use Rattle.model.specs.declared.Event.TheVariants.{Plain, Message}
use Rattle.model.specs.declared.Left.{Left}
use Rattle.model.specs.declared.Left.TheVariants.{Clock, Difference}
use Rattle.model.specs.declared.Term.{Term}
use Rattle.model.specs.declared.Region.{Region}
use Rattle.model.specs.declared.Chart.{Chart}
use Rattle.model.specs.Chart.{most_regions, zero_chart}
use Rattle.chart_step.specs.Reading.{relation_of}

abbrev pub chart_size : ℕ
chart_size = 1348

-- where region i starts
abbrev pub region_offset : ℕ → ℕ
region_offset i = 4 + i * 42

-- V15: a term of one clock or of two
abbrev pub left_of : ℕ → ℕ → ℕ → Left
left_of kind first second = cond (eqb kind 0) (Clock first) (Difference first second)

abbrev pub term_in : List ℕ → ℕ → Term
term_in s at =
    record {
      left = left_of (get_or s at 0) (get_or s (at + 1) 0) (get_or s (at + 2) 0);
      relation = relation_of (get_or s (at + 3) 0);
      n = word32 s (at + 4);
    }

-- each byte of the term has a meaning
abbrev pub term_fits : List ℕ → ℕ → Bool
term_fits s at =
    leb (get_or s at 0) 1 && (leb (get_or s (at + 3) 0) 4 && (eqb (get_or s at 0) 1 || eqb (get_or s (at + 2) 0) 0))

-- V15: a plain region's lines, or a region's message
abbrev pub event_in : List ℕ → ℕ → Event
event_in s at =
    cond (eqb (get_or s at 0) 0) (Plain (word16 s (at + 1)))
    (Message (record { source = get_or s (at + 1) 0; destination = get_or s (at + 2) 0; label = word16 s (at + 3) }))

-- V15: a region's 42 bytes
abbrev pub region_in : List ℕ → ℕ → Region
region_in s at =
    record {
      event = event_in s at;
      terms = term_in s (at + 10) ∷ term_in s (at + 18) ∷ term_in s (at + 26) ∷ term_in s (at + 34) ∷ [];
      count = get_or s (at + 7) 0;
      hot = eqb (get_or s (at + 5) 0) 1;
      resets = get_or s (at + 6) 0;
      rest = eqb (get_or s (at + 8) 0) 1;
    }

abbrev pub head_fits : List ℕ → ℕ → Bool
head_fits s at =
    leb (get_or s at 0) 1
    && (leb (get_or s (at + 5) 0) 1
    && (leb (get_or s (at + 8) 0) 1
    && (eqb (get_or s (at + 9) 0) 0 && (eqb (get_or s at 0) 1 || eqb (word16 s (at + 3)) 0))))

abbrev pub region_fits : List ℕ → ℕ → Bool
region_fits s at =
    head_fits s at && (term_fits s (at + 10) && (term_fits s (at + 18) && (term_fits s (at + 26) && term_fits s (at + 34))))

-- the 32 regions
unfoldable pub regions_in : List ℕ → List Region
regions_in s = table most_regions (λ i. region_in s (region_offset i))

-- the bytes are an image: of this length, and each byte has a meaning
unfoldable pub is_image : List ℕ → Bool
is_image s = eqb (length s) chart_size && all_below most_regions (λ i. region_fits s (region_offset i))

-- the chart value in an image; other bytes give a chart of zeros, which is no chart
unfoldable pub chart_value_of : List ℕ → Chart
chart_value_of s =
    cond (is_image s)
    (record {
      lines = get_or s 0 0;
      clocks = get_or s 1 0;
      prechart = get_or s 2 0;
      count = get_or s 3 0;
      regions = regions_in s;
    })
    zero_chart
