-- Places to rest (C20, R4, J13), each line worked out by hand from the rules.
use Rattle.std.specs.Prelude.{◌≡◌, Bool, true, false, List, [], ◌∷◌, ◌++◌, ℕ, replicate}
use Prim.Native.String.{String}
use Rattle.bitset.specs.Set.{contains}
use Rattle.model.specs.declared.Chart.{Chart}
use Rattle.model.specs.declared.Region.{Region}
use Rattle.model.specs.declared.Event.TheVariants.{Message}
use Rattle.model.specs.Chart.{zero_region, zero_term}
use Rattle.resting.specs.Rest.{rests}
use Rattle.chart_reader.specs.Read.{read_chart}
use Rattle.chart_value.specs.Given.{Given}
use Rattle.chart_value.specs.WellFormed.{well_formed}
use Rattle.chart_value.specs.Marks.{Alike}
use Rattle.examples.specs.Examples.{Example, judged, refused_chart}
use Rattle.witnesses.specs.Hex.{hex}

-- Where a 33 is refused. Heading, a prechart's region from 0 to 1 with label 1, then the 50 at 8.
abbrev pub misplaced : List Example
misplaced =
    -- 3: no heading; no region; none in this half, though the prechart has one
    refused_chart (hex "33") 3 0
    ∷ refused_chart (hex "10 02 00 33") 3 3
    ∷ refused_chart (hex "10 02 00 20 00 01 00 01 50 33") 3 9
    -- 3: a second one in the region, next to the first and apart from it
    ∷ refused_chart (hex "10 02 00 50 20 00 01 00 01 33 33") 3 10
    ∷ refused_chart (hex "10 02 01 50 20 00 01 00 01 33 40 01 33") 3 12
    -- 13: a region of the prechart, whatever else it has
    ∷ refused_chart (hex "10 02 00 20 00 01 00 01 33") 13 8
    ∷ refused_chart (hex "10 02 01 20 00 01 00 01 40 01 33") 13 10
    -- of 32 and 33 in the prechart the first is refused
    ∷ refused_chart (hex "10 02 00 20 00 01 00 01 33 32") 13 8
    ∷ refused_chart (hex "10 02 00 20 00 01 00 01 32 33") 8 8
    -- 6: a plain region that is marked, and has no term and no reset
    ∷ refused_chart (hex "10 02 01 20 00 01 00 01 50 21 00 01 33 7F") 6 9
    -- 7 is for 32 alone: hot and marked without a term is 7, marked without a term is taken
    ∷ refused_chart (hex "10 02 01 50 20 00 01 00 01 33 32 7F") 7 4
    ∷ judged (hex "10 02 00 50 20 00 01 00 01 33 7F") [] 0 0 0 0 0 0 0 0
    -- 34 and 23 are still no commands
    ∷ refused_chart (hex "10 02 00 50 20 00 01 00 01 34") 2 9
    ∷ refused_chart (hex "10 02 00 50 20 00 01 00 01 23") 2 9
    ∷ []

-- X25: undo, 0 to 1; then headings, 1 to 0, marked; locked and released, 2 to 3, the second marked; the user goes on,
-- 0 to 1; references, 2 to 0. Main regions on line 0: 2, 5, 6; on 1: 2, 5; on 2: 3, 4, 6; on 3: 3, 4.
abbrev pub paused : List ℕ
paused =
    hex "10 04 00 20 00 01 00 01 50 20 01 00 00 02 33 20 02 03 00 03 20 02 03 00 04 33 20 00 01 00 05 20 02 00 00 06 7F"

abbrev pub undo : List ℕ
undo = hex "01 00 01 00 01 00 00 00 64"

abbrev pub headings : List ℕ
headings = hex "01 01 00 00 02 00 00 00 64"

abbrev pub locked : List ℕ
locked = hex "01 02 03 00 03 00 00 00 64"

abbrev pub released : List ℕ
released = hex "01 02 03 00 04 00 00 00 64"

abbrev pub onward : List ℕ
onward = hex "01 00 01 00 05 00 00 00 64"

abbrev pub references : List ℕ
references = hex "01 02 00 00 06 00 00 00 64"

-- one prechart message a, then a main chart over two lines: b and c, each from 0 to 1, and more
abbrev pub two_lines : String → List ℕ
two_lines main = hex "10 03 01 20 00 01 00 01 50" ++ hex main

abbrev pub abc : List ℕ
abc = hex "01 00 01 00 01 00 00 00 01 01 00 01 00 02 00 00 00 02 01 00 01 00 03 00 00 00 03"

abbrev pub ab : List ℕ
ab = hex "01 00 01 00 01 00 00 00 01 01 00 01 00 02 00 00 00 02"

abbrev pub a : List ℕ
a = hex "01 00 01 00 01 00 00 00 01"

-- The standing, with and without a place to rest.
abbrev pub stands : List Example
stands =
    -- nothing; undo: no main region is fired, all lines are hot
    judged paused [] 0 0 0 0 0 0 0 0
    ∷ judged paused undo 2 0 0 1 0 0 0 0
    -- lines 0 and 1 are cold; 2 and 3 count, and none is fired on them
    ∷ judged paused (undo ++ headings) 2 0 0 2 0 0 0 0
    -- line 2 is cold, 3 does not count; 0 and 1 are hot
    ∷ judged paused (undo ++ (locked ++ released)) 2 0 0 3 0 0 0 0
    -- the last fired on lines 2 and 3 is not marked
    ∷ judged paused (undo ++ (headings ++ locked)) 2 0 0 3 0 0 0 0
    -- lines 0, 1 and 2 are cold, 3 does not count; time passes, and a foreign message comes
    ∷ judged paused (undo ++ (headings ++ (locked ++ released))) 4 0 0 4 0 0 0 0
    ∷ judged paused (undo ++ (headings ++ (locked ++ (released ++ hex "02 00 00 EA 60")))) 4 0 0 5 0 0 0 0
    ∷ judged paused (undo ++ (headings ++ (locked ++ (released ++ hex "01 09 09 00 01 00 00 00 65")))) 4 0 0 5 0 0 0 0
    -- line 0: region 5 is the last fired, and not marked, though 2 is
    ∷ judged paused (undo ++ (headings ++ (locked ++ (released ++ onward)))) 2 0 0 5 0 0 0 0
    -- kept; and broken after it rested
    ∷ judged paused (undo ++ (headings ++ (locked ++ (released ++ (onward ++ references))))) 0 1 0 6 0 0 0 0
    ∷ judged paused (undo ++ (headings ++ (locked ++ (released ++ undo)))) 3 0 0 5 5 1 0 0
    -- dropped in the prechart: the mark of a main region says nothing there
    ∷ judged paused headings 0 0 1 1 0 0 0 0
    -- two main regions on both lines: the mark of the first alone, of the second alone, of none
    ∷ judged (two_lines "20 00 01 00 02 33 20 00 01 00 03 7F") ab 4 0 0 2 0 0 0 0
    ∷ judged (two_lines "20 00 01 00 02 20 00 01 00 03 33 7F") ab 2 0 0 2 0 0 0 0
    ∷ judged (two_lines "20 00 01 00 02 20 00 01 00 03 7F") ab 2 0 0 2 0 0 0 0
    -- the higher of two fired regions decides, marked or not
    ∷ judged (two_lines "20 00 01 00 02 33 20 00 01 00 03 20 00 01 00 04 7F") abc 2 0 0 3 0 0 0 0
    ∷ judged (two_lines "20 00 01 00 02 20 00 01 00 03 33 20 00 01 00 04 7F") abc 4 0 0 3 0 0 0 0
    -- a plain region that fires with b is the last on the lines 0 and 1 that it names: marked, and not
    ∷ judged (two_lines "20 00 01 00 02 21 00 03 40 01 33 20 00 01 00 03 7F") ab 4 0 0 2 0 0 0 0
    ∷ judged (two_lines "20 00 01 00 02 33 21 00 03 40 01 20 00 01 00 03 7F") ab 2 0 0 2 0 0 0 0
    -- it names line 0 alone: line 1 is as cold as b, line 0 as hot as it
    ∷ judged (two_lines "20 00 01 00 02 33 21 00 01 40 01 20 00 01 00 03 7F") ab 2 0 0 2 0 0 0 0
    -- a marked plain region that fires with the prechart's last: it may rest at once
    ∷ judged (two_lines "21 00 03 40 01 33 20 00 01 00 02 7F") a 4 0 0 1 0 0 0 0
    -- a plain region not yet fired makes its line count: d, 0 to 1, is left, and the plain one on lines 1 and 2 after it
    ∷ judged (two_lines "20 00 01 00 02 33 20 00 01 00 04 21 00 06 40 01 7F") ab 2 0 0 2 0 0 0 0
    -- a condition's temperature is another thing: hot and marked rests, hot alone does not
    ∷ judged (two_lines "20 00 01 00 02 30 00 01 00 00 00 28 32 33 20 00 01 00 03 7F") ab 4 0 0 2 0 0 0 0
    ∷ judged (two_lines "20 00 01 00 02 30 00 01 00 00 00 28 32 20 00 01 00 03 7F") ab 2 0 0 2 0 0 0 0
    -- no prechart: with nothing fired 0, after the marked region 4
    ∷ judged (hex "10 02 00 50 20 00 01 00 01 33 20 00 01 00 02 7F") [] 0 0 0 0 0 0 0 0
    ∷ judged (hex "10 02 00 50 20 00 01 00 01 33 20 00 01 00 02 7F") a 4 0 0 1 0 0 0 0
    ∷ []

-- A chart value of three regions with one message, the first of the prechart, and marks at the first, the second and
-- the place after the third. M6, M7: a prechart's region is not marked, and no place that is not in use.
abbrev pub marked : Bool → Region
marked rest = record {
  event = Message (record { source = 0; destination = 1; label = 1 });
  terms = replicate 4 zero_term;
  count = 0;
  hot = false;
  resets = 0;
  rest = rest;
}

abbrev pub spare : Bool → Region
spare rest = record {
  event = zero_region.event;
  terms = zero_region.terms;
  count = 0;
  hot = false;
  resets = 0;
  rest = rest;
}

abbrev pub value_of : Bool → Bool → Bool → Chart
value_of pre main rest = record {
  lines = 2;
  clocks = 0;
  prechart = 1;
  count = 3;
  regions = marked pre ∷ marked main ∷ marked false ∷ spare rest ∷ replicate 28 zero_region;
}

pub record Marks : Type 0 where
  pub none : well_formed (value_of false false false) ≡ true
  pub main : well_formed (value_of false true false) ≡ true
  pub prechart : well_formed (value_of true true false) ≡ false
  pub spare_place : well_formed (value_of false true true) ≡ false

-- J13, of sets of fired regions that no monitor has: a prechart's region is never the last fired, and the highest
-- number counts, not the latest. Prechart: region 1. Main chart on the same lines: 2 marked, 3, 4 marked.
abbrev pub four_regions : Chart
four_regions =
    (read_chart (hex "10 02 00 20 00 01 00 01 50 20 00 01 00 02 33 20 00 01 00 03 20 00 01 00 04 33 7F")).chart

pub record Sets : Type 0 where
  -- nothing; region 1 alone; 2; 3; 2 and 3; 4; all but 3; all
  pub empty : rests four_regions (contains 0) ≡ false
  pub first : rests four_regions (contains 1) ≡ false
  pub second : rests four_regions (contains 2) ≡ true
  pub third : rests four_regions (contains 4) ≡ false
  pub second_third : rests four_regions (contains 6) ≡ false
  pub fourth : rests four_regions (contains 8) ≡ true
  pub all_but_third : rests four_regions (contains 11) ≡ true
  pub all : rests four_regions (contains 15) ≡ true

-- J14: the value with the mark at its second region, and without it: each is read from bytes, and they differ in that
-- mark alone. With the first two regions fired the one rests where the other does not.
pub record Apart : Type 0 where
  pub with_mark : Given (value_of false true false)
  pub without : Given (value_of false false false)
  pub alike : Alike (value_of false true false) (value_of false false false)
  pub rests_by_it : rests (value_of false true false) (contains 3) ≡ true
  pub owes_without : rests (value_of false false false) (contains 3) ≡ false
