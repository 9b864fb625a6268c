-- Charts saved (D1 to D6), each line worked out by hand from the rules.
use Rattle.std.specs.Prelude.{◌≡◌, true, List, [], ◌∷◌, ◌++◌, ℕ, length, replicate}
use Rattle.model.specs.declared.Chart.{Chart}
use Rattle.model.specs.declared.Region.{Region}
use Rattle.model.specs.declared.Event.TheVariants.{Message}
use Rattle.model.specs.declared.Term.{Term}
use Rattle.model.specs.declared.Left.TheVariants.{Difference}
use Rattle.model.specs.declared.Relation.TheVariants.{Less}
use Rattle.chart_reader.specs.Read.{read_chart}
use Rattle.chart_value.specs.WellFormed.{well_formed}
use Rattle.chart_value.specs.Writer.{chart_bytes}
use Rattle.chart_writer.specs.Save.{most_bytes, saved_answer, saved_buffer, saved_number, saved_size}
use Rattle.examples.specs.Examples.{chart_u}
use Rattle.witnesses.specs.Hex.{hex}
use Rattle.witnesses.specs.Rested.{paused}

-- The chart that is read from some bytes, and a buffer; the number, the length written or needed, and the buffer then.
pub record Saving : Type 0 where
  pub chart : List ℕ
  pub before : List ℕ
  pub number : ℕ
  pub size : ℕ
  pub after : List ℕ

abbrev pub Saves : Saving → Type 0
Saves e =
    let c = (read_chart e.chart).chart in
    (saved_number (saved_answer c e.before) ≡ e.number)
    × (saved_size (saved_answer c e.before) ≡ e.size)
    × (saved_buffer c e.before ≡ e.after)

-- a buffer of n bytes
abbrev pub room : ℕ → List ℕ
room n = replicate n 0xA5

abbrev pub saved : List ℕ → ℕ → ℕ → List ℕ → Saving
saved chart n size after = record { chart = chart; before = room n; number = 0; size = size; after = after }

-- a chart in the writer's form, with just the room for it
abbrev pub alike : List ℕ → ℕ → Saving
alike chart n = saved chart n n chart

-- refused, and the buffer as it came
abbrev pub refused : List ℕ → ℕ → ℕ → ℕ → Saving
refused chart n number size = record {
  chart = chart;
  before = room n;
  number = number;
  size = size;
  after = room n;
}

-- one message and no prechart: the 50 directly after the heading
abbrev pub one_message : List ℕ
one_message = hex "10 02 00 50 20 00 01 00 01 7F"

-- a main region with one term that is hot and resets clock 0; of its commands the term comes first, then 32, then 40
abbrev pub hot_reset : List ℕ
hot_reset = hex "10 02 01 20 00 01 00 01 50 20 00 01 00 02 30 00 01 00 00 00 28 32 40 01 7F"

-- a difference, a clock, and two resets
abbrev pub two_terms : List ℕ
two_terms = hex "10 02 02 50 20 00 01 00 01 31 01 00 03 FF FF FF FB 30 00 04 00 00 00 05 40 03 7F"

-- the same, marked as a place to rest: the 33 comes last
abbrev pub hot_reset_rest : List ℕ
hot_reset_rest = hex "10 02 01 20 00 01 00 01 50 20 00 01 00 02 30 00 01 00 00 00 28 32 40 01 33 7F"

abbrev pub saves : List Saving
saves =
    -- chart U, with two bytes to spare, and with one too few
    saved chart_u 40 38 (chart_u ++ hex "A5 A5")
    ∷ refused chart_u 37 12 38
    -- no prechart: just enough room, one byte to spare, one too few, none
    ∷ alike one_message 10
    ∷ saved one_message 11 10 (hex "10 02 00 50 20 00 01 00 01 7F A5")
    ∷ refused one_message 9 12 10
    ∷ refused one_message 0 12 10
    -- the commands of a region in other orders
    ∷ alike hot_reset 25
    ∷ saved (hex "10 02 01 20 00 01 00 01 50 20 00 01 00 02 40 01 32 30 00 01 00 00 00 28 7F") 25 25 hot_reset
    ∷ saved (hex "10 02 01 20 00 01 00 01 50 20 00 01 00 02 32 30 00 01 00 00 00 28 40 01 7F") 25 25 hot_reset
    ∷ refused (hex "10 02 01 20 00 01 00 01 50 20 00 01 00 02 40 01 32 30 00 01 00 00 00 28 7F") 24 12 25
    -- the mark last, wherever it stood
    ∷ alike hot_reset_rest 26
    ∷ saved (hex "10 02 01 20 00 01 00 01 50 20 00 01 00 02 33 40 01 32 30 00 01 00 00 00 28 7F") 26 26 hot_reset_rest
    ∷ saved (hex "10 02 01 20 00 01 00 01 50 20 00 01 00 02 30 00 01 00 00 00 28 33 32 40 01 7F") 26 26 hot_reset_rest
    ∷ refused hot_reset_rest 25 12 26
    ∷ alike (hex "10 02 00 50 20 00 01 00 01 33 7F") 11
    ∷ alike paused 37
    -- the terms stay in their order
    ∷ alike two_terms 27
    ∷ saved (hex "10 02 02 50 20 00 01 00 01 31 01 00 03 FF FF FF FB 40 03 30 00 04 00 00 00 05 7F") 27 27 two_terms
    ∷ alike (hex "10 02 02 50 20 00 01 00 01 30 00 04 00 00 00 05 31 01 00 03 FF FF FF FB 40 03 7F") 27
    -- plain regions in both halves
    ∷ alike (hex "10 02 01 20 00 01 00 01 21 00 03 40 01 50 21 00 02 40 01 7F") 20
    -- 16 lines, 8 clocks; the largest label, the least number, all clocks reset
    ∷ alike (hex "10 10 08 50 20 0F 00 FF FF 30 07 00 80 00 00 00 40 FF 7F") 19
    -- no chart, and that before the room
    ∷ refused [] 0 20 0
    ∷ refused (hex "10 02 00 50 20 00 01 00 01") 40 20 0
    ∷ []

-- D6: no chart is longer than this one: each of its 32 regions is hot, resets clocks, is marked, and has four
-- differences
abbrev pub difference : Term
difference = record { left = Difference 0 1; relation = Less; n = 0 }

abbrev pub long_region : Region
long_region = record {
  event = Message (record { source = 0; destination = 1; label = 1 });
  terms = replicate 4 difference;
  count = 4;
  hot = true;
  resets = 1;
  rest = true;
}

abbrev pub longest : Chart
longest = record { lines = 2; clocks = 2; prechart = 0; count = 32; regions = replicate 32 long_region }

abbrev pub LongestSaved : Type 0
LongestSaved = (well_formed longest ≡ true) × (length (chart_bytes longest) ≡ most_bytes)
