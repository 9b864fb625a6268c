-- The examples X3 to X11, X13 and X14, as one list: a chart's bytes, a log's bytes, and what is said of them.
use Rattle.std.specs.Prelude.{◌≡◌, List, [], ◌∷◌, ℕ, Ok}
use Rattle.model.specs.Answers.{verdict_from}
use Rattle.listing.specs.declared.Part.TheVariants.{Chart, Log}
use Rattle.listing.specs.Listing.{Report, refused}
use Rattle.respond.specs.Respond.{parts_report}

pub record Example : Type 0 where
  pub chart : List ℕ
  pub log : List ℕ
  pub report : Report

abbrev pub chart_u : List ℕ
chart_u =
    0x10 ∷ 0x04 ∷ 0x01
    ∷ 0x20 ∷ 0x00 ∷ 0x01 ∷ 0x00 ∷ 0x01 ∷ 0x40 ∷ 0x01
    ∷ 0x50
    ∷ 0x20 ∷ 0x01 ∷ 0x00 ∷ 0x00 ∷ 0x02 ∷ 0x30 ∷ 0x00 ∷ 0x01 ∷ 0x00 ∷ 0x00 ∷ 0x00 ∷ 0x28 ∷ 0x32
    ∷ 0x20 ∷ 0x02 ∷ 0x03 ∷ 0x00 ∷ 0x03 ∷ 0x30 ∷ 0x00 ∷ 0x01 ∷ 0x00 ∷ 0x00 ∷ 0x00 ∷ 0x28 ∷ 0x32
    ∷ 0x7f ∷ []

-- a message's bytes, with a time below 256, before more of the log
abbrev pub message : ℕ → ℕ → ℕ → ℕ → List ℕ → List ℕ
message source destination label time rest = 0x01 ∷ source ∷ destination ∷ 0 ∷ label ∷ 0 ∷ 0 ∷ 0 ∷ time ∷ rest

-- the messages of chart U (X1)
abbrev pub undo : ℕ → List ℕ → List ℕ
undo time rest = message 0 1 1 time rest

abbrev pub headings : ℕ → List ℕ → List ℕ
headings time rest = message 1 0 2 time rest

abbrev pub references : ℕ → List ℕ → List ℕ
references time rest = message 2 3 3 time rest

-- a chart and a log, with the numbers that are printed
abbrev pub judged : List ℕ → List ℕ → ℕ → ℕ → ℕ → ℕ → ℕ → ℕ → ℕ → ℕ → Example
judged chart log standing kept dropped records break reason region term =
    record {
      chart = chart;
      log = log;
      report = Ok (verdict_from standing kept dropped records break reason region term);
    }

-- a chart that is refused, with an empty log
abbrev pub refused_chart : List ℕ → ℕ → ℕ → Example
refused_chart chart number offset = record { chart = chart; log = []; report = refused Chart number offset }

abbrev pub examples : List Example
examples =
    -- X3 and X4
    judged chart_u (undo 100 (references 120 (headings 140 []))) 0 1 0 3 0 0 0 0
    ∷ judged chart_u (undo 100 (references 120 (headings 141 []))) 3 0 0 3 3 2 2 1
    -- X5 and X6
    ∷ judged chart_u (undo 100 (headings 120 [])) 2 0 0 2 0 0 0 0
    ∷ judged chart_u (undo 100 (headings 120 (headings 130 []))) 3 0 0 3 3 1 0 0
    -- X7
    ∷ judged chart_u (undo 100 (undo 110 [])) 3 0 0 2 2 1 0 0
    -- X8
    ∷ judged chart_u (headings 5 []) 0 0 1 1 0 0 0 0
    -- X9
    ∷ judged chart_u (undo 100 (message 3 2 3 110 [])) 2 0 0 2 0 0 0 0
    -- X10
    ∷ judged chart_u [] 0 0 0 0 0 0 0 0
    -- X11
    ∷ record { chart = chart_u; log = undo 100 (headings 99 []); report = refused Log 22 9 }
    -- X13 (two charts) and X14
    ∷ refused_chart [] 1 0
    ∷ refused_chart (0x10 ∷ 0x01 ∷ 0x00 ∷ []) 4 0
    ∷ refused_chart (0x10 ∷ 0x02 ∷ 0x01 ∷ 0x21 ∷ 0x00 ∷ 0x01 ∷ 0x40 ∷ 0x01 ∷ 0x50 ∷ 0x7f ∷ []) 9 3
    ∷ []

-- what is said of an example is what the definitions give that reading and judging cite
abbrev pub Says : Example → Type 0
Says e = parts_report e.chart e.log ≡ e.report

abbrev pub AllSaid : List Example → Type 0
AllSaid [] = Unit {0}
AllSaid (e ∷ es) = Says e × AllSaid es
