-- Charts, each worked out by hand from the rules: every refusal with its offset, and every limit.
use Rattle.std.specs.Prelude.{List, [], ◌∷◌, ◌++◌, ℕ, zero, suc}
use Prim.Native.String.{String}
use Rattle.examples.specs.Examples.{Example, judged, refused_chart}
use Rattle.witnesses.specs.Hex.{hex}

-- Refusals 1 to 11; 13 is in Rested. A chart's first command stands at 0; a command's operands follow it.
abbrev pub refusals : List Example
refusals =
    -- 1: nine bytes, and no end among them
    refused_chart (hex "10 02 00 50 20 00 01 00 01") 1 9
    -- 1: the 20 at 4 has three of its four operand bytes
    ∷ refused_chart (hex "10 02 00 50 20 00 01 00") 1 4
    -- 2, before 3: neither a command nor a heading
    ∷ refused_chart (hex "00") 2 0
    -- 1, before 3: a term without its operands, and without a region
    ∷ refused_chart (hex "10 02 01 30") 1 3
    -- 3: no heading first; a second heading, before 4 for its one line; a second 50
    ∷ refused_chart (hex "50") 3 0
    ∷ refused_chart (hex "10 02 00 10 01 00") 3 3
    ∷ refused_chart (hex "10 02 00 50 50") 3 4
    -- 3: a term, whose half has no region yet
    ∷ refused_chart (hex "10 02 01 20 00 01 00 01 50 30 00 01 00 00 00 00") 3 9
    -- 3: a second 32, a second 40 for a region
    ∷ refused_chart (hex "10 02 01 50 20 00 01 00 01 32 32") 3 10
    ∷ refused_chart (hex "10 02 01 50 20 00 01 00 01 40 01 40 01") 3 11
    -- 3, before 6: a second 50, where the region at 9 is bare
    ∷ refused_chart (hex "10 02 01 50 20 00 01 00 01 21 00 01 50") 3 12
    -- 4: one line, seventeen lines, nine clocks
    ∷ refused_chart (hex "10 01 00") 4 0
    ∷ refused_chart (hex "10 11 00") 4 0
    ∷ refused_chart (hex "10 02 09") 4 0
    -- 4: line 2 of two; a message from a line to itself; no line; line 2 of two
    ∷ refused_chart (hex "10 02 00 20 00 02 00 01") 4 3
    ∷ refused_chart (hex "10 02 00 20 01 01 00 01") 4 3
    ∷ refused_chart (hex "10 02 01 20 00 01 00 01 21 00 00") 4 8
    ∷ refused_chart (hex "10 02 01 20 00 01 00 01 21 00 04") 4 8
    -- 4: a sixth relation; a clock minus itself; clock 1 of one; no clock
    ∷ refused_chart (hex "10 02 01 20 00 01 00 01 30 00 05 00 00 00 00") 4 8
    ∷ refused_chart (hex "10 02 01 20 00 01 00 01 31 00 00 00 00 00 00 00") 4 8
    ∷ refused_chart (hex "10 02 01 20 00 01 00 01 40 02") 4 8
    ∷ refused_chart (hex "10 02 01 20 00 01 00 01 40 00") 4 8
    -- 6, before 7: a plain region that is hot, and has no term and no reset
    ∷ refused_chart (hex "10 02 01 20 00 01 00 01 50 21 00 01 32 7F") 6 9
    -- 6, before 4: the region at 9 is bare, and the 20 after it is of one line
    ∷ refused_chart (hex "10 02 01 50 20 00 01 00 01 21 00 01 20 00 00 00 01") 6 9
    -- 7: a hot message region without a term, and a hot plain one that has a reset
    ∷ refused_chart (hex "10 02 01 50 20 00 01 00 01 32 7F") 7 4
    ∷ refused_chart (hex "10 02 01 20 00 01 00 01 50 21 00 01 40 01 32 7F") 7 9
    -- 8: a 32 before the 50
    ∷ refused_chart (hex "10 02 01 20 00 01 00 01 32") 8 8
    -- 9: in a prechart, a line that no region before it touches; first in a main chart without a prechart
    ∷ refused_chart (hex "10 03 01 20 00 01 00 01 21 00 04") 9 8
    ∷ refused_chart (hex "10 02 01 50 21 00 01") 9 4
    -- 10: no 50; no region after it; before 11
    ∷ refused_chart (hex "10 02 00 7F") 10 3
    ∷ refused_chart (hex "10 02 00 20 00 01 00 01 50 7F") 10 9
    ∷ refused_chart (hex "10 02 00 7F 00") 10 3
    -- 11: the end stands at 9, the first byte after it at 10
    ∷ refused_chart (hex "10 02 00 50 20 00 01 00 01 7F 7F 00") 11 10
    ∷ []

-- n message regions, from 0 to 1 with label 1, and what follows them
abbrev pub regions : ℕ → List ℕ → List ℕ
regions zero rest = rest
regions (suc n) rest = hex "20 00 01 00 01" ++ regions n rest

-- n terms, clock 0 ≤ 40, and what follows them
abbrev pub terms : ℕ → List ℕ → List ℕ
terms zero rest = rest
terms (suc n) rest = hex "30 00 01 00 00 00 28" ++ terms n rest

-- a main chart of n regions and more, and a prechart's region of n terms and more
abbrev pub of_regions : ℕ → String → List ℕ
of_regions n rest = hex "10 03 00 50" ++ regions n (hex rest)

abbrev pub of_terms : ℕ → String → List ℕ
of_terms n rest = hex "10 02 01 20 00 01 00 01" ++ terms n (hex rest)

-- The limits: 16 lines, 8 clocks, 32 regions, 4 terms.
abbrev pub limits : List Example
limits =
    -- 16 lines, 8 clocks: a message to line 15, on it a plain region that resets clock 7, both fired by one record
    judged (hex "10 10 08 50 20 00 0F 00 01 21 80 00 40 80 7F") (hex "01 00 0F 00 01 00 00 00 00") 0 1 0 1 0 0 0 0
    -- 32 regions are taken; the 33rd stands at 4 + 32 * 5: 5, also where none is above it, but 4 if it is of one line
    ∷ judged (of_regions 32 "7F") [] 0 0 0 0 0 0 0 0
    ∷ refused_chart (of_regions 33 "7F") 5 164
    ∷ refused_chart (of_regions 32 "21 00 04") 5 164
    ∷ refused_chart (of_regions 32 "20 00 00 00 01") 4 164
    -- four terms are taken; the fifth stands at 8 + 4 * 7: 5, but 4 if it is of clock 1, which the chart has not
    ∷ judged (of_terms 4 "50 20 00 01 00 02 7F") [] 0 0 0 0 0 0 0 0
    ∷ refused_chart (of_terms 5 "") 5 36
    ∷ refused_chart (of_terms 4 "30 01 01 00 00 00 28") 4 36
    ∷ refused_chart (of_terms 4 "31 00 01 01 00 00 00 28") 4 36
    ∷ []
