-- Conditions, clocks, orders and logs, each worked out by hand from the rules.
use Rattle.std.specs.Prelude.{List, [], ◌∷◌, ◌++◌, ℕ}
use Prim.Native.String.{String}
use Rattle.listing.specs.declared.Part.TheVariants.{Log}
use Rattle.listing.specs.Listing.{refused}
use Rattle.witnesses.specs.Hex.{hex}
use Rattle.examples.specs.Examples.{Example, judged}

-- One message, whose hot condition is a term of clock 0: its relation and n. The message's time is the clock's value.
abbrev pub clock_chart : String → List ℕ
clock_chart term = hex "10 02 01 50 20 00 01 00 01 30 00" ++ (hex term ++ hex "32 7F")

abbrev pub sent_at : String → List ℕ
sent_at time = hex "01 00 01 00 01" ++ hex time

abbrev pub holds : String → String → Example
holds term time = judged (clock_chart term) (sent_at time) 0 1 0 1 0 0 0 0

abbrev pub fails : String → String → Example
fails term time = judged (clock_chart term) (sent_at time) 3 0 0 1 1 2 1 1

-- Two messages: the first resets clock 0, the second's hot condition is a term of clock 0 minus clock 1, which is minus
-- the first message's time.
abbrev pub difference_chart : String → List ℕ
difference_chart term = hex "10 02 02 20 00 01 00 01 40 01 50 20 00 01 00 02 31 00 01" ++ (hex term ++ hex "32 7F")

abbrev pub both_from : String → List ℕ
both_from time = sent_at time ++ hex "01 00 01 00 02 FF FF FF FF"

abbrev pub differs : String → String → Example
differs term time = judged (difference_chart term) (both_from time) 0 1 0 2 0 0 0 0

abbrev pub misses : String → String → Example
misses term time = judged (difference_chart term) (both_from time) 3 0 0 2 2 2 2 1

-- Each relation at its edge; n is signed.
abbrev pub conditions : List Example
conditions =
    -- clock 0 at 9, 10 and 11: 0 is < 10
    holds "00 00 00 00 0A" "00 00 00 09"
    ∷ fails "00 00 00 00 0A" "00 00 00 0A"
    ∷ fails "00 00 00 00 0A" "00 00 00 0B"
    -- 1 is ≤ 10
    ∷ holds "01 00 00 00 0A" "00 00 00 09"
    ∷ holds "01 00 00 00 0A" "00 00 00 0A"
    ∷ fails "01 00 00 00 0A" "00 00 00 0B"
    -- 2 is = 10
    ∷ fails "02 00 00 00 0A" "00 00 00 09"
    ∷ holds "02 00 00 00 0A" "00 00 00 0A"
    ∷ fails "02 00 00 00 0A" "00 00 00 0B"
    -- 3 is ≥ 10
    ∷ fails "03 00 00 00 0A" "00 00 00 09"
    ∷ holds "03 00 00 00 0A" "00 00 00 0A"
    ∷ holds "03 00 00 00 0A" "00 00 00 0B"
    -- 4 is > 10
    ∷ fails "04 00 00 00 0A" "00 00 00 09"
    ∷ fails "04 00 00 00 0A" "00 00 00 0A"
    ∷ holds "04 00 00 00 0A" "00 00 00 0B"
    -- no clock is at most -1 or at most -2,147,483,648; each is above
    ∷ fails "01 FF FF FF FF" "00 00 00 00"
    ∷ holds "04 FF FF FF FF" "00 00 00 00"
    ∷ fails "01 80 00 00 00" "00 00 00 00"
    ∷ holds "04 80 00 00 00" "00 00 00 00"
    -- 2,147,483,648 isn't -2,147,483,648; it is above 2,147,483,647
    ∷ fails "02 80 00 00 00" "80 00 00 00"
    ∷ holds "01 7F FF FF FF" "7F FF FF FF"
    ∷ fails "01 7F FF FF FF" "80 00 00 00"
    -- -4, -5 and -6: < -5
    ∷ misses "00 FF FF FF FB" "00 00 00 04"
    ∷ misses "00 FF FF FF FB" "00 00 00 05"
    ∷ differs "00 FF FF FF FB" "00 00 00 06"
    -- ≤ -5
    ∷ misses "01 FF FF FF FB" "00 00 00 04"
    ∷ differs "01 FF FF FF FB" "00 00 00 05"
    ∷ differs "01 FF FF FF FB" "00 00 00 06"
    -- = -5
    ∷ misses "02 FF FF FF FB" "00 00 00 04"
    ∷ differs "02 FF FF FF FB" "00 00 00 05"
    ∷ misses "02 FF FF FF FB" "00 00 00 06"
    -- ≥ -5
    ∷ differs "03 FF FF FF FB" "00 00 00 04"
    ∷ differs "03 FF FF FF FB" "00 00 00 05"
    ∷ misses "03 FF FF FF FB" "00 00 00 06"
    -- > -5
    ∷ differs "04 FF FF FF FB" "00 00 00 04"
    ∷ misses "04 FF FF FF FB" "00 00 00 05"
    ∷ misses "04 FF FF FF FB" "00 00 00 06"
    -- -2,147,483,648 is at least itself; -2,147,483,649 isn't, nor is it 2,147,483,647; -4,294,967,295 is below
    ∷ differs "03 80 00 00 00" "80 00 00 00"
    ∷ misses "03 80 00 00 00" "80 00 00 01"
    ∷ misses "02 7F FF FF FF" "80 00 00 01"
    ∷ differs "00 80 00 00 00" "FF FF FF FF"
    ∷ []

-- T5: clock 0 is reset at 10, clock 1 at 30, so their difference is 20 or -20. The third message has a term of the two.
abbrev pub asked : String → List ℕ
asked term = hex "10 02 02 20 00 01 00 01 40 01 20 00 01 00 02 40 02 50 20 00 01 00 03 31" ++ (hex term ++ hex "32 7F")

abbrev pub three_sent : List ℕ
three_sent = hex "01 00 01 00 01 00 00 00 0A 01 00 01 00 02 00 00 00 1E 01 00 01 00 03 00 00 00 28"

-- at least 5 and at most 10
abbrev pub five_to_ten : List ℕ
five_to_ten = hex "10 02 01 50 20 00 01 00 01 30 00 03 00 00 00 05 30 00 01 00 00 00 0A 32 7F"

-- Which clocks a condition sees, and what its failing does.
abbrev pub clocks : List Example
clocks =
    judged (asked "00 01 02 00 00 00 14") three_sent 0 1 0 3 0 0 0 0
    ∷ judged (asked "01 00 02 FF FF FF EC") three_sent 0 1 0 3 0 0 0 0
    ∷ judged (asked "01 00 02 00 00 00 14") three_sent 3 0 0 3 3 2 3 1
    -- both terms must hold
    ∷ judged five_to_ten (sent_at "00 00 00 04") 3 0 0 1 1 2 1 1
    ∷ judged five_to_ten (sent_at "00 00 00 05") 0 1 0 1 0 0 0 0
    ∷ judged five_to_ten (sent_at "00 00 00 0B") 3 0 0 1 1 2 1 2
    -- a region's own reset comes after its test: the clock is 3
    ∷ judged (hex "10 02 01 50 20 00 01 00 01 30 00 03 00 00 00 03 40 01 32 7F") (sent_at "00 00 00 03") 0 1 0 1 0 0 0 0
    -- without a 32 the round is dropped
    ∷ judged (hex "10 02 01 50 20 00 01 00 01 30 00 01 00 00 00 0A 7F") (sent_at "00 00 00 0B") 0 0 1 1 0 0 0 0
    -- a round kept at 10 opens the next there: the clock is 10 at 20, and 11 at 21
    ∷ judged (clock_chart "01 00 00 00 0A") (sent_at "00 00 00 0A" ++ sent_at "00 00 00 14") 0 2 0 2 0 0 0 0
    ∷ judged (clock_chart "01 00 00 00 0A") (sent_at "00 00 00 0A" ++ sent_at "00 00 00 15") 3 1 0 2 2 2 1 1
    ∷ []

-- Two messages, the first of which resets clock 0. The second's hot condition has four terms: clock 0 ≥ 5, clock 1
-- minus clock 0 ≤ 10, clock 0 < 20, clock 0 minus clock 1 < -2. With the first at a and the second at t, clock 0 is
-- t - a, and clock 1 minus clock 0 is a.
abbrev pub four_terms : List ℕ
four_terms =
    hex "10 02 02 20 00 01 00 01 40 01 50 20 00 01 00 02"
    ++ (hex "30 00 03 00 00 00 05 31 01 00 01 00 00 00 0A 30 00 00 00 00 00 14 31 00 01 00 FF FF FF FE" ++ hex "32 7F")

abbrev pub sent_both : String → String → List ℕ
sent_both a t = sent_at a ++ (hex "01 00 01 00 02" ++ hex t)

-- a message, and a plain region on its source line, whose hot condition is clock 0 ≤ 10
abbrev pub plain_hot : List ℕ
plain_hot = hex "10 02 01 50 20 00 01 00 01 21 00 01 30 00 01 00 00 00 0A 32 7F"

-- The region and the term that a break has.
abbrev pub causes : List Example
causes =
    -- a is 10, clock 0 is 5: all four hold
    judged four_terms (sent_both "00 00 00 0A" "00 00 00 0F") 0 1 0 2 0 0 0 0
    -- clock 0 is 4: the first alone fails
    ∷ judged four_terms (sent_both "00 00 00 0A" "00 00 00 0E") 3 0 0 2 2 2 2 1
    -- a is 11: the second
    ∷ judged four_terms (sent_both "00 00 00 0B" "00 00 00 10") 3 0 0 2 2 2 2 2
    -- clock 0 is 20: the third
    ∷ judged four_terms (sent_both "00 00 00 0A" "00 00 00 1E") 3 0 0 2 2 2 2 3
    -- a is 2: the fourth
    ∷ judged four_terms (sent_both "00 00 00 02" "00 00 00 07") 3 0 0 2 2 2 2 4
    -- clock 0 is 4 and a is 2: the first and the fourth; a is 11 and clock 0 is 20: the second and the third
    ∷ judged four_terms (sent_both "00 00 00 02" "00 00 00 06") 3 0 0 2 2 2 2 1
    ∷ judged four_terms (sent_both "00 00 00 0B" "00 00 00 1F") 3 0 0 2 2 2 2 2
    -- the plain region, not the message's
    ∷ judged plain_hot (sent_at "00 00 00 0A") 0 1 0 1 0 0 0 0
    ∷ judged plain_hot (sent_at "00 00 00 0B") 3 0 0 1 1 2 2 1
    ∷ []

-- two regions of a main chart, of four lines: the first's label is 1, the second's 2
abbrev pub two : String → String → List ℕ
two a b = hex "10 04 00 50 20" ++ (hex a ++ (hex "00 01 20" ++ (hex b ++ hex "00 02 7F")))

-- their messages, the second's first
abbrev pub turned : String → String → List ℕ
turned a b = hex "01" ++ (hex b ++ (hex "00 02 00 00 00 01 01" ++ (hex a ++ hex "00 01 00 00 00 02")))

-- Regions that share a line are in order; the second's message then comes too early.
abbrev pub orders : List Example
orders =
    -- one source; the first's destination, the second's source; one destination; the first's source, the second's end
    judged (two "00 01" "00 02") (turned "00 01" "00 02") 3 0 0 1 1 1 0 0
    ∷ judged (two "00 01" "01 02") (turned "00 01" "01 02") 3 0 0 1 1 1 0 0
    ∷ judged (two "00 02" "01 02") (turned "00 02" "01 02") 3 0 0 1 1 1 0 0
    ∷ judged (two "00 01" "02 00") (turned "00 01" "02 00") 3 0 0 1 1 1 0 0
    -- no common line, no order
    ∷ judged (two "00 01" "02 03") (turned "00 01" "02 03") 0 1 0 2 0 0 0 0
    -- in a prechart: a plain region on the message's source line, or on its destination line, has one above it
    ∷ judged (hex "10 02 01 20 00 01 00 01 21 00 01 40 01 50 20 00 01 00 02 7F") (sent_at "00 00 00 05") 2 0 0 1 0 0 0 0
    ∷ judged (hex "10 02 01 20 00 01 00 01 21 00 02 40 01 50 20 00 01 00 02 7F") (sent_at "00 00 00 05") 2 0 0 1 0 0 0 0
    -- a plain region first in a main chart, after a prechart; it fires at once
    ∷ judged (hex "10 03 01 20 00 01 00 01 50 21 00 04 40 01 7F") (sent_at "00 00 00 05") 0 1 0 1 0 0 0 0
    ∷ []

-- X17: a prechart of labels 1 and 2, from 0 to 1, then a main chart of label 3, from 1 to 0
abbrev pub chart_p : List ℕ
chart_p = hex "10 02 00 20 00 01 00 01 20 00 01 00 02 50 20 01 00 00 03 7F"

abbrev pub log_fault : String → ℕ → ℕ → Example
log_fault log number offset = record { chart = chart_p; log = hex log; report = refused Log number offset }

-- Logs of that chart: standings, reasons and refusals. A message takes nine bytes, a time five.
abbrev pub logs : List Example
logs =
    -- 1 is in the prechart, 2 in the main chart, 0 nothing fired, 3 broken, here for want of a ready region
    judged chart_p (sent_at "00 00 00 05") 1 0 0 1 0 0 0 0
    ∷ judged chart_p (sent_both "00 00 00 05" "00 00 00 05") 2 0 0 2 0 0 0 0
    ∷ judged chart_p (sent_both "00 00 00 05" "00 00 00 05" ++ hex "01 01 00 00 03 00 00 00 06") 0 1 0 3 0 0 0 0
    ∷ judged chart_p (sent_both "00 00 00 05" "00 00 00 05" ++ hex "01 00 01 00 02 00 00 00 06") 3 0 0 3 3 1 0 0
    -- X17: the second label 1 drops the round and starts the next; label 2 completes its prechart
    ∷ judged chart_p (sent_at "00 00 00 05" ++ sent_both "00 00 00 06" "00 00 00 07") 2 0 1 3 0 0 0 0
    -- times, and label 256, are counted and do nothing more; equal times are taken, and the last moment
    ∷ judged chart_p (hex "02 00 00 00 05 02 00 00 00 05 01 00 01 00 01 00 00 00 05") 1 0 0 3 0 0 0 0
    ∷ judged chart_p (hex "01 00 01 01 00 00 00 00 05 02 FF FF FF FF") 0 0 0 2 0 0 0 0
    -- 31: 05 and 00 are unknown, before 30
    ∷ log_fault "05 00 00 00 05" 31 0
    ∷ log_fault "02 00 00 00 05 00" 31 5
    -- 30: four of five bytes, eight of nine; 03 is a raw message, of which five bytes of nine are there
    ∷ log_fault "02 00 00 00" 30 0
    ∷ log_fault "02 00 00 00 05 01 00 01 00 01 00 00 00" 30 5
    ∷ log_fault "03 00 00 00 05" 30 0
    -- 22: 4 below 5
    ∷ log_fault "02 00 00 00 05 02 00 00 00 04" 22 5
    ∷ log_fault "01 00 01 00 01 00 00 00 05 02 00 00 00 04" 22 9
    -- the third record would break the round, but the whole log is checked first
    ∷ log_fault "01 00 01 00 01 00 00 00 05 01 00 01 00 02 00 00 00 05 01 00 01 00 02 00 00 00 06 FF" 31 27
    ∷ []
