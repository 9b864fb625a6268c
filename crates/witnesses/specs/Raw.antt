-- Raw records, each worked out by hand from the rules: what is read at an offset, and whole logs with stamps.
use Rattle.std.specs.Prelude.{◌≡◌, List, [], ◌∷◌, ◌++◌, ℕ}
use Prim.Native.String.{String}
use Rattle.model.specs.declared.RawRecord.{RawRecord}
use Rattle.model.specs.declared.RawRecord.TheVariants as rawly
use Rattle.log_reader.specs.Record as found
use Rattle.log_reader.specs.Next.{next_at}
use Rattle.examples.specs.Examples.{Example, judged, chart_u}
use Rattle.witnesses.specs.Hex.{hex}
use Rattle.witnesses.specs.Rounds.{clock_chart, sent_at, chart_p, log_fault}
use Rattle.witnesses.specs.Feeds.{message, passes}

-- a raw message from a line to a line with a label, and a raw record of time
abbrev pub raw_message : ℕ → ℕ → ℕ → ℕ → RawRecord
raw_message source destination label stamp =
    rawly.Message (record { source = source; destination = destination; label = label }) (record { 0 = stamp })

abbrev pub raw_time : ℕ → RawRecord
raw_time stamp = rawly.Time (record { 0 = stamp })

-- A log's bytes, an offset in them, and what reading one record there says.
pub record Reading : Type 0 where
  pub log : List ℕ
  pub at : ℕ
  pub finds : found.Said

abbrev pub Reads : Reading → Type 0
Reads e = found.said e.at (next_at e.log e.at) ≡ e.finds

abbrev pub reading : String → ℕ → found.Said → Reading
reading log at x = record { log = hex log; at = at; finds = x }

-- a raw time, then a raw message: 14 bytes
abbrev pub raw_pair : String
raw_pair = "04 00 00 00 05 03 00 01 00 01 FF FF FF FF"

-- One record at an offset.
abbrev pub readings : List Reading
readings =
    -- every byte in its place: 1, 2, 3 * 256 + 4, and 05060708, which is 84,281,096; 03 and 01 differ in the kind alone
    reading "03 01 02 03 04 05 06 07 08" 0 (found.handed_raw (raw_message 1 2 772 84281096) 9)
    ∷ reading "01 01 02 03 04 05 06 07 08" 0 (found.handed (message 1 2 772 84281096) 9)
    -- 01020304 is 16,909,060; 04 and 02 differ in the kind alone
    ∷ reading "04 01 02 03 04" 0 (found.handed_raw (raw_time 16909060) 5)
    ∷ reading "02 01 02 03 04" 0 (found.handed (passes 16909060) 5)
    -- the first stamp and the last: a stamp is what the counter showed, not a moment
    ∷ reading "04 00 00 00 00" 0 (found.handed_raw (raw_time 0) 5)
    ∷ reading raw_pair 0 (found.handed_raw (raw_time 5) 5)
    ∷ reading raw_pair 5 (found.handed_raw (raw_message 0 1 1 4294967295) 14)
    -- the end, at the length and beyond
    ∷ reading raw_pair 14 (found.end 14)
    ∷ reading raw_pair 99 (found.end 99)
    -- 31: at 4 stands 05, at 6 stands 00, at 10 stands FF; 30: at 9 stands 01, with five bytes of nine
    ∷ reading raw_pair 4 (found.refused 31 4)
    ∷ reading raw_pair 6 (found.refused 31 6)
    ∷ reading raw_pair 10 (found.refused 31 10)
    ∷ reading raw_pair 9 (found.refused 30 9)
    -- 30: one, five and eight bytes of nine; one and four bytes of five
    ∷ reading "03" 0 (found.refused 30 0)
    ∷ reading "03 00 00 00 05" 0 (found.refused 30 0)
    ∷ reading "03 00 01 00 01 00 00 00" 0 (found.refused 30 0)
    ∷ reading "04" 0 (found.refused 30 0)
    ∷ reading "04 00 00 00" 0 (found.refused 30 0)
    -- neither the kind nor the stamp of a record before is looked at: no 32, no 22
    ∷ reading "02 00 00 00 05 04 00 00 00 04" 5 (found.handed_raw (raw_time 4) 10)
    ∷ reading "04 00 00 00 05 02 00 00 00 04" 5 (found.handed (passes 4) 10)
    ∷ []

-- a raw message, label 1 from 0 to 1, and a raw record of time, by their stamps
abbrev pub stamped_at : String → List ℕ
stamped_at stamp = hex "03 00 01 00 01" ++ hex stamp

abbrev pub shows : String → List ℕ
shows stamp = hex "04" ++ hex stamp

-- chart U: undo at stamp 4,294,967,280, references at 4, headings at a given stamp below 256
abbrev pub undone_over : String → List ℕ
undone_over stamp =
    hex "03 00 01 00 01 FF FF FF F0 03 02 03 00 03 00 00 00 04 03 01 00 00 02 00 00 00" ++ hex stamp

-- Whole raw logs. `clock_chart` with 02 holds at one moment alone, since clock 0 runs from moment 0.
abbrev pub raws : List Example
raws =
    -- the first stamp is moment 0, the last stamp of the counter too; 100 is 0 in a raw log and 100 in a plain one
    judged (clock_chart "02 00 00 00 00") (stamped_at "FF FF FF FF") 0 1 0 1 0 0 0 0
    ∷ judged (clock_chart "02 00 00 00 64") (stamped_at "00 00 00 64") 3 0 0 1 1 2 1 1
    ∷ judged (clock_chart "02 00 00 00 64") (sent_at "00 00 00 64") 0 1 0 1 0 0 0 0
    -- over the wrap: 16 ticks to 0 and 24 more are 40, kept; 25 more are 41, broken by region 2
    ∷ judged chart_u (undone_over "18") 0 1 0 3 0 0 0 0
    ∷ judged chart_u (undone_over "19") 3 0 0 3 3 2 2 1
    -- from 4,294,967,295 to 0 is one tick
    ∷ judged (clock_chart "02 00 00 00 01") (shows "FF FF FF FF" ++ stamped_at "00 00 00 00") 0 1 0 2 0 0 0 0
    -- the record before, not the first: 100, 104, 110 are moments 0, 4, 10. A foreign message counts: moments 0, 32, 40
    ∷ judged (clock_chart "02 00 00 00 0A") (shows "00 00 00 64" ++ (shows "00 00 00 68" ++ stamped_at "00 00 00 6E"))
    0 1 0 3 0 0 0 0
    ∷ judged chart_u
    (hex "03 00 01 00 01 FF FF FF E0 03 09 09 00 09 00 00 00 00 03 01 00 00 02 00 00 00 08") 2 0 0 3 0 0 0 0
    -- the largest difference, 7FFFFFFF, over the wrap: taken; one more is 22; two halves of that are taken
    ∷ judged (clock_chart "02 7F FF FF FF") (shows "C0 00 00 00" ++ stamped_at "3F FF FF FF") 0 1 0 2 0 0 0 0
    ∷ log_fault "04 C0 00 00 00 03 00 01 00 01 40 00 00 00" 22 5
    ∷ judged (clock_chart "04 7F FF FF FF") (shows "00 00 00 00" ++ (shows "40 00 00 00" ++ stamped_at "80 00 00 00"))
    0 1 0 3 0 0 0 0
    -- the counter one back; 104 is 4 after 100, but the record between them is the one before
    ∷ log_fault "04 00 00 00 00 04 FF FF FF FF" 22 5
    ∷ log_fault "03 00 01 00 01 00 00 00 64 04 80 00 00 63 03 00 01 00 01 00 00 00 68" 22 14
    -- the last moment: 40000000, 60000000 and 5FFFFFFF are 4,294,967,295, taken; one more is 24
    ∷ judged (clock_chart "04 7F FF FF FF")
    (shows "00 00 00 01" ++ (shows "40 00 00 01" ++ (shows "A0 00 00 01" ++ stamped_at "00 00 00 00"))) 0 1 0 4 0 0 0 0
    ∷ log_fault "04 00 00 00 01 04 40 00 00 01 04 A0 00 00 01 04 00 00 00 01" 24 15
    -- 22 before 24: FFFFFFFE, and a difference of 80000000
    ∷ log_fault "04 00 00 00 00 04 7F FF FF FF 04 FF FF FF FE 04 7F FF FF FE" 22 15
    -- 32, either way, messages and times; before 22: 4 after 5
    ∷ log_fault "01 00 01 00 01 00 00 00 05 03 00 01 00 01 00 00 00 05" 32 9
    ∷ log_fault "03 00 01 00 01 00 00 00 05 01 00 01 00 01 00 00 00 05" 32 9
    ∷ log_fault "02 00 00 00 05 04 00 00 00 04" 32 5
    ∷ log_fault "04 00 00 00 05 02 00 00 00 04" 32 5
    -- 32 before 24: after the last moment of a plain log
    ∷ log_fault "02 FF FF FF FF 04 00 00 00 01" 32 5
    -- 31 and 30 before 32
    ∷ log_fault "04 00 00 00 05 05" 31 5
    ∷ log_fault "04 00 00 00 05 02 00 00 00" 30 5
    ∷ log_fault "02 00 00 00 05 03 00 01 00 01 00 00 00" 30 5
    -- the third record would break the round, but the whole log is checked first: the fourth is plain
    ∷ log_fault "03 00 01 00 01 00 00 00 05 03 00 01 00 02 00 00 00 05 03 00 01 00 02 00 00 00 06 02 00 00 00 06" 32 27
    -- raw times alone; a raw log in the prechart
    ∷ judged chart_p (shows "FF FF FF F0" ++ shows "00 00 00 05") 0 0 0 2 0 0 0 0
    ∷ judged chart_p (stamped_at "FF FF FF FF") 1 0 0 1 0 0 0 0
    ∷ []
