-- Only yes or no (K1 to K4), each line worked out by hand from the rules.
use Rattle.std.specs.Prelude.{◌≡◌, true, false, List, [], ◌∷◌, ◌++◌, ℕ, Ok, Err}
use Prim.Native.String.{String}
use Rattle.chart_reader.specs.Read.{read_chart}
use Rattle.log_reader.specs.declared.RecordRefusal.TheVariants.{CutShort, UnknownByte}
use Rattle.log_clock.specs.declared.MomentRefusal.TheVariants.{Mixed, Falls, TooLate}
use Rattle.log_check.specs.declared.LogRefusal.{LogRefusal}
use Rattle.log_check.specs.declared.LogRefusal.TheVariants.{NoRecord, NoMoment}
use Rattle.log_check.specs.declared.JudgeRefusal.TheVariants.{NotAChart, Log}
use Rattle.log_check.specs.Refusal.{fault}
use Rattle.breaks.specs.Numbers.{BreakAnswer}
use Rattle.breaks.specs.Breaks.{breaks_of}
use Rattle.examples.specs.Examples.{chart_u}
use Rattle.witnesses.specs.Hex.{hex}

-- A chart's bytes, a log's bytes, and the answer.
pub record Asked : Type 0 where
  pub chart : List ℕ
  pub log : List ℕ
  pub answer : BreakAnswer

abbrev pub yes_answer : BreakAnswer
yes_answer = Ok true

abbrev pub no_answer : BreakAnswer
no_answer = Ok false

abbrev pub no_chart : BreakAnswer
no_chart = Err NotAChart

abbrev pub refused_with : LogRefusal → ℕ → BreakAnswer
refused_with k offset = Err (Log (fault k offset))

abbrev pub Asks : Asked → Type 0
Asks e = breaks_of (read_chart e.chart).chart e.log ≡ e.answer

abbrev pub asked : List ℕ → String → BreakAnswer → Asked
asked chart log answer = record { chart = chart; log = hex log; answer = answer }

-- chart U: undo at 100 and references at 120, so headings are due at 140; they come at a given time. 27 bytes.
abbrev pub undo_at : String
undo_at = "01 00 01 00 01 00 00 00 64"

abbrev pub restored : String → List ℕ
restored time =
    hex undo_at ++ (hex "01 02 03 00 03 00 00 00 78" ++ (hex "01 01 00 00 02 00 00 00" ++ hex time))

abbrev pub over_u : List ℕ → BreakAnswer → Asked
over_u log answer = record { chart = chart_u; log = log; answer = answer }

-- the same with raw stamps: undo at FFFFFFF0, references 20 ticks later at 4, headings at a given stamp
abbrev pub raw_restored : String → List ℕ
raw_restored stamp =
    hex "03 00 01 00 01 FF FF FF F0"
    ++ (hex "03 02 03 00 03 00 00 00 04" ++ (hex "03 01 00 00 02 00 00 00" ++ hex stamp))

-- one main region, the message a from 0 to 1 with label 1, if clock 0 is at most 5: cold, and hot
abbrev pub cold_chart : List ℕ
cold_chart = hex "10 02 01 50 20 00 01 00 01 30 00 01 00 00 00 05 7F"

abbrev pub hot_chart : List ℕ
hot_chart = hex "10 02 01 50 20 00 01 00 01 30 00 01 00 00 00 05 32 7F"

-- prechart a then b, main chart c
abbrev pub abc : List ℕ
abc = hex "10 02 00 20 00 01 00 01 20 00 01 00 02 50 20 01 00 00 03 7F"

abbrev pub asks : List Asked
asks =
    -- no record; time alone; a foreign message: no
    asked chart_u "" no_answer
    ∷ asked chart_u "02 00 00 00 05 02 00 00 00 05" no_answer
    ∷ asked chart_u "01 09 09 00 01 00 00 00 05" no_answer
    -- headings 40 ticks after the undo, and 41: the hot condition fails. Owed, at the end of the log, is no
    ∷ over_u (restored "8C") no_answer
    ∷ over_u (restored "8D") yes_answer
    ∷ asked chart_u undo_at no_answer
    -- undo a second time, when the main chart is owed: it is the chart's message and no region is ready
    ∷ asked chart_u "01 00 01 00 01 00 00 00 64 01 00 01 00 01 00 00 00 65" yes_answer
    -- a cold condition drops the round; hot, it breaks. A message out of order in the prechart drops the round
    ∷ asked cold_chart "01 00 01 00 01 00 00 00 06" no_answer
    ∷ asked hot_chart "01 00 01 00 01 00 00 00 06" yes_answer
    ∷ asked hot_chart "01 00 01 00 01 00 00 00 05" no_answer
    ∷ asked abc "01 00 01 00 02 00 00 00 01 01 00 01 00 01 00 00 00 02 01 00 01 00 01 00 00 00 03" no_answer
    -- raw: 40 ticks after FFFFFFF0 is 18, 41 is 19
    ∷ over_u (raw_restored "18") no_answer
    ∷ over_u (raw_restored "19") yes_answer
    -- a fault after the break is not looked at: 31, 30, 22, 32, then of a raw log 22 and 32
    ∷ over_u (restored "8D" ++ hex "05") yes_answer
    ∷ over_u (restored "8D" ++ hex "01") yes_answer
    ∷ over_u (restored "8D" ++ hex "02 00 00 00 8C") yes_answer
    ∷ over_u (restored "8D" ++ hex "04 00 00 00 8D") yes_answer
    ∷ over_u (raw_restored "19" ++ hex "04 80 00 00 19") yes_answer
    ∷ over_u (raw_restored "19" ++ hex "02 00 00 00 29") yes_answer
    -- the same faults after a round that was kept, each at offset 27
    ∷ over_u (restored "8C" ++ hex "05") (refused_with (NoRecord UnknownByte) 27)
    ∷ over_u (restored "8C" ++ hex "01") (refused_with (NoRecord CutShort) 27)
    ∷ over_u (restored "8C" ++ hex "02 00 00 00 8B") (refused_with (NoMoment Falls) 27)
    ∷ over_u (restored "8C" ++ hex "04 00 00 00 8C") (refused_with (NoMoment Mixed) 27)
    ∷ over_u (raw_restored "18" ++ hex "04 80 00 00 18") (refused_with (NoMoment Falls) 27)
    ∷ over_u (raw_restored "18" ++ hex "02 00 00 00 28") (refused_with (NoMoment Mixed) 27)
    -- a fault before the record that would break: undo, then the fault at 9, then undo again
    ∷ asked chart_u "01 00 01 00 01 00 00 00 64 05 01 00 01 00 01 00 00 00 65" (refused_with (NoRecord UnknownByte) 9)
    ∷ asked chart_u "01 00 01 00 01 00 00 00 64 02 00 00 00 63 01 00 01 00 01 00 00 00 65" (refused_with (NoMoment Falls) 9)
    ∷ asked chart_u "01 00 01 00 01 00 00 00 64 04 00 00 00 64 01 00 01 00 01 00 00 00 65" (refused_with (NoMoment Mixed) 9)
    -- the fault is of the very record that would break: undo again a tick before the last time, and one byte short of it
    ∷ asked chart_u "01 00 01 00 01 00 00 00 64 01 00 01 00 01 00 00 00 63" (refused_with (NoMoment Falls) 9)
    ∷ asked chart_u "01 00 01 00 01 00 00 00 64 01 00 01 00 01 00 00 00" (refused_with (NoRecord CutShort) 9)
    -- 24: 3FFFFFFF and twice 60000001 after the first stamp is 100000001; FFFFFFFF, the last moment, is taken
    ∷ asked chart_u "04 00 00 00 00 04 3F FF FF FF 04 A0 00 00 00 04 00 00 00 01" (refused_with (NoMoment TooLate) 15)
    ∷ asked chart_u "04 00 00 00 00 04 3F FF FF FF 04 A0 00 00 00 04 FF FF FF FF" no_answer
    -- 24 after a break: undo at the first stamp and again at once
    ∷ over_u
    (hex "03 00 01 00 01 00 00 00 00 03 00 01 00 01 00 00 00 00"
    ++ hex "04 3F FF FF FF 04 A0 00 00 00 04 00 00 00 01") yes_answer
    -- 20: no bytes are no chart, and its value is zeros; a fault of the log comes later
    ∷ asked [] "" no_chart
    ∷ asked [] "05" no_chart
    ∷ []
