-- The formats' numbers in examples, and the printed texts, each worked out by hand from the rules.
use Rattle.std.specs.Prelude.{◌≡◌, List, [], ◌∷◌, ◌++◌, ℕ, ◌<◌, length, Err}
use Prim.Native.String.{String}
use Rattle.model.specs.Answers.{most_records}
use Rattle.log_clock.specs.declared.Kind.{Kind}
use Rattle.log_clock.specs.declared.Kind.TheVariants.{Unset, Plain, Raw}
use Rattle.log_clock.specs.declared.MomentRefusal.TheVariants as moment
use Rattle.log_check.specs.declared.LogRefusal.{LogRefusal}
use Rattle.log_check.specs.declared.LogRefusal.TheVariants as log
use Rattle.log_check.specs.Check.{CheckStep}
use Rattle.log_check.specs.Check as check
use Rattle.log_check.specs.Refusal.{log_refusal_number, fault}
use Rattle.log_check.specs.Check.{step_at}
use Rattle.text.specs.Text.{bytes_of}
use Rattle.respond.specs.Respond.{text_of}
use Rattle.examples.specs.Examples.{chart_u, Says}
use Rattle.witnesses.specs.Hex.{hex}
use Rattle.witnesses.specs.Each.{Each}
use Rattle.witnesses.specs.Charts.{refusals, limits}
use Rattle.witnesses.specs.Rounds.{conditions, clocks, causes, orders, logs}
use Rattle.witnesses.specs.Feeds.{Answers, feeds, fitness, Stores, breaks}
use Rattle.witnesses.specs.Offers.{offers, offered, counts, Leads, leads}
use Rattle.witnesses.specs.Raw.{Reads, readings, raws}
use Rattle.witnesses.specs.Asked.{Asks, asks}
use Rattle.witnesses.specs.Foreseen.{Previews, previews}
use Rattle.witnesses.specs.Rested.{misplaced, stands, Marks, Sets, Apart}
use Rattle.witnesses.specs.Saved.{Saves, saves, LongestSaved}

-- an input, and the text that is printed for it
pub record Print : Type 0 where
  pub input : List ℕ
  pub text : String

abbrev pub Prints : Print → Type 0
Prints e = text_of e.input ≡ bytes_of e.text

abbrev pub printed : List ℕ → String → Print
printed input text = record { input = input; text = text }

-- chart U, of 38 bytes; the log of X3, with headings at a given time
abbrev pub undone : String → List ℕ
undone time =
    hex "00 26"
    ++ (chart_u ++ (hex "01 00 01 00 01 00 00 00 64 01 02 03 00 03 00 00 00 78 01 01 00 00 02 00 00 00" ++ hex time))

-- The printed texts. An input is a chart's length in two bytes, the chart, the log.
abbrev pub texts : List Print
texts =
    -- 41: no byte; one byte; length 1 with no byte after it; length 256, not 1, with one byte after it
    printed [] "refused input 41 at 0\n"
    ∷ printed (hex "00") "refused input 41 at 0\n"
    ∷ printed (hex "00 01") "refused input 41 at 0\n"
    ∷ printed (hex "01 00 11") "refused input 41 at 0\n"
    -- the chart 11 is an unknown command, the log 03 a record cut short: the chart's refusal goes first
    ∷ printed (hex "00 01 11") "refused chart 2 at 0\n"
    ∷ printed (hex "00 01 11 03") "refused chart 2 at 0\n"
    -- a byte after the end, at 10; a time that falls, at 5 of the log
    ∷ printed (hex "00 0B 10 02 00 50 20 00 01 00 01 7F 00") "refused chart 11 at 10\n"
    ∷ printed (hex "00 0A 10 02 00 50 20 00 01 00 01 7F 02 00 00 00 05 02 00 00 00 04") "refused log 22 at 5\n"
    -- raw after plain, at 5 of the log; a moment that is 2^32, at 15: 40000000, 60000000 and 60000000 after the first
    ∷ printed (hex "00 0A 10 02 00 50 20 00 01 00 01 7F 02 00 00 00 05 04 00 00 00 05") "refused log 32 at 5\n"
    ∷ printed
    (hex "00 0A 10 02 00 50 20 00 01 00 01 7F" ++ hex "04 00 00 00 01 04 40 00 00 01 04 A0 00 00 01 04 00 00 00 01")
    "refused log 24 at 15\n"
    -- headings at 140 and at 141
    ∷ printed (undone "8C") "STANDING KEPT DROPPED RECORDS BREAK REASON REGION TERM\n0 1 0 3 0 0 0 0\n"
    ∷ printed (undone "8D") "STANDING KEPT DROPPED RECORDS BREAK REASON REGION TERM\n3 0 0 3 3 2 2 1\n"
    ∷ []

-- A log's record of time at offset 0, checked after n others of a kind, the last of them at a moment.
pub record Checking : Type 0 where
  pub log : List ℕ
  pub kind : Kind
  pub last : ℕ
  pub n : ℕ
  pub comes : CheckStep

abbrev pub Checks : Checking → Type 0
Checks e = step_at e.log 0 e.kind (record { 0 = e.last }) e.n ≡ e.comes

abbrev pub checking : String → Kind → ℕ → ℕ → CheckStep → Checking
checking log kind last n comes = record { log = hex log; kind = kind; last = last; n = n; comes = comes }

abbrev pub after : ℕ → Kind
after stamp = Raw (record { 0 = stamp })

-- it goes on at offset 5; or it is refused there
abbrev pub goes : Kind → ℕ → ℕ → CheckStep
goes kind time n = check.Going 5 kind (record { 0 = time }) n

abbrev pub stops : LogRefusal → CheckStep
stops f = check.Over (Err (fault f 0))

abbrev pub checks : List Checking
checks =
    -- 23: record 1,000,000 of a log is taken, the next one is refused
    checking "02 00 00 00 05" Plain 5 999999 (goes Plain 5 1000000)
    ∷ checking "02 00 00 00 05" Plain 5 1000000 (stops log.TooManyRecords)
    ∷ checking "04 00 00 00 05" (after 5) 7 999999 (goes (after 5) 7 1000000)
    ∷ checking "04 00 00 00 05" (after 5) 7 1000000 (stops log.TooManyRecords)
    -- before 23 come 22, the counter one back; 24, one tick after the last moment; and 32
    ∷ checking "04 00 00 00 05" (after 6) 7 1000000 (stops (log.NoMoment moment.Falls))
    ∷ checking "04 00 00 00 05" (after 4) 4294967295 1000000 (stops (log.NoMoment moment.TooLate))
    ∷ checking "04 00 00 00 05" Plain 4 1000000 (stops (log.NoMoment moment.Mixed))
    ∷ checking "02 00 00 00 05" (after 4) 4 1000000 (stops (log.NoMoment moment.Mixed))
    -- two ticks, and four over the wrap, after the last moment; the first raw record is at moment 0
    ∷ checking "04 00 00 00 05" (after 3) 7 0 (goes (after 5) 9 1)
    ∷ checking "04 00 00 00 03" (after 4294967295) 16 0 (goes (after 3) 20 1)
    ∷ checking "04 00 00 00 05" Unset 0 0 (goes (after 5) 0 1)
    ∷ checking "04 FF FF FF FF" Unset 0 0 (goes (after 4294967295) 0 1)
    ∷ []

pub record LogNumbers : Type 0 where
  pub most : most_records ≡ 1000000
  pub too_many : log_refusal_number log.TooManyRecords ≡ 23
  pub mixed : log_refusal_number (log.NoMoment moment.Mixed) ≡ 32
  pub falls : log_refusal_number (log.NoMoment moment.Falls) ≡ 22
  pub too_late_case : log_refusal_number (log.NoMoment moment.TooLate) ≡ 24

-- The page: every line, and what is said of longer logs and inputs than a line has.
pub record Formats : Type 0 where
  pub refusals_said : Each Says refusals
  pub limits_said : Each Says limits
  pub conditions_said : Each Says conditions
  pub clocks_said : Each Says clocks
  pub causes_said : Each Says causes
  pub orders_said : Each Says orders
  pub logs_said : Each Says logs
  pub feeds_answered : Each Answers feeds
  pub fitness_answered : Each Answers fitness
  pub breaks_stored : Each Stores breaks
  pub offers_said : Each Says offers
  pub offers_answered : Each Answers offered
  pub counts_answered : Each Answers counts
  pub offers_lead : Each Leads leads
  pub texts_printed : Each Prints texts
  pub raws_said : Each Says raws
  pub records_read : Each Reads readings
  pub records_checked : Each Checks checks
  pub breaks_asked : Each Asks asks
  pub previews_shown : Each Previews previews
  pub marks_placed : Each Says misplaced
  pub rests_said : Each Says stands
  pub marks_tested : Marks
  pub rests_tested : Sets
  pub marks_apart : Apart
  pub charts_saved : Each Saves saves
  pub longest_saved : LongestSaved
  pub log_numbers_case : LogNumbers
  -- an input of over 65,536 bytes is 40; of 65,536 bytes, with a length of 65,535, it is 41
  pub input_40 : (s : List ℕ) → 65536 < length s → text_of s ≡ bytes_of "refused input 40 at 0\n"
  pub input_41 : (s : List ℕ) → length s ≡ 65534 → text_of (0xff ∷ 0xff ∷ s) ≡ bytes_of "refused input 41 at 0\n"
