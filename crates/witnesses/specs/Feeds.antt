-- Feeds, each worked out by hand from the rules: every answer and every refusal, by its number.
use Rattle.std.specs.Prelude.{◌≡◌, List, [], ◌∷◌, ℕ, replicate, Ok, Err}
use Rattle.model.specs.declared.Cause.{Cause}
use Rattle.model.specs.declared.Record.{Record}
use Rattle.model.specs.declared.Record.TheVariants as event
use Rattle.model.specs.declared.Monitor.{Monitor}
use Rattle.model.specs.Monitor.{zero_monitor}
use Rattle.model.specs.declared.Answer.TheVariants as answer
use Rattle.model.specs.declared.FeedRefusal.TheVariants.{NotAChart, Unfit, TimeFalls, TooManyRecords}
use Rattle.model.specs.Answers.{Fed, fed_number}
use Rattle.chart_reader.specs.Read.{read_chart}
use Rattle.rounds.specs.Tally.{Break}
use Rattle.stepping.specs.Answers.{fed_answer}
use Rattle.monitor.specs.Feed.{feed_of}
use Rattle.examples.specs.Examples.{chart_u}
use Rattle.witnesses.specs.Hex.{hex}
use Rattle.witnesses.specs.Rounds.{chart_p, four_terms}

-- a message from a line to a line with a label, and a record of time
abbrev pub message : ℕ → ℕ → ℕ → ℕ → Record
message source destination label time =
    event.Message (record { source = source; destination = destination; label = label }) (record { 0 = time })

abbrev pub passes : ℕ → Record
passes time = event.Time (record { 0 = time })

-- chart U's messages
abbrev pub undo : ℕ → Record
undo time = message 0 1 1 time

abbrev pub headings : ℕ → Record
headings time = message 1 0 2 time

abbrev pub references : ℕ → Record
references time = message 2 3 3 time

-- a cause: the region and the term, both counted from 1, or two zeros
abbrev pub pair : ℕ → ℕ → Cause
pair region term = record { region = region; term = term }

-- a monitor: the fired regions as a set, clock 0's reset moment, now, the records, the break, its reason and its cause
abbrev pub stored_by : ℕ → ℕ → ℕ → ℕ → ℕ → ℕ → Cause → Monitor
stored_by fired reset now records break reason x =
    record {
      place = record { fired = fired; resets = record { 0 = reset } ∷ replicate 7 (record { 0 = 0 }) };
      tally = record {
        now = record { 0 = now };
        records = records;
        kept = 0;
        dropped = 0;
        broken = record { at = break; reason = reason; cause = x };
      };
    }

-- one whose cause is zeros
abbrev pub stored : ℕ → ℕ → ℕ → ℕ → ℕ → ℕ → Monitor
stored fired reset now records break reason = stored_by fired reset now records break reason (pair 0 0)

-- The chart that is read from some bytes, a monitor and a record; the answer, and its number.
pub record Feed : Type 0 where
  pub chart : List ℕ
  pub monitor : Monitor
  pub fed : Record
  pub answer : Fed
  pub number : ℕ

abbrev pub Answers : Feed → Type 0
Answers e =
    ((feed_of (read_chart e.chart).chart e.monitor e.fed).answer ≡ fed_answer e.answer)
    × (fed_number e.answer ≡ e.number)

abbrev pub feeding : List ℕ → Monitor → Record → Fed → ℕ → Feed
feeding chart m e a n = record { chart = chart; monitor = m; fed = e; answer = a; number = n }

-- a message, and a plain region on its source line, whose cold condition is clock 0 ≥ 5 and clock 0 ≤ 10
abbrev pub plain_cold : List ℕ
plain_cold = hex "10 02 01 50 20 00 01 00 01 21 00 01 30 00 03 00 00 00 05 30 00 01 00 00 00 0A 7F"

-- a prechart with one message, cold with clock 0 ≤ 40, then a main chart with another
abbrev pub term_first : List ℕ
term_first = hex "10 02 01 20 00 01 00 01 30 00 01 00 00 00 28 50 20 00 01 00 02 7F"

-- Every answer of a feed by its number.
abbrev pub feeds : List Feed
feeds =
    -- undo completes chart U's prechart; headings and references then come in any order, by clock 0 until 140
    feeding chart_u zero_monitor (undo 100) (Ok answer.Entered) 4
    ∷ feeding chart_u (stored 1 100 100 1 0 0) (references 120) (Ok answer.Moved) 5
    ∷ feeding chart_u (stored 5 100 120 2 0 0) (headings 140) (Ok answer.Kept) 2
    ∷ feeding chart_u (stored 5 100 120 2 0 0) (headings 141) (Ok (answer.Broken 3 2 (pair 2 1))) 1
    -- undo again, in the main chart; then the same answer again, also for an earlier time or a record too many
    ∷ feeding chart_u (stored 1 100 100 1 0 0) (undo 110) (Ok (answer.Broken 2 1 (pair 0 0))) 1
    ∷ feeding chart_u (stored 1 100 110 2 2 1) (passes 7) (Ok (answer.Broken 2 1 (pair 0 0))) 1
    ∷ feeding chart_u (stored 1 100 110 1000000 2 1) (passes 120) (Ok (answer.Broken 2 1 (pair 0 0))) 1
    -- again with the cause that is stored, whatever comes
    ∷ feeding chart_u (stored_by 1 100 150 2 2 2 (pair 3 1)) (headings 160) (Ok (answer.Broken 2 2 (pair 3 1))) 1
    -- a plain region that is cold, in the message's record: by its first term at 4, by its second at 11, kept at 10
    ∷ feeding plain_cold zero_monitor (message 0 1 1 4) (Ok (answer.Dropped (pair 2 1))) 3
    ∷ feeding plain_cold zero_monitor (message 0 1 1 11) (Ok (answer.Dropped (pair 2 2))) 3
    ∷ feeding plain_cold zero_monitor (message 0 1 1 10) (Ok answer.Kept) 2
    -- headings in the prechart, which no condition decides; time alone
    ∷ feeding chart_u zero_monitor (headings 5) (Ok (answer.Dropped (pair 0 0))) 3
    ∷ feeding chart_u zero_monitor (passes 5) (Ok answer.Quiet) 6
    -- the first of two prechart regions, then the second
    ∷ feeding chart_p zero_monitor (message 0 1 1 5) (Ok answer.Moved) 5
    ∷ feeding chart_p (stored 1 0 5 1 0 0) (message 0 1 2 5) (Ok answer.Entered) 4
    -- 20: the empty bytes are refused with a chart of zeros, which no accepted bytes give; before 21
    ∷ feeding [] zero_monitor (passes 5) (Err NotAChart) 20
    ∷ feeding [] (stored 2 0 0 0 0 0) (passes 5) (Err NotAChart) 20
    -- 21: headings fired without undo; all three fired; a fourth fired
    ∷ feeding chart_u (stored 2 0 0 0 0 0) (passes 5) (Err Unfit) 21
    ∷ feeding chart_u (stored 7 0 0 3 0 0) (passes 5) (Err Unfit) 21
    ∷ feeding chart_u (stored 8 0 0 1 0 0) (passes 5) (Err Unfit) 21
    -- 21: a reset moment above now; 1,000,001 records; a reason without a break; a break at record 5 of 4; reason 3
    ∷ feeding chart_u (stored 0 6 5 0 0 0) (passes 6) (Err Unfit) 21
    ∷ feeding chart_u (stored 0 0 0 1000001 0 0) (passes 5) (Err Unfit) 21
    ∷ feeding chart_u (stored 0 0 0 4 0 1) (passes 5) (Err Unfit) 21
    ∷ feeding chart_u (stored 0 0 0 4 5 1) (passes 5) (Err Unfit) 21
    ∷ feeding chart_u (stored 0 0 0 4 4 3) (passes 5) (Err Unfit) 21
    -- 22: 99 is below 100, 100 isn't
    ∷ feeding chart_u (stored 1 100 100 1 0 0) (passes 99) (Err TimeFalls) 22
    ∷ feeding chart_u (stored 1 100 100 1 0 0) (passes 100) (Ok answer.Quiet) 6
    -- 23: after 1,000,000 records, 22 before it; record 1,000,000 is taken
    ∷ feeding chart_u (stored 0 0 5 1000000 0 0) (passes 5) (Err TooManyRecords) 23
    ∷ feeding chart_u (stored 0 0 5 1000000 0 0) (passes 4) (Err TimeFalls) 22
    ∷ feeding chart_u (stored 0 0 5 999999 0 0) (passes 5) (Ok answer.Quiet) 6
    ∷ []

-- M10: the cause that a break may have, with its reason. Chart U's regions have no term, one and one.
abbrev pub fitness : List Feed
fitness =
    -- reason 2: headings' term; references' term, though it is fired; a prechart's term, though it is cold
    feeding chart_u (stored_by 5 100 141 3 3 2 (pair 2 1)) (passes 150) (Ok (answer.Broken 3 2 (pair 2 1))) 1
    ∷ feeding chart_u (stored_by 5 100 141 3 3 2 (pair 3 1)) (passes 150) (Ok (answer.Broken 3 2 (pair 3 1))) 1
    ∷ feeding term_first (stored_by 0 0 5 1 1 2 (pair 1 1)) (passes 5) (Ok (answer.Broken 1 2 (pair 1 1))) 1
    -- no region 0 and no region 4
    ∷ feeding chart_u (stored_by 5 100 141 3 3 2 (pair 0 0)) (passes 150) (Err Unfit) 21
    ∷ feeding chart_u (stored_by 5 100 141 3 3 2 (pair 0 1)) (passes 150) (Err Unfit) 21
    ∷ feeding chart_u (stored_by 5 100 141 3 3 2 (pair 4 1)) (passes 150) (Err Unfit) 21
    -- no term 0; no second term, nor a fifth, which would be the next region's first; undo has no term
    ∷ feeding chart_u (stored_by 5 100 141 3 3 2 (pair 2 0)) (passes 150) (Err Unfit) 21
    ∷ feeding chart_u (stored_by 5 100 141 3 3 2 (pair 2 2)) (passes 150) (Err Unfit) 21
    ∷ feeding chart_u (stored_by 5 100 141 3 3 2 (pair 2 5)) (passes 150) (Err Unfit) 21
    ∷ feeding chart_u (stored_by 5 100 141 3 3 2 (pair 1 1)) (passes 150) (Err Unfit) 21
    -- the last of four terms, and one more
    ∷ feeding four_terms (stored_by 1 2 7 2 2 2 (pair 2 4)) (passes 7) (Ok (answer.Broken 2 2 (pair 2 4))) 1
    ∷ feeding four_terms (stored_by 1 2 7 2 2 2 (pair 2 5)) (passes 7) (Err Unfit) 21
    -- reason 1 has zeros, and so has no break
    ∷ feeding chart_u (stored_by 1 100 110 2 2 1 (pair 2 1)) (passes 120) (Err Unfit) 21
    ∷ feeding chart_u (stored_by 1 100 110 2 2 1 (pair 2 0)) (passes 120) (Err Unfit) 21
    ∷ feeding chart_u (stored_by 1 100 110 2 2 1 (pair 0 1)) (passes 120) (Err Unfit) 21
    ∷ feeding chart_u (stored_by 1 100 110 2 0 0 (pair 2 1)) (passes 120) (Err Unfit) 21
    ∷ feeding chart_u (stored_by 1 100 110 2 0 0 (pair 2 0)) (passes 120) (Err Unfit) 21
    ∷ feeding chart_u (stored_by 1 100 110 2 0 0 (pair 0 1)) (passes 120) (Err Unfit) 21
    ∷ []

-- A feed, and the break that the monitor has after it.
pub record Store : Type 0 where
  pub chart : List ℕ
  pub monitor : Monitor
  pub fed : Record
  pub break : Break

abbrev pub Stores : Store → Type 0
Stores e = (feed_of (read_chart e.chart).chart e.monitor e.fed).next.tally.broken ≡ e.break

abbrev pub storing : List ℕ → Monitor → Record → ℕ → ℕ → Cause → Store
storing chart m e at reason x =
    record { chart = chart; monitor = m; fed = e; break = record { at = at; reason = reason; cause = x } }

-- What is stored of a break.
abbrev pub breaks : List Store
breaks =
    -- headings at 141; undo again
    storing chart_u (stored 5 100 120 2 0 0) (headings 141) 3 2 (pair 2 1)
    ∷ storing chart_u (stored 1 100 100 1 0 0) (undo 110) 2 1 (pair 0 0)
    -- nothing of a drop, by a condition or not
    ∷ storing plain_cold zero_monitor (message 0 1 1 11) 0 0 (pair 0 0)
    ∷ storing chart_u zero_monitor (headings 5) 0 0 (pair 0 0)
    -- what was stored before
    ∷ storing chart_u (stored_by 1 100 150 2 2 2 (pair 3 1)) (headings 160) 2 2 (pair 3 1)
    ∷ []
