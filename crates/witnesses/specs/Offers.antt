-- Second offers, each worked out by hand from the rules: a record that drops a round in the prechart for want of a
-- ready region, with something fired before, is offered once more at the opening. And how many rounds may have ended.
use Rattle.std.specs.Prelude.{◌≡◌, Bool, true, false, List, [], ◌∷◌, ◌++◌, ℕ, replicate, Ok, Err}
use Prim.Native.String.{String}
use Rattle.model.specs.declared.Record.{Record}
use Rattle.model.specs.declared.Monitor.{Monitor}
use Rattle.model.specs.Chart.{most_clocks}
use Rattle.model.specs.Monitor.{zero_break}
use Rattle.model.specs.declared.Answer.TheVariants as answer
use Rattle.model.specs.declared.FeedRefusal.TheVariants.{Unfit, TooManyRecords}
use Rattle.chart_reader.specs.Read.{read_chart}
use Rattle.rounds.specs.Tally.{Tally, no_break}
use Rattle.rounds.specs.Machine.{Monitor as AbstractMonitor}
use Rattle.monitor.specs.Feed.{feed_of}
use Rattle.examples.specs.Examples.{Example, judged}
use Rattle.witnesses.specs.Hex.{hex}
use Rattle.witnesses.specs.Rounds.{sent_at, sent_both, chart_p}
use Rattle.witnesses.specs.Feeds.{message, passes, pair, stored, Feed, feeding}

-- Charts like X17's, with a clock. The first message of the prechart has a cold condition, a term of clock 0:
abbrev pub cold_first : String → List ℕ
cold_first term = hex "10 02 01 20 00 01 00 01 30 00" ++ (hex term ++ hex "20 00 01 00 02 50 20 01 00 00 03 7F")

-- or a plain region after it has one, clock 0 ≥ 3
abbrev pub cold_second : List ℕ
cold_second = hex "10 02 01 20 00 01 00 01 21 00 01 30 00 03 00 00 00 03 20 00 01 00 02 50 20 01 00 00 03 7F"

-- The prechart has label 1 twice, the second time with clock 0 ≥ 3, cold.
abbrev pub label_twice : List ℕ
label_twice = hex "10 02 01 20 00 01 00 01 20 00 01 00 01 30 00 03 00 00 00 03 50 20 01 00 00 03 7F"

-- Neither of the prechart's two regions is above the other: label 1 from 0 to 1, label 2 from 2 to 3.
abbrev pub apart : List ℕ
apart = hex "10 04 00 20 00 01 00 01 20 02 03 00 02 50 20 03 00 00 03 7F"

-- Logs with second offers, and logs without, where one could be thought of.
abbrev pub offers : List Example
offers =
    -- label 1 twice: dropped, and in the prechart again; three times, then labels 2 and 3: kept after two drops
    judged chart_p (sent_at "00 00 00 05" ++ sent_at "00 00 00 06") 1 0 1 2 0 0 0 0
    ∷ judged chart_p
    (sent_at "00 00 00 05"
    ++ (sent_at "00 00 00 06" ++ (sent_both "00 00 00 07" "00 00 00 08" ++ hex "01 01 00 00 03 00 00 00 09")))
    0 1 2 5 0 0 0 0
    -- each record is counted once: label 1 in the main chart breaks, at record 4
    ∷ judged chart_p (sent_at "00 00 00 05" ++ (sent_both "00 00 00 06" "00 00 00 07" ++ sent_at "00 00 00 08"))
    3 0 1 4 4 1 0 0
    -- label 3 fits no opening region; label 2 twice, with nothing fired before
    ∷ judged chart_p (sent_at "00 00 00 05" ++ hex "01 01 00 00 03 00 00 00 06") 0 0 1 2 0 0 0 0
    ∷ judged chart_p (hex "01 00 01 00 02 00 00 00 05 01 00 01 00 02 00 00 00 06") 0 0 2 2 0 0 0 0
    -- clock 0 is 0 at the second offer: not ≥ 3, though it was 10, a second drop; but ≤ 5, though it was 20
    ∷ judged (cold_first "03 00 00 00 03") (sent_at "00 00 00 03" ++ sent_at "00 00 00 0A") 0 0 2 2 0 0 0 0
    ∷ judged (cold_first "01 00 00 00 05") (sent_at "00 00 00 04" ++ sent_at "00 00 00 14") 1 0 1 2 0 0 0 0
    -- the plain region, after the message's has fired: a second drop
    ∷ judged cold_second (sent_at "00 00 00 03" ++ sent_at "00 00 00 0A") 0 0 2 2 0 0 0 0
    -- a condition drops the round, and region 1 doesn't get the record
    ∷ judged label_twice (sent_at "00 00 00 01" ++ sent_at "00 00 00 02") 0 0 1 2 0 0 0 0
    -- the higher of two opening regions
    ∷ judged apart (hex "01 02 03 00 02 00 00 00 05 01 02 03 00 02 00 00 00 06") 1 0 1 2 0 0 0 0
    ∷ []

-- What is answered: the second offer's answer, with its cause.
abbrev pub offered : List Feed
offered =
    -- it moves; the message's condition fails; the plain region's fails
    feeding chart_p (stored 1 0 5 1 0 0) (message 0 1 1 6) (Ok answer.Moved) 5
    ∷ feeding (cold_first "03 00 00 00 03") (stored 1 0 3 1 0 0) (message 0 1 1 10) (Ok (answer.Dropped (pair 1 1))) 3
    ∷ feeding cold_second (stored 3 0 3 1 0 0) (message 0 1 1 10) (Ok (answer.Dropped (pair 2 1))) 3
    -- no second offer: label 3 does not fit; a condition fails; the main chart
    ∷ feeding chart_p (stored 1 0 5 1 0 0) (message 1 0 3 6) (Ok (answer.Dropped (pair 0 0))) 3
    ∷ feeding label_twice (stored 1 0 1 1 0 0) (message 0 1 1 2) (Ok (answer.Dropped (pair 2 1))) 3
    ∷ feeding chart_p (stored 3 0 5 2 0 0) (message 0 1 1 6) (Ok (answer.Broken 3 1 (pair 0 0))) 1
    ∷ []

-- a monitor without a break, its clocks at 0: the fired regions as a set, now, the records, the rounds kept and dropped
abbrev pub counted_by : ℕ → ℕ → ℕ → ℕ → ℕ → Monitor
counted_by fired now records kept dropped =
    record {
      place = record { fired = fired; resets = replicate most_clocks (record { 0 = 0 }) };
      tally = record {
        now = record { 0 = now };
        records = records;
        kept = kept;
        dropped = dropped;
        broken = zero_break;
      };
    }

-- M10: at most twice as many rounds have ended as records came.
abbrev pub counts : List Feed
counts =
    -- without a record no round; with 4 records 8 rounds, kept or dropped; 9 are too many
    feeding chart_p (counted_by 0 0 0 0 0) (passes 5) (Ok answer.Quiet) 6
    ∷ feeding chart_p (counted_by 0 0 0 1 0) (passes 5) (Err Unfit) 21
    ∷ feeding chart_p (counted_by 0 0 0 0 1) (passes 5) (Err Unfit) 21
    ∷ feeding chart_p (counted_by 0 0 4 3 5) (passes 5) (Ok answer.Quiet) 6
    ∷ feeding chart_p (counted_by 0 0 4 3 6) (passes 5) (Err Unfit) 21
    ∷ feeding chart_p (counted_by 0 0 4 8 0) (passes 5) (Ok answer.Quiet) 6
    ∷ feeding chart_p (counted_by 0 0 4 0 9) (passes 5) (Err Unfit) 21
    -- the sum is exact: 4,294,967,296, not 0
    ∷ feeding chart_p (counted_by 0 0 4 4294967295 1) (passes 5) (Err Unfit) 21
    -- with 1,000,000 records 2,000,000 rounds, which leaves 23; one more is too many
    ∷ feeding chart_p (counted_by 0 0 1000000 1000000 1000000) (passes 5) (Err TooManyRecords) 23
    ∷ feeding chart_p (counted_by 0 0 1000000 1000000 1000001) (passes 5) (Err Unfit) 21
    ∷ []

-- A feed, and of the monitor after it: which of the first three regions are fired, clock 0's reset moment, the tally.
pub record Lead : Type 0 where
  pub chart : List ℕ
  pub monitor : Monitor
  pub fed : Record
  pub fired : List Bool
  pub reset : ℕ
  pub tally : Tally

abbrev pub next_of : Lead → AbstractMonitor
next_of e = (feed_of (read_chart e.chart).chart e.monitor e.fed).next

abbrev pub three_fired : AbstractMonitor → List Bool
three_fired m = m.place.fired 0 ∷ m.place.fired 1 ∷ m.place.fired 2 ∷ []

abbrev pub Leads : Lead → Type 0
Leads e =
    (three_fired (next_of e) ≡ e.fired) × ((next_of e).place.clocks 0 ≡ e.reset) × ((next_of e).tally ≡ e.tally)

-- After it: whether region 1 is fired, clock 0's reset moment, now, the records, the rounds kept and dropped. Regions 2
-- and 3 are not fired, and there is no break.
abbrev pub leading : List ℕ → Monitor → Record → Bool → ℕ → ℕ → ℕ → ℕ → ℕ → Lead
leading chart m e first reset now records kept dropped =
    record {
      chart = chart;
      monitor = m;
      fed = e;
      fired = first ∷ false ∷ false ∷ [];
      reset = reset;
      tally = record { now = now; records = records; kept = kept; dropped = dropped; broken = no_break };
    }

-- Where second offers lead.
abbrev pub leads : List Lead
leads =
    -- it moves: the drop is counted, and the record once; clock 0 runs from 20
    leading chart_p (stored 1 0 5 1 0 0) (message 0 1 1 6) true 0 6 2 0 1
    ∷ leading (cold_first "01 00 00 00 05") (stored 1 0 4 1 0 0) (message 0 1 1 20) true 20 20 2 0 1
    -- both drops are counted, also if 2 rounds had ended with 1 record: 4 with 2
    ∷ leading (cold_first "03 00 00 00 03") (stored 1 0 3 1 0 0) (message 0 1 1 10) false 10 10 2 0 2
    ∷ leading cold_second (stored 3 0 3 1 0 0) (message 0 1 1 10) false 10 10 2 0 2
    ∷ leading (cold_first "03 00 00 00 03") (counted_by 1 3 1 0 2) (message 0 1 1 10) false 10 10 2 0 4
    -- label 3 does not fit: one drop, and the next round opens at 20
    ∷ leading (cold_first "01 00 00 00 05") (stored 1 0 4 1 0 0) (message 1 0 3 20) false 20 20 2 0 1
    ∷ []
