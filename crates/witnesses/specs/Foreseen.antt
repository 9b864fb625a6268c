-- What each region's message would be answered (F1 to F4), each line worked out by hand from the rules.
use Rattle.std.specs.Prelude.{◌≡◌, List, [], ◌∷◌, ℕ, length}
use Prim.Native.String.{String}
use Rattle.model.specs.declared.Monitor.{Monitor}
use Rattle.model.specs.Monitor.{zero_monitor}
use Rattle.chart_reader.specs.Read.{read_chart}
use Rattle.preview.specs.Preview.{preview_number, preview_of, buffer_of}
use Rattle.examples.specs.Examples.{chart_u}
use Rattle.witnesses.specs.Hex.{hex}
use Rattle.witnesses.specs.Rounds.{chart_p}
use Rattle.witnesses.specs.Feeds.{stored, plain_cold}
use Rattle.witnesses.specs.Offers.{cold_first, label_twice}
use Rattle.witnesses.specs.Asked.{cold_chart, hot_chart}

-- The chart that is read from some bytes, a monitor, a moment and a buffer; the number, and the buffer then.
pub record Preview : Type 0 where
  pub chart : List ℕ
  pub monitor : Monitor
  pub moment : ℕ
  pub before : List ℕ
  pub number : ℕ
  pub after : List ℕ

abbrev pub Previews : Preview → Type 0
Previews e =
    let c = (read_chart e.chart).chart in
    (preview_number (preview_of c e.monitor (record { 0 = e.moment }) (length e.before)) ≡ e.number)
    × (buffer_of c e.monitor (record { 0 = e.moment }) e.before ≡ e.after)

abbrev pub previewing : List ℕ → Monitor → ℕ → String → ℕ → String → Preview
previewing chart m t before number after = record {
  chart = chart;
  monitor = m;
  moment = t;
  before = hex before;
  number = number;
  after = hex after;
}

-- shown in a buffer of three bytes, or refused with it as it came
abbrev pub shown : List ℕ → Monitor → ℕ → String → Preview
shown chart m t after = previewing chart m t "A1 A2 A3" 0 after

abbrev pub refusal : List ℕ → Monitor → ℕ → ℕ → String → Preview
refusal chart m t number before = previewing chart m t before number before

abbrev pub previews : List Preview
previews =
    -- chart U afresh: undo enters the main chart, headings and references drop the round
    shown chart_u zero_monitor 0 "04 03 03"
    ∷ shown chart_u zero_monitor 4294967295 "04 03 03"
    -- after undo at 100: a second one breaks, whose region is fired; the others move until 140
    ∷ shown chart_u (stored 1 100 100 1 0 0) 100 "01 05 05"
    ∷ shown chart_u (stored 1 100 100 1 0 0) 120 "01 05 05"
    ∷ shown chart_u (stored 1 100 100 1 0 0) 140 "01 05 05"
    ∷ shown chart_u (stored 1 100 100 1 0 0) 141 "01 01 01"
    ∷ shown chart_u (stored 1 100 100 1 0 0) 150 "01 01 01"
    -- after references too, headings keep the round; references again would break it
    ∷ shown chart_u (stored 5 100 120 2 0 0) 140 "01 02 01"
    ∷ shown chart_u (stored 5 100 120 2 0 0) 141 "01 01 01"
    -- after a break: at any moment, with 1,000,000 records too
    ∷ shown chart_u (stored 1 100 110 2 2 1) 7 "01 01 01"
    ∷ shown chart_u (stored 1 100 110 1000000 2 1) 120 "01 01 01"
    -- a plain region shows 0; its cold condition decides the message's record, which is kept from 5 to 10
    ∷ previewing plain_cold zero_monitor 4 "A1 A2" 0 "03 00"
    ∷ previewing plain_cold zero_monitor 10 "A1 A2" 0 "02 00"
    ∷ previewing plain_cold zero_monitor 11 "A1 A2" 0 "03 00"
    -- after a break too
    ∷ previewing plain_cold (stored 0 0 5 1 1 1) 6 "A1 A2" 0 "01 00"
    -- a cold and a hot condition of the only region: kept at 5, then dropped and broken
    ∷ previewing cold_chart zero_monitor 5 "A1" 0 "02"
    ∷ previewing cold_chart zero_monitor 6 "A1" 0 "03"
    ∷ previewing hot_chart zero_monitor 5 "A1" 0 "02"
    ∷ previewing hot_chart zero_monitor 6 "A1" 0 "01"
    -- two regions with one message show the same, whichever it would fire: the first; then the second, from 3 on
    ∷ shown label_twice zero_monitor 2 "05 05 03"
    ∷ shown label_twice (stored 1 0 1 1 0 0) 2 "03 03 03"
    ∷ shown label_twice (stored 1 0 1 1 0 0) 3 "04 04 03"
    -- a second offer: label 1 again starts the next round; label 3 starts none
    ∷ shown chart_p (stored 1 0 5 1 0 0) 6 "05 04 03"
    -- one whose clock is 0 by then: a second drop; at the opening it moves from 3 on
    ∷ shown (cold_first "03 00 00 00 03") (stored 1 0 3 1 0 0) 10 "03 04 03"
    ∷ shown (cold_first "03 00 00 00 03") zero_monitor 2 "03 03 03"
    ∷ shown (cold_first "03 00 00 00 03") zero_monitor 3 "05 03 03"
    -- bytes after the regions' stay
    ∷ previewing chart_u zero_monitor 0 "A1 A2 A3 A4 A5" 0 "04 03 03 A4 A5"
    -- 20, before 21 and 12; the empty bytes are no chart
    ∷ refusal [] zero_monitor 0 20 "A1 A2 A3"
    ∷ refusal [] (stored 2 0 0 0 0 0) 0 20 ""
    -- 21, before 12: headings fired without undo
    ∷ refusal chart_u (stored 2 0 0 0 0 0) 0 21 "A1 A2 A3"
    ∷ refusal chart_u (stored 2 0 0 0 0 0) 0 21 "A1 A2"
    -- 12, before 22 and 23, and after a break
    ∷ refusal chart_u zero_monitor 0 12 "A1 A2"
    ∷ refusal chart_u zero_monitor 0 12 ""
    ∷ refusal chart_u (stored 1 100 100 1 0 0) 99 12 "A1 A2"
    ∷ refusal chart_u (stored 0 0 5 1000000 0 0) 5 12 "A1 A2"
    ∷ refusal chart_u (stored 1 100 110 2 2 1) 7 12 "A1 A2"
    -- 22: 99 is below 100; before 23
    ∷ refusal chart_u (stored 1 100 100 1 0 0) 99 22 "A1 A2 A3 A4"
    ∷ refusal chart_u (stored 0 0 5 1000000 0 0) 4 22 "A1 A2 A3"
    -- 23: after 1,000,000 records; one fewer leaves room
    ∷ refusal chart_u (stored 0 0 5 1000000 0 0) 5 23 "A1 A2 A3"
    ∷ shown chart_u (stored 0 0 5 999999 0 0) 5 "04 03 03"
    ∷ []
