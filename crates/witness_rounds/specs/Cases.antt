-- An instance of every case of the first demand's claims, of charts, monitors, records and logs, and of the standing.
use Rattle.std.specs.Prelude.{List, [], ◌∷◌, ℕ, zero, suc, Ok, Err}
use Rattle.model.specs.declared.Chart.{Chart}
use Rattle.model.specs.declared.Monitor.{Monitor}
use Rattle.model.specs.Chart.{zero_chart}
use Rattle.model.specs.Monitor.{no_cause, zero_monitor}
use Rattle.base.specs.Lists.{ε, ◌▸◌}
use Rattle.rounds.specs.Feeds.{refused, broken_at, entered}
use Rattle.chart_reader.specs.Said.{accepted_as}
use Rattle.log_reader.specs.Record as found
use Rattle.log_clock.specs.declared.Kind.{Kind}
use Rattle.log_clock.specs.declared.Kind.TheVariants.{Unset, Plain, Raw}
use Rattle.log_clock.specs.TrueTimes.{Passing}
use Rattle.examples.specs.Examples.{chart_u}
use Rattle.claims.specs.Standing.{StandsAs}
use Rattle.log_claims.specs.Logs.{FindsAs, ComesAs, Walk, Stamped}
use Rattle.feed_claims.specs.Feeds.{MakesAs, FeedsAs}
use Rattle.claims.specs.Demand1.{ReadsAs, refused_log, JudgesAs}
use Rattle.witnesses.specs.Hex.{hex}
use Rattle.witnesses.specs.Feeds.{passes as passed, undo, headings, references, stored}
use Rattle.witnesses.specs.Raw.{raw_message, raw_time}
use Rattle.witness_rounds.specs.Charts.{written}
use Rattle.model.specs.Answers.{verdict_from}
use Rattle.witness_rounds.specs.Rounds.{value_of}

-- chart U as a value
abbrev pub value_u : Chart
value_u = value_of chart_u

-- a chart with a place to rest: prechart a, b; main chart c, marked, and d; each from 0 to 1
abbrev pub value_rest : Chart
value_rest = value_of (hex "10 02 00 20 00 01 00 01 20 00 01 00 02 50 20 00 01 00 03 33 20 00 01 00 04 7F")

-- a log of n records of time 0
unfoldable pub ticks : ℕ → List ℕ
ticks zero = []
ticks (suc n) = 0x02 ∷ 0 ∷ 0 ∷ 0 ∷ 0 ∷ ticks n

-- a raw record of time, by its stamp's bytes, before more of the log
abbrev pub shown : ℕ → ℕ → ℕ → ℕ → List ℕ → List ℕ
shown a b c d rest = 0x04 ∷ a ∷ b ∷ c ∷ d ∷ rest

abbrev pub stamp : ℕ → Kind
stamp s = Raw (record { 0 = s })

pub record Cases : Type 0 where
  -- reading a chart: chart U, and no byte at all
  pub accepts : ReadsAs chart_u (accepted_as value_u)
  pub refuses : ReadsAs [] (record { number = 1; offset = 0; chart = zero_chart })
  -- making a monitor: of chart U, and of zeros, which no bytes give
  pub makes : MakesAs value_u (record { answer = Ok tt; monitor = zero_monitor })
  pub no_chart : MakesAs zero_chart (record { answer = Err (record {}); monitor = zero_monitor })
  -- feeding: no chart; every region fired; broken at record 2; a time below now; a record too many; undo is taken
  pub not_a_chart_case : FeedsAs zero_chart zero_monitor (undo 100) (refused 20) zero_monitor
  pub unfit : FeedsAs value_u (stored 7 0 0 3 0 0) (undo 100) (refused 21) (stored 7 0 0 3 0 0)
  pub broken_again : FeedsAs value_u (stored 1 0 110 2 2 1) (undo 120) (broken_at 2 1 no_cause) (stored 1 0 110 2 2 1)
  pub time_falls_case : FeedsAs value_u (stored 0 0 100 1 0 0) (undo 99) (refused 22) (stored 0 0 100 1 0 0)
  pub too_many : FeedsAs value_u (stored 0 0 100 1000000 0 0) (undo 100) (refused 23) (stored 0 0 100 1000000 0 0)
  pub takes : (n : Monitor) × FeedsAs value_u zero_monitor (undo 100) entered n
  -- one record: past the end; an unknown byte; a message and a time cut short, plain and raw; all four whole
  pub ends : FindsAs [] 3 (found.end 3)
  pub unknown : FindsAs (0x05 ∷ []) 0 (found.refused 31 0)
  pub message_cut : FindsAs (0x01 ∷ 0 ∷ 1 ∷ []) 0 (found.refused 30 0)
  pub time_cut : FindsAs (0x02 ∷ 0 ∷ []) 0 (found.refused 30 0)
  pub raw_message_cut : FindsAs (0x03 ∷ 0 ∷ 1 ∷ []) 0 (found.refused 30 0)
  pub raw_time_cut : FindsAs (0x04 ∷ 0 ∷ []) 0 (found.refused 30 0)
  pub message : FindsAs (written (ε ▸ undo 100) []) 0 (found.handed (undo 100) 9)
  pub time : FindsAs (written (ε ▸ passed 7) []) 0 (found.handed (passed 7) 5)
  pub raw_message_case : FindsAs (0x03 ∷ 0 ∷ 1 ∷ 0 ∷ 2 ∷ 0xff ∷ 0xff ∷ 0xff ∷ 0xff ∷ []) 0
      (found.handed_raw (raw_message 0 1 2 4294967295) 9)
  pub raw_time_case : FindsAs (shown 0 0 0 5 []) 0 (found.handed_raw (raw_time 5) 5)
  -- a record at its moment: the first of a plain log and a later one, the first of a raw log, and one that comes 6
  -- ticks after the moment 7, over the wrap
  pub first_plain : ComesAs (written (ε ▸ passed 7) []) 0 0 Unset (passed 7) Plain 5
  pub plain : ComesAs (written (ε ▸ passed 7) []) 0 5 Plain (passed 7) Plain 5
  pub first_raw : ComesAs (shown 0 0 0 5 []) 0 0 Unset (passed 0) (stamp 5) 5
  pub raw : ComesAs (shown 0 0 0 5 []) 0 7 (stamp 4294967295) (passed 13) (stamp 5) 5
  -- records from the left: none, and two
  pub start : Walk [] ε Unset 0 0
  pub step : Walk (written (ε ▸ undo 100 ▸ passed 110) []) (ε ▸ undo 100 ▸ passed 110) Plain 14 110
  -- true times: one; and three more after it, twice by the longest gap, up to the last moment
  pub begins : Passing 7 (ε ▸ 7) 7
  pub goes_on : Passing 7 (ε ▸ 7 ▸ 2147483654 ▸ 4294967301 ▸ 4294967302) 4294967302
  -- raw records with true times: none; and two, 11 ticks apart, between which the counter has begun again
  pub none_stamped : Stamped [] 7 ε ε 0
  pub one_stamped : Stamped (shown 0xff 0xff 0xff 0xfa (shown 0 0 0 5 [])) 4294967290 (ε ▸ 4294967290 ▸ 4294967301)
      (ε ▸ passed 0 ▸ passed 11) 10
  -- judging: no chart; an unknown byte after a record; a raw record after a plain one, and the reverse; a time that
  -- falls; a counter one back; a moment of 2^32; record 1,000,001; a verdict
  pub not_given : JudgesAs zero_chart [] (refused_log 20 0)
  pub no_record : JudgesAs value_u (written (ε ▸ passed 7) (0x05 ∷ [])) (refused_log 31 5)
  pub raw_in_plain : JudgesAs value_u (written (ε ▸ passed 7) (shown 0 0 0 7 [])) (refused_log 32 5)
  pub plain_in_raw : JudgesAs value_u (shown 0 0 0 7 (written (ε ▸ passed 7) [])) (refused_log 32 5)
  pub falls : JudgesAs value_u (written (ε ▸ undo 100 ▸ headings 99) []) (refused_log 22 9)
  pub goes_back : JudgesAs value_u (shown 0 0 0 7 (shown 0 0 0 6 [])) (refused_log 22 5)
  pub too_late_case : JudgesAs value_u
      (shown 0 0 0 0 (shown 0x7f 0xff 0xff 0xff (shown 0xff 0xff 0xff 0xfe (shown 0 0 0 0 [])))) (refused_log 24 15)
  pub overflows : JudgesAs value_u (ticks 1000001) (refused_log 23 5000000)
  pub judges : JudgesAs value_u (written (ε ▸ undo 100 ▸ references 120 ▸ headings 140) [])
      (record { number = 0; offset = 0; verdict = verdict_from 0 1 0 3 0 0 0 0 })
  -- the standing by the row: empty, a, a b, a b c
  pub opens : StandsAs value_rest ε 0
  pub in_prechart_case : StandsAs value_rest (ε ▸ 0) 1
  pub owes : StandsAs value_rest (ε ▸ 0 ▸ 1) 2
  pub rests : StandsAs value_rest (ε ▸ 0 ▸ 1 ▸ 2) 4
