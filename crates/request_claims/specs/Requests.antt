-- How the operations that were asked for later stand to the ones before, on one page.
use Rattle.std.specs.Prelude.{◌≡◌, ◌≢◌, ◌↔◌, true, List, ℕ, Ok}
use Rattle.model.specs.declared.Chart.{Chart}
use Rattle.model.specs.declared.Monitor.{Monitor}
use Rattle.model.specs.declared.Record.{Record}
use Rattle.chart_reader.specs.Said.{accepted_as}
use Rattle.chart_reader.specs.Read.{read_chart}
use Rattle.chart_value.specs.Given.{Given}
use Rattle.chart_value.specs.Writer.{chart_bytes}
use Rattle.chart_value.specs.Marks.{Alike}
use Rattle.rounds.specs.Feeds.{Answer as AbstractAnswer}
use Rattle.judge.specs.Said as judge
use Rattle.breaks.specs.Numbers.{BreakAnswer, break_number, break_offset}
use Rattle.feed_claims.specs.Feeds.{FeedsAs}
use Rattle.claims.specs.Demand1.{JudgesAs}
use Rattle.break_claims.specs.Breaks.{BreaksAs}
use Rattle.request_claims.specs.Marks.{SaidAlike}

pub record Requests : Type 0 where
  -- K5: of a log that judging accepts the answer is yes exactly if its verdict has a break
  pub breaks_judged : (c : Chart) (log : List ℕ) (r : judge.Said) (b : BreakAnswer) → JudgesAs c log r → BreaksAs c log b
      → r.number ≡ 0 → (b ≡ Ok true) ↔ (r.verdict.broken ≢ 0)
  -- and where the answer is not yes, number and offset are those that judging has
  pub breaks_refused : (c : Chart) (log : List ℕ) (r : judge.Said) (b : BreakAnswer) → JudgesAs c log r
      → BreaksAs c log b → b ≢ Ok true → (break_number b ≡ r.number) × (break_offset b ≡ r.offset)
  -- D5: the writer's bytes are read as the chart, and two charts are equal exactly if their bytes are
  pub saved_read : (c : Chart) → Given c → read_chart (chart_bytes c) ≡ accepted_as c
  pub bytes_tell : (c d : Chart) → Given c → Given d → (c ≡ d) ↔ (chart_bytes c ≡ chart_bytes d)
  -- J14: two charts that differ in their marks alone are fed alike, and judged alike but for standing 4 where the other
  -- has 2
  pub marks_fed : (c d : Chart) → Alike c d → Given c → Given d → (m : Monitor) (e : Record) (a : AbstractAnswer)
      (n : Monitor) → FeedsAs c m e a n → FeedsAs d m e a n
  pub marks_judged : (c d : Chart) → Alike c d → Given c → Given d → (log : List ℕ) (r s : judge.Said)
      → JudgesAs c log r → JudgesAs d log s → SaidAlike r s
