-- Rounds from their bytes to their rows: seven logs, each of one round, with all that is said of its last record.
use Rattle.std.specs.Prelude.{◌≡◌, List, [], ◌∷◌, ℕ, get_or}
use Rattle.std.proofs.Math.Option.{Option, none, some}
use Rattle.model.specs.declared.Cause.{Cause}
use Rattle.model.specs.declared.Chart.{Chart}
use Rattle.model.specs.declared.Record.{Record}
use Rattle.model.specs.declared.Verdict.{Verdict}
use Rattle.model.specs.Monitor.{no_cause, cause_of}
use Rattle.model.specs.Answers.{verdict_from}
use Rattle.chart_reader.specs.Read.{read_chart}
use Rattle.chart_reader.specs.Said.{accepted_as}
use Rattle.chart_value.specs.View.{chart_of}
use Rattle.log_clock.specs.Records.{records_in}
use Rattle.base.specs.Lists.{Snoc, ε, ◌▸◌}
use Rattle.rounds.specs.Chart.{Chart as Abstract}
use Rattle.rounds.specs.Rows.{LogRecord, Row, stands, chart_messages, Lawful, NoRow, Full, LawfulButLast, first_failing}
use Rattle.rounds.specs.Feeds.{condition_fails, Outcome, kept, dropped, broken}
use Rattle.rounds.specs.Feeds.{Ends, Answer, kept_now, dropped_now, broken_at}
use Rattle.rounds.specs.Machine.{after}
use Rattle.paper.specs.Runs.{Config, initial}
use Rattle.paper.specs.Taken.{Status, Taken, case_of, status_of}
use Rattle.chart_value.specs.Records.{log_record, logged}
use Rattle.judge.specs.Judge.{judge_of}
use Rattle.examples.specs.Examples.{chart_u}
use Rattle.witnesses.specs.Feeds.{undo, headings, references}
use Rattle.witnesses.specs.Offers.{cold_second}
use Rattle.witness_rounds.specs.Charts.{chart_a, chart_b}
use Rattle.witness_rounds.specs.Charts.{ask, pass, answer, load, check, written}

-- the chart value that bytes give, and the chart of the theory that it shows
abbrev pub value_of : List ℕ → Chart
value_of bytes = (read_chart bytes).chart

abbrev pub theory : List ℕ → Abstract
theory bytes = chart_of (value_of bytes)

abbrev pub U : Abstract
U = theory chart_u

abbrev pub A : Abstract
A = theory chart_a

abbrev pub B : Abstract
B = theory chart_b

-- Chart D: 0 press; 1 plain, on line 0, cold: clock 0 ≥ 3; 2 label 2, 0 to 1; the main chart: 3 done
abbrev pub D : Abstract
D = theory cold_second

-- the bytes of a chart and of these records give this verdict
abbrev pub Judged : List ℕ → Snoc Record → Verdict → Type 0
Judged chart s v = judge_of (value_of chart) (written s []) ≡ record { number = 0; offset = 0; verdict = v }

-- exactly the regions of this row are fired, and the clocks have these values
abbrev pub config_of : Row → List ℕ → Config
config_of row clocks = record { cut = stands row; valuation = λ x. get_or clocks x 0 }

abbrev pub status_as : Config → ℕ → ℕ → ℕ → ℕ → ℕ → ℕ → Cause → Status
status_as config now n k d break reason x =
    record {
      config = config;
      tally = record {
        now = now;
        records = n;
        kept = k;
        dropped = d;
        broken = record { at = break; reason = reason; cause = x };
      };
    }

-- After the records s, record e is taken by the case of this number, with this status after it and this answer. The
-- cases: 0 passes, 1 moves, 2 enters, 3 keeps, 4 fails cold, 5 fails hot, 6 unmatched in the prechart, 7 in the main
-- chart; 8 to 14 are 1 to 7 by the second offer, of which 8 and 11 can be (T34).
abbrev pub TakenBy : ℕ → Abstract → Snoc Record → Record → Status → Answer → Type 0
TakenBy n C s e y a = (T : Taken C (status_of C (after C (logged s))) (log_record e) y a) × (case_of C T ≡ n)

-- a log of one round, opened at moment 0
pub record Round : Type 0 where
  pub chart : List ℕ
  pub before : Snoc Record
  pub last : Record
  -- the row of the records before the last; the row with the last, its conditions waived if one fails; and that region
  -- with its first failing term
  pub row : Row
  pub whole : Row
  pub failing : Option Cause
  pub outcome : Outcome
  -- the last record's case in `Taken`, its answer and the status after it; and the verdict over the log
  pub case : ℕ
  pub ans : Answer
  pub status : Status
  pub verdict : Verdict

-- The row with the last record: lawful and with every region; or, where there is no lawful one, lawful with the
-- conditions at the last record waived, and x is the first region in it whose condition fails, with its term.
abbrev pub RowOf : Abstract → Snoc LogRecord → LogRecord → Row → Option Cause → Type 0
RowOf C s e r none = Lawful C 0 (s ▸ e) r × Full C (stands r)
RowOf C s e r (some x) =
    NoRow C 0 (s ▸ e) × LawfulButLast C 0 s e r × (first_failing C 0 (chart_messages C (s ▸ e)) r ≡ some x)

-- what the fields of a round say is true
pub record RoundShown (g : Round) : Type 0 where
  pub chart_read : read_chart g.chart ≡ accepted_as (value_of g.chart)
  pub log_read : records_in (written (g.before ▸ g.last) []) ≡ g.before ▸ g.last
  pub judged : Judged g.chart (g.before ▸ g.last) g.verdict
  pub row_before : Lawful (theory g.chart) 0 (logged g.before) g.row
  pub row_with : RowOf (theory g.chart) (logged g.before) (log_record g.last) g.whole g.failing
  pub ends : Ends (theory g.chart) 0 (logged g.before) (log_record g.last) g.outcome
  pub taken : TakenBy g.case (theory g.chart) g.before g.last g.status g.ans

-- X3: undo is region 0, headings 1, references 2
abbrev pub round_u : Round
round_u = record {
  chart = chart_u;
  before = ε ▸ undo 100 ▸ references 120;
  last = headings 140;
  row = ε ▸ 0 ▸ 2;
  whole = ε ▸ 0 ▸ 2 ▸ 1;
  failing = none;
  outcome = kept;
  case = 3;
  ans = kept_now;
  status = status_as initial 140 3 1 0 0 0 no_cause;
  verdict = verdict_from 0 1 0 3 0 0 0 0;
}

-- chart A, all in time
abbrev pub kept_a : Round
kept_a = record {
  chart = chart_a;
  before = ε ▸ ask 10 ▸ pass 20;
  last = answer 40;
  row = ε ▸ 0 ▸ 1 ▸ 2;
  whole = ε ▸ 0 ▸ 1 ▸ 2 ▸ 3 ▸ 4 ▸ 5;
  failing = none;
  outcome = kept;
  case = 3;
  ans = kept_now;
  status = status_as initial 40 3 1 0 0 0 no_cause;
  verdict = verdict_from 0 1 0 3 0 0 0 0;
}

-- passed on a tick late: region 2, plain and cold, fails by its first term; the verdict has nothing of a drop
abbrev pub dropped_a : Round
dropped_a = record {
  chart = chart_a;
  before = ε ▸ ask 10;
  last = pass 21;
  row = ε ▸ 0;
  whole = ε ▸ 0 ▸ 1 ▸ 2;
  failing = some (cause_of 2 1);
  outcome = dropped (cause_of 2 1);
  case = 4;
  ans = dropped_now (cause_of 2 1);
  status = status_as initial 21 2 0 1 0 0 no_cause;
  verdict = verdict_from 0 0 1 2 0 0 0 0;
}

-- answered a tick late: region 4, plain and hot, fails, after region 3; the verdict counts it from 1
abbrev pub broken_a : Round
broken_a = record {
  chart = chart_a;
  before = ε ▸ ask 10 ▸ pass 20;
  last = answer 41;
  row = ε ▸ 0 ▸ 1 ▸ 2;
  whole = ε ▸ 0 ▸ 1 ▸ 2 ▸ 3 ▸ 4 ▸ 5;
  failing = some (cause_of 4 1);
  outcome = broken condition_fails (cause_of 4 1);
  case = 5;
  ans = broken_at 3 condition_fails (cause_of 4 1);
  status = status_as (config_of (ε ▸ 0 ▸ 1 ▸ 2 ▸ 3) (31 ∷ 21 ∷ [])) 41 3 0 0 3 condition_fails (cause_of 4 1);
  verdict = verdict_from 3 0 0 3 3 condition_fails 5 1;
}

-- chart B, all in time
abbrev pub kept_b : Round
kept_b = record {
  chart = chart_b;
  before = ε ▸ load 50;
  last = check 69;
  row = ε ▸ 0 ▸ 2;
  whole = ε ▸ 0 ▸ 2 ▸ 1 ▸ 3;
  failing = none;
  outcome = kept;
  case = 3;
  ans = kept_now;
  status = status_as initial 69 2 1 0 0 0 no_cause;
  verdict = verdict_from 0 1 0 2 0 0 0 0;
}

-- loaded a tick late: region 2, plain and cold, fails
abbrev pub dropped_b : Round
dropped_b = record {
  chart = chart_b;
  before = ε ▸ check 10;
  last = load 51;
  row = ε ▸ 1;
  whole = ε ▸ 1 ▸ 0 ▸ 2 ▸ 3;
  failing = some (cause_of 2 1);
  outcome = dropped (cause_of 2 1);
  case = 4;
  ans = dropped_now (cause_of 2 1);
  status = status_as initial 51 2 0 1 0 0 no_cause;
  verdict = verdict_from 0 0 1 2 0 0 0 0;
}

-- checked a tick late: region 3, plain and hot, fails, after region 1
abbrev pub broken_b : Round
broken_b = record {
  chart = chart_b;
  before = ε ▸ load 50;
  last = check 70;
  row = ε ▸ 0 ▸ 2;
  whole = ε ▸ 0 ▸ 2 ▸ 1 ▸ 3;
  failing = some (cause_of 3 1);
  outcome = broken condition_fails (cause_of 3 1);
  case = 5;
  ans = broken_at 2 condition_fails (cause_of 3 1);
  status = status_as (config_of (ε ▸ 0 ▸ 2 ▸ 1) (20 ∷ [])) 70 2 0 0 2 condition_fails (cause_of 3 1);
  verdict = verdict_from 3 0 0 2 2 condition_fails 4 1;
}
