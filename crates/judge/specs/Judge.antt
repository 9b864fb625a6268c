-- Judging a whole log (J1 to J6): 20, then the whole log checked, then each record fed. It is computed in one pass; that
-- all are checked before one is fed is said of what comes out.
use Rattle.std.specs.Prelude.{cond, not, List, ℕ, Ok, Err}
use Rattle.model.specs.declared.Chart.{Chart}
use Rattle.model.specs.Answers.{not_a_chart, zero_verdict}
use Rattle.chart_value.specs.WellFormed.{well_formed}
use Rattle.chart_value.specs.View.{chart_of}
use Rattle.rounds.specs.Machine.{after}
use Rattle.chart_value.specs.Records.{logged}
use Rattle.log_clock.specs.Records.{records_in}
use Rattle.log_check.specs.Refusal.{log_refusal_number, Checked}
use Rattle.log_check.specs.Check.{check_log}
use Rattle.verdict.specs.Verdict.{verdict_of}
use Rattle.judge.specs.Said.{Said}

-- the verdict over a log that was checked: its records, fed one after the other to a fresh monitor
abbrev pub by_check : Chart → List ℕ → Checked → Said
by_check c s (Ok n) =
    record { number = 0; offset = 0; verdict = verdict_of c (after (chart_of c) (logged (records_in s))) }
by_check c s (Err f) = record { number = log_refusal_number f.why; offset = f.at; verdict = zero_verdict }

-- 20 at 0, then the faults of the log, all before a record is fed, then the verdict
unfoldable pub judge_of : Chart → List ℕ → Said
judge_of c s =
    cond (not (well_formed c)) (record { number = not_a_chart; offset = 0; verdict = zero_verdict })
    (by_check c s (check_log s))
