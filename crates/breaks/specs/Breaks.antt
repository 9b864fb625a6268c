-- Whether a log breaks a chart (K1 to K4).
use Rattle.std.specs.Prelude.{cond, not, true, false, List, ℕ, eqb, Ok, Err}
use Rattle.model.specs.declared.Chart.{Chart}
use Rattle.chart_value.specs.WellFormed.{well_formed}
use Rattle.chart_value.specs.View.{chart_of}
use Rattle.chart_value.specs.Records.{logged}
use Rattle.rounds.specs.Machine.{Monitor as AbstractMonitor, after}
use Rattle.log_check.specs.declared.JudgeRefusal.TheVariants.{NotAChart, Log}
use Rattle.log_check.specs.Refusal.{Checked}
use Rattle.log_check.specs.Check.{check_log}
use Rattle.log_check.specs.Sound.{sound_records}
use Rattle.breaks.specs.Numbers.{BreakAnswer}

-- without a break: the first fault, or no
abbrev pub by_fault : Checked → BreakAnswer
by_fault (Ok n) = Ok false
by_fault (Err f) = Err (Log f)

-- yes if the monitor after the records before the first fault is broken
abbrev pub answer_by : AbstractMonitor → Checked → BreakAnswer
answer_by m x = cond (not (eqb m.tally.broken.at 0)) (Ok true) (by_fault x)

-- 20, then yes, the fault or no
unfoldable pub breaks_of : Chart → List ℕ → BreakAnswer
breaks_of c s =
    cond (not (well_formed c)) (Err NotAChart) (answer_by (after (chart_of c) (logged (sound_records s))) (check_log s))
