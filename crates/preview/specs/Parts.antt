-- A region's byte from the compiled chart.
use Rattle.std.specs.Prelude.{cond, ℕ, eqb}
use Rattle.model.specs.declared.Moment.{Moment}
use Rattle.model.specs.declared.Monitor.{Monitor}
use Rattle.rounds.specs.Chart.{Chart}
use Rattle.rounds.specs.Machine.{feed}
use Rattle.stepping.specs.Answers.{told_number}
use Rattle.stepping.specs.Monitors.{monitor_at, record_of}

-- by the region's key; 0 is a plain region's
unfoldable pub shown_by : Chart → Monitor → Moment → ℕ → ℕ
shown_by C m t code = cond (eqb code 0) 0 (told_number (feed C (monitor_at m) (record_of code t.0)).answer)
