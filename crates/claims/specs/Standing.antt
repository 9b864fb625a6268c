-- J8, J13: the standing by the row of a stretch that has no end.
use Rattle.std.specs.Prelude.{◌≡◌, ◌≢◌, ℕ}
use Rattle.base.specs.Lists.{ε}
use Rattle.model.specs.declared.Chart.{Chart}
use Rattle.resting.specs.Rest.{Rests}
use Rattle.rounds.specs.Rows.{Row, stands, PrechartDone}
use Rattle.chart_value.specs.View.{chart_of}
use Rattle.verdict.specs.Verdict.{nothing_fired, in_prechart, owed, resting}

-- 0 for an empty row, 1 if a prechart region is not in it; else 4 if each line that counts is cold, otherwise 2
pub data StandsAs (c : Chart) (r : Row) : ℕ → Type 0 where
  opens : r ≡ ε → StandsAs c r nothing_fired
  in_prechart_case : r ≢ ε → ¬ PrechartDone (chart_of c) (stands r) → StandsAs c r in_prechart
  owes : r ≢ ε → PrechartDone (chart_of c) (stands r) → ¬ Rests c (stands r) → StandsAs c r owed
  rests : r ≢ ε → PrechartDone (chart_of c) (stands r) → Rests c (stands r) → StandsAs c r resting
