-- The standing and the verdict of a monitor (J6 to J8, J13).
use Rattle.std.specs.Prelude.{cond, not, ℕ, eqb}
use Rattle.model.specs.declared.Chart.{Chart}
use Rattle.model.specs.declared.Verdict.{Verdict}
use Rattle.model.specs.Answers.{verdict_from}
use Rattle.base.specs.Lists.{all_below}
use Rattle.chart_value.specs.View.{chart_of}
use Rattle.resting.specs.Rest.{rests}
use Rattle.rounds.specs.Tally.{Tally}
use Rattle.rounds.specs.Machine.{Monitor as AbstractMonitor, prechart_done}

-- J8: the standing
abbrev pub broken : ℕ
broken = 3

abbrev pub nothing_fired : ℕ
nothing_fired = 0

abbrev pub in_prechart : ℕ
in_prechart = 1

abbrev pub owed : ℕ
owed = 2

-- J13: owed, at a place where it may rest
abbrev pub resting : ℕ
resting = 4

unfoldable pub standing_of : Chart → AbstractMonitor → ℕ
standing_of c m =
    cond (not (eqb m.tally.broken.at 0)) broken
    (cond (all_below c.count (λ i. not (m.place.fired i))) nothing_fired
    (cond (not (prechart_done (chart_of c) m.place.fired)) in_prechart
    (cond (rests c m.place.fired) resting owed)))

-- J6: the verdict, by the standing and the counts
abbrev pub verdict_with : ℕ → Tally → Verdict
verdict_with standing t =
    verdict_from standing t.kept t.dropped t.records t.broken.at t.broken.reason
    t.broken.cause.region t.broken.cause.term

abbrev pub verdict_of : Chart → AbstractMonitor → Verdict
verdict_of c m = verdict_with (standing_of c m) m.tally
