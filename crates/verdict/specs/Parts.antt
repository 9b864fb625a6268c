-- The standing and the verdict of a stored monitor, for the functions that compute them.
use Rattle.std.specs.Prelude.{cond, not, ℕ, eqb}
use Rattle.bitset.specs.Set.{contains}
use Rattle.model.specs.declared.Chart.{Chart}
use Rattle.model.specs.declared.Monitor.{Monitor}
use Rattle.model.specs.declared.Verdict.{Verdict}
use Rattle.base.specs.Lists.{all_below}
use Rattle.stepping.specs.Monitors.{tally_at}
use Rattle.resting.specs.Rest.{rests}
use Rattle.verdict.specs.Verdict.{broken, nothing_fired, in_prechart, owed, resting, verdict_with}

-- `standing_of`, by the set of fired regions
unfoldable pub standing_by : Chart → Monitor → ℕ
standing_by c m =
    cond (not (eqb m.tally.broken.at 0)) broken
    (cond (eqb m.place.fired 0) nothing_fired
    (cond (not (all_below c.prechart (contains m.place.fired))) in_prechart
    (cond (rests c (contains m.place.fired)) resting owed)))

-- `verdict_of`, likewise
abbrev pub verdict_by : Chart → Monitor → Verdict
verdict_by c m = verdict_with (standing_by c m) (tally_at m.tally)
