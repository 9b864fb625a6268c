-- What the functions of this crate give, by the numbers of a compiled chart.
use Rattle.std.specs.Prelude.{Option, Some, None, Bool, cond, not, ◌&&◌, ◌||◌, List, ℕ, ◌-◌, ◌≤◌, eqb, ltb, get_or}
use Rattle.std.proofs.Math.Option.{Option as AbstractOption, none, some}
use Rattle.bitset.specs.Set.{contains, is_subset}
use Rattle.model.specs.declared.Moment.{Moment}
use Rattle.model.specs.declared.Place.{Place}
use Rattle.model.specs.Chart.{most_clocks}
use Rattle.base.specs.Lists.{some_below, first, on_found}
use Rattle.rounds.specs.Chart.{Chart}
use Rattle.rounds.specs.Machine.{Place as AbstractPlace, Move, fails, rests, fire, try_region, settle, unfired}
use Rattle.firing.specs.declared.settled.Failure.{Failure}
use Rattle.firing.specs.declared.settled.Settled.{Settled}
use Rattle.firing.specs.declared.Sought.{Sought}
use Rattle.firing.specs.declared.Sought.TheVariants.{Ready, Unready, Foreign}
use Rattle.firing.specs.Places.{moments_of, place_at}
use Rattle.layout.specs.View.{Words}

-- O5: region i is not fired, and those above it are; `above` has, for each region, the set of those above it
abbrev pub ready_by : List ℕ → ℕ → ℕ → Bool
ready_by above fired i = not (contains fired i) && is_subset (get_or above i 0) fired

-- what a search found, as the theory has it
abbrev pub found_of : Option ℕ → AbstractOption ℕ
found_of (Some i) = some i
found_of None = none

-- which regions have a message: a ready one; only some that are not ready; or none
unfoldable pub sought_by : List ℕ → List ℕ → ℕ → ℕ → ℕ → Sought
sought_by keys above count fired code = on_found (first count (λ i. eqb (get_or keys i 0) code && ready_by above fired i))
    (cond (some_below count (λ i. eqb (get_or keys i 0) code)) Unready Foreign) Ready

-- a clock's value at moment t; beyond the chart's clocks it is 0
abbrev pub value_at : ℕ → ℕ → List Moment → ℕ → ℕ
value_at clocks t resets c = cond (ltb c clocks) (t - moments_of resets c) 0

-- what the test of words assumes: at most eight clocks, and a compiled chart's words
pub record Testable (clocks : ℕ) (terms : List ℕ) : Type 0 where
  pub few : clocks ≤ most_clocks
  pub words : Words clocks terms

-- T12: the place after region i is fired at moment t, its clocks reset
abbrev pub fire_by : List ℕ → ℕ → Place → ℕ → AbstractPlace
fire_by resets t p i = record {
  fired = λ j. eqb j i || contains p.fired j;
  clocks = λ c. cond (contains (get_or resets i 0) c) t (moments_of p.resets c);
}

-- steps 3 and 4 at moment t, once the ready region i that has the message is found
abbrev pub taken_at : Chart → ℕ → AbstractPlace → ℕ → Move
taken_at C t p i = try_region C t p i (settle C t (unfired C (fire C t p i).fired) (fire C t p i))

-- how steps 3 and 4 ended
abbrev rest_of : Option Failure → AbstractPlace → Move
rest_of None p = rests p
rest_of (Some f) p = fails f.region f.term p

abbrev pub move_of : Settled → Move
move_of s = rest_of s.failure (place_at s.place)
