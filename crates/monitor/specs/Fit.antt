-- M10 as a test of the stored value, clause by clause; a monitor that fails it is refused with 21.
use Rattle.std.specs.Prelude.{Bool, true, false, not, ◌&&◌, ◌||◌, List, ℕ, ◌+◌, ◌*◌, ◌-◌, eqb, leb, ltb}
use Rattle.std.proofs.Math.Option.{Option, none, some}
use Rattle.bitset.specs.Set.{contains, within}
use Rattle.model.specs.declared.Moment.{Moment}
use Rattle.model.specs.declared.Place.{Place}
use Rattle.model.specs.declared.Cause.{Cause}
use Rattle.model.specs.declared.Break.{Break}
use Rattle.model.specs.declared.Tally.{Tally}
use Rattle.model.specs.declared.Monitor.{Monitor}
use Rattle.model.specs.Chart.{most_clocks}
use Rattle.model.specs.Answers.{most_records}
use Rattle.base.specs.Lists.{all_below}
use Rattle.rounds.specs.Chart.{Chart as Abstract}
use Rattle.rounds.specs.Feeds.{no_ready_region, condition_fails}
use Rattle.rounds.specs.Machine.{full, ready_plain}
use Rattle.firing.specs.Places.{moments_of}

-- each region above a fired one is fired
unfoldable pub closed_upward : Abstract → ℕ → Bool
closed_upward C fired =
    all_below C.regions
    (λ i. not (contains fired i) || all_below C.regions (λ a. not (C.above a i) || contains fired a))

abbrev pub is_none : Option ℕ → Bool
is_none none = true
is_none (some i) = false

-- there is a break, or no plain region is ready
unfoldable pub rests_unless_broken : Abstract → ℕ → ℕ → Bool
rests_unless_broken C fired break = not (eqb break 0) || is_none (ready_plain C (contains fired))

-- no reset moment is above now; that of a clock that the chart has not is 0
unfoldable pub moments_fit : ℕ → List Moment → ℕ → Bool
moments_fit clocks resets t =
    all_below most_clocks (λ k. leb (moments_of resets k) t && (ltb k clocks || eqb (moments_of resets k) 0))

-- no condition decided: region and term are 0
abbrev pub is_zero : Cause → Bool
is_zero x = eqb x.region 0 && eqb x.term 0

-- the region, counted from 1, is one of the chart's, and the term one of the region's
unfoldable pub cause_fits : Abstract → Cause → Bool
cause_fits C x =
    leb 1 x.region && (leb x.region C.regions
    && (leb 1 x.term && leb x.term (C.terms (x.region - 1))))

-- break, reason and cause are 0; or the break is 1 to records, with reason 1 and no cause, or with reason 2 and a cause
unfoldable pub break_fits : Abstract → ℕ → Break → Bool
break_fits C records b =
    eqb b.at 0 && (eqb b.reason 0 && is_zero b.cause)
    || leb 1 b.at && (leb b.at records
    && (eqb b.reason no_ready_region && is_zero b.cause || eqb b.reason condition_fails && cause_fits C b.cause))

-- records is not above 1,000,000, and the sum of kept and dropped is not above twice records
unfoldable pub counts_fit : Tally → Bool
counts_fit x = leb x.records most_records && leb (x.kept + x.dropped) (2 * x.records)

-- the place fits at moment t; `break` is the record of the break, or 0
unfoldable pub place_fits : Abstract → Place → ℕ → ℕ → Bool
place_fits C p t break =
    closed_upward C p.fired
    -- no bit is set beyond the regions
    && (within C.regions p.fired
    -- some region is not fired
    && (not (full C (contains p.fired))
    && (rests_unless_broken C p.fired break && moments_fit C.clocks p.resets t)))

-- the place, and then the tally
unfoldable pub fits : Abstract → Monitor → Bool
fits C m =
    place_fits C m.place m.tally.now.0 m.tally.broken.at
    && (counts_fit m.tally && break_fits C m.tally.records m.tally.broken)
