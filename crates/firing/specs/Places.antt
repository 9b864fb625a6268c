-- A stored place as the theory has it.
use Rattle.std.specs.Prelude.{List, ℕ, get_or}
use Rattle.bitset.specs.Set.{contains}
use Rattle.model.specs.declared.Moment.{Moment}
use Rattle.model.specs.declared.Place.{Place}
use Rattle.rounds.specs.Machine.{Place as AbstractPlace}

-- each clock's reset moment
abbrev pub moments_of : List Moment → ℕ → ℕ
moments_of l c = (get_or l c (record { 0 = 0 })).0

-- a stored place
abbrev pub place_at : Place → AbstractPlace
place_at p = record { fired = contains p.fired; clocks = moments_of p.resets }
