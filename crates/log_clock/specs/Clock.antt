-- The moments of a log's records (L9 to L12): a plain record has its own, a raw one gets it from the stamps.
use Rattle.std.specs.Prelude.{ℕ, ◌+◌, ◌-◌, ◌%◌, cond, nat_le, Result, Ok, Err}
use Rattle.model.specs.declared.Moment.{Moment}
use Rattle.model.specs.declared.Stamp.{Stamp}
use Rattle.model.specs.Answers.{time_falls}
use Rattle.log_clock.specs.declared.Kind.{Kind}
use Rattle.log_clock.specs.declared.Kind.TheVariants as kind
use Rattle.log_clock.specs.declared.MomentRefusal.{MomentRefusal}
use Rattle.log_clock.specs.declared.MomentRefusal.TheVariants.{Mixed, Falls, TooLate}

-- N9: a moment that 32 bits do not hold, raw and plain records in one log
abbrev pub too_late : ℕ
too_late = 24

abbrev pub two_kinds : ℕ
two_kinds = 32

abbrev pub moment_refusal_number : MomentRefusal → ℕ
moment_refusal_number Mixed = two_kinds
moment_refusal_number Falls = time_falls
moment_refusal_number TooLate = too_late

-- L8: how many stamps there are; after the last comes the first
abbrev pub range : ℕ
range = 0x1_0000_0000

-- J11: a gap from here on is taken for a counter that went back
abbrev pub half_range : ℕ
half_range = 0x8000_0000

-- L10: the ticks from one stamp to another, round the wrap
abbrev pub gap_of : Stamp → Stamp → ℕ
gap_of from to = (to.0 + (range - from.0 % range)) % range

-- the moment of a record, or why it has none
abbrev pub Timed : Type 0
Timed = Result Moment MomentRefusal

-- L9, L12: a plain record has its time for its moment, after records of this kind
abbrev pub plain_moment : Kind → Moment → Timed
plain_moment kind.Unset time = Ok time
plain_moment kind.Plain time = Ok time
plain_moment (kind.Raw from) time = Err Mixed

-- J11, J12: the moment that is a gap after the last one
abbrev pub later_moment : Moment → ℕ → Timed
later_moment last gap =
    cond (nat_le half_range gap) (Err Falls)
    (cond (nat_le range (last.0 + gap)) (Err TooLate) (Ok (record { 0 = last.0 + gap })))

-- L9, L11: the moment of a raw stamp, after records of this kind, the last of them at the moment `last`
abbrev pub raw_moment : Kind → Moment → Stamp → Timed
raw_moment kind.Unset last to = Ok (record { 0 = 0 })
raw_moment kind.Plain last to = Err Mixed
raw_moment (kind.Raw from) last to = later_moment last (gap_of from to)
