-- R4: the numbers of the reader's refusals.
use Rattle.std.specs.Prelude.{ℕ}
use Rattle.chart_command.specs.declared.Undecoded.{Undecoded}
use Rattle.chart_command.specs.declared.Undecoded.TheVariants as undecoded
use Rattle.chart_step.specs.declared.Refusal.{Refusal}
use Rattle.chart_step.specs.declared.Refusal.TheVariants.{CutShort, Unknown, Misplaced, Outside}
use Rattle.chart_step.specs.declared.Refusal.TheVariants.{Excess, Bare, HotAlone, Early, RestInPrechart}
use Rattle.chart_step.specs.declared.Refusal.TheVariants.{Unanchored, Mainless, Trailing}

abbrev pub refusal_number : Refusal → ℕ
refusal_number CutShort = 1
refusal_number Unknown = 2
refusal_number Misplaced = 3
refusal_number Outside = 4
refusal_number Excess = 5
refusal_number Bare = 6
refusal_number HotAlone = 7
refusal_number Early = 8
refusal_number RestInPrechart = 13
refusal_number Unanchored = 9
refusal_number Mainless = 10
refusal_number Trailing = 11

-- the highest of them
abbrev pub most_refusal : ℕ
most_refusal = 13

-- R4: 1 and 2, which decoding finds
abbrev pub refusal_of : Undecoded → Refusal
refusal_of undecoded.CutShort = CutShort
refusal_of undecoded.Unknown = Unknown
