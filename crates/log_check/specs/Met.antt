-- A record as it is met from its bytes in a log of one kind, for the functions that compute it.
use Rattle.std.specs.Prelude.{◌≡◌, ℕ, ◌+◌, ◌-◌, ◌*◌, ◌/◌, ◌%◌, Bool, cond, ◌&&◌, ◌||◌, List, ◌==◌, nat_le, slice_index, Option, Some, None, Ok, Err}
use mathlib.Core.Path.{refl}
use Rattle.wire.specs.Bytes.{word16}
use Rattle.model.specs.declared.Moment.{Moment}
use Rattle.model.specs.Answers.{most_records}
use Rattle.model.specs.Monitor.{stamp_of}
use Rattle.log_reader.specs.Record.{RecordRead}
use Rattle.log_reader.specs.declared.Next.TheVariants as next
use Rattle.log_reader.specs.Record.{message_tag, raw_message_tag}
use Rattle.log_clock.specs.declared.Kind.{Kind}
use Rattle.log_clock.specs.declared.Kind.TheVariants.{Plain, Raw}
use Rattle.log_clock.specs.Clock.{range}
use Rattle.log_check.specs.Check.{CheckStep}
use Rattle.log_check.specs.Check.{Over, Going}
use Rattle.log_check.specs.declared.pace.Pace.{Pace}
use Rattle.log_check.specs.declared.MetRecord.{MetRecord}
use Rattle.log_check.specs.Refusal.{Checked}
use Rattle.log_check.specs.Check.{step_at}

-- the pace of a plain log, and of a raw one whose first stamp is o
abbrev pub plain_pace : Pace
plain_pace = record { message = message_tag; origin = 0; most = 0xFFFF_FFFF; paced = refl }

abbrev pub raw_pace : ℕ → Pace
raw_pace o = record { message = raw_message_tag; origin = o; most = 0x7FFF_FFFF; paced = refl }

-- the first record decides
abbrev pub pace_of : RecordRead → Pace
pace_of (Ok next.End) = plain_pace
pace_of (Err f) = plain_pace
pace_of (Ok (next.Handed e past)) = plain_pace
pace_of (Ok (next.Raw e past)) = raw_pace (stamp_of e).0

-- the kind of the log at a moment, by the byte of its messages and the time or stamp at which it counts moment 0
abbrev pub kind_by : ℕ → ℕ → Moment → Kind
kind_by message origin last = cond (message == raw_message_tag) (Raw (record { 0 = (last.0 + origin) % range })) Plain

abbrev pub kind_in : Pace → Moment → Kind
kind_in p last = kind_by p.message p.origin last

-- a record may come at t after one at `last`
abbrev pub in_time : Pace → Moment → Moment → Bool
in_time p last t = nat_le last.0 t.0 && nat_le (t.0 - last.0) p.most

-- a record without a fault, or none
abbrev pub Met : Type 0
Met = Option MetRecord

abbrev pub met_record : ℕ → Moment → ℕ → Met
met_record code t past = Some (record { code = code; time = t; past = past })

abbrev pub met_if : Pace → Moment → ℕ → ℕ → Moment → ℕ → Met
met_if p last n code t past = cond (in_time p last t) (cond (nat_le most_records n) None (met_record code t past)) None

-- the message's code, by the four bytes of its lines and label: the lower half above the upper one
abbrev pub code_of : ℕ → ℕ
code_of parts = parts % 65536 * 65536 + parts / 65536 + 1

-- a message or a raw message stands at the offset; its code, and 0 for a record of time
abbrev pub is_message : List ℕ → ℕ → Bool
is_message s at = slice_index s at == message_tag || slice_index s at == raw_message_tag

abbrev pub code_at : List ℕ → ℕ → ℕ
code_at s at = cond (is_message s at) (word16 s (at + 3) * 65536 + word16 s (at + 1) + 1) 0

-- what the check says of the record, without the fault
abbrev pub met_by : ℕ → CheckStep → Met
met_by code (Over c) = None
met_by code (Going past k t n) = met_record code t past

abbrev pub met_at : List ℕ → ℕ → Pace → Moment → ℕ → Met
met_at s at p last n = met_by (code_at s at) (step_at s at (kind_in p last) last n)

-- a record that the check takes leaves the log's kind as the pace has it
abbrev pub Steady : List ℕ → ℕ → Pace → Moment → ℕ → Type 0
Steady s at p last n = (q : ℕ) (k : Kind) (t : Moment) (m : ℕ)
    → step_at s at (kind_in p last) last n ≡ Going q k t m → k ≡ kind_in p t

-- how the check ends at a record that it does not take
abbrev pub ended_by : ℕ → CheckStep → Checked
ended_by n (Over c) = c
ended_by n (Going past k t m) = Ok n
