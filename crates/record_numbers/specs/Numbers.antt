-- V18: what reading one record returns and writes.
use Rattle.std.specs.Prelude.{ℕ, cond, List, [], ◌∷◌, ltb, length, Ok, Err}
use Rattle.wire.specs.Writing.{in_room}
use Rattle.model.specs.Answers.{too_short}
use Rattle.model.specs.declared.Message.{Message as Parts}
use Rattle.model.specs.declared.Record.{Record}
use Rattle.model.specs.declared.Record.TheVariants.{Message, Time}
use Rattle.model.specs.declared.RawRecord.{RawRecord}
use Rattle.model.specs.declared.RawRecord.TheVariants as raw
use Rattle.log_reader.specs.Record.{message_tag, time_tag, raw_message_tag, raw_time_tag, record_refusal_number}
use Rattle.log_reader.specs.Record.{RecordRead}
use Rattle.log_reader.specs.declared.Next.TheVariants.{End, Handed, Raw}

-- how many places of a buffer a record takes
abbrev pub record_places : ℕ
record_places = 6

-- kind, source, destination, label, time, and the place just after the record; a record of time has no message
abbrev pub message_numbers : ℕ → Parts → ℕ → ℕ → List ℕ
message_numbers kind m time past = kind ∷ m.source ∷ m.destination ∷ m.label ∷ time ∷ past ∷ []

abbrev pub time_numbers : ℕ → ℕ → ℕ → List ℕ
time_numbers kind time past = kind ∷ 0 ∷ 0 ∷ 0 ∷ time ∷ past ∷ []

-- the kind is the record's first byte, 1 to 4; the time of a raw record is its stamp
abbrev pub plain_numbers : ℕ → Record → List ℕ
plain_numbers past (Message m t) = message_numbers message_tag m t.0 past
plain_numbers past (Time t) = time_numbers time_tag t.0 past

abbrev pub raw_numbers : ℕ → RawRecord → List ℕ
raw_numbers past (raw.Message m s) = message_numbers raw_message_tag m s.0 past
raw_numbers past (raw.Time s) = time_numbers raw_time_tag s.0 past

-- V18: the numbers that are written: those of the record; at the end five zeros and the place as it came; for a
-- refusal none
abbrev pub record_numbers : ℕ → RecordRead → List ℕ
record_numbers at (Ok End) = time_numbers 0 0 at
record_numbers at (Err k) = []
record_numbers at (Ok (Handed r past)) = plain_numbers past r
record_numbers at (Ok (Raw r past)) = raw_numbers past r

-- 0, or the refusal's number, 30 or 31
abbrev pub next_number : RecordRead → ℕ
next_number (Ok End) = 0
next_number (Err k) = record_refusal_number k
next_number (Ok (Handed r past)) = 0
next_number (Ok (Raw r past)) = 0

-- V18, N9: 12 if out has fewer than 6 places, which then stay as they were
abbrev pub read_number : RecordRead → List ℕ → ℕ
read_number next out = cond (ltb (length out) record_places) too_short (next_number next)

abbrev pub read_out : ℕ → RecordRead → List ℕ → List ℕ
read_out at next out = in_room record_places (record_numbers at next) out
