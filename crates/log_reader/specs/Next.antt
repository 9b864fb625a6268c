-- The record at an offset, as it is computed (E2 to E4).
use Rattle.std.specs.Prelude.{ℕ, ◌+◌, cond, ◌||◌, List, get_or, length, eqb, leb, ltb, Ok, Err}
use Rattle.log_reader.specs.declared.RecordRefusal.TheVariants.{CutShort, UnknownByte}
use Rattle.log_reader.specs.declared.Next.TheVariants.{End, Handed, Raw}
use Rattle.log_reader.specs.Record.{message_tag, time_tag, raw_message_tag, raw_time_tag, message_size, time_size}
use Rattle.log_reader.specs.Record.{RecordRead, message_at, time_at, raw_message_at, raw_time_at}

-- a message, and a record of time, by the byte that tells whether it is plain or raw
abbrev pub message_next : List ℕ → ℕ → ℕ → RecordRead
message_next s at b =
    cond (ltb (length s) (at + message_size)) (Err CutShort)
    (cond (eqb b message_tag) (Ok (Handed (message_at s at) (at + message_size))) (Ok (Raw (raw_message_at s at) (at + message_size))))

abbrev pub time_next : List ℕ → ℕ → ℕ → RecordRead
time_next s at b =
    cond (ltb (length s) (at + time_size)) (Err CutShort)
    (cond (eqb b time_tag) (Ok (Handed (time_at s at) (at + time_size))) (Ok (Raw (raw_time_at s at) (at + time_size))))

-- E3: the byte picks the record
abbrev pub record_by : List ℕ → ℕ → ℕ → RecordRead
record_by s at b =
    cond (eqb b message_tag || eqb b raw_message_tag) (message_next s at b)
    (cond (eqb b time_tag || eqb b raw_time_tag) (time_next s at b) (Err UnknownByte))

-- E2 to E4: the end where no byte is left, else a refusal, or the record with the offset just after it
abbrev pub next_at : List ℕ → ℕ → RecordRead
next_at s at = cond (leb (length s) at) (Ok End) (record_by s at (get_or s at 0))
