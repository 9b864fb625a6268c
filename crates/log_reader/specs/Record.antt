-- One record of a log's bytes, read at an offset (L1, L2, L7, E1 to E5).
use Rattle.std.specs.Prelude.{ℕ, ◌+◌, List, get_or, Result, Ok, Err}
use Rattle.wire.specs.Bytes.{word16, word32}
use Rattle.model.specs.declared.Record.{Record}
use Rattle.model.specs.declared.Record.TheVariants.{Message, Time}
use Rattle.model.specs.declared.Message.{Message as Parts}
use Rattle.model.specs.declared.RawRecord.{RawRecord}
use Rattle.model.specs.declared.RawRecord.TheVariants as raw
use Rattle.log_reader.specs.declared.RecordRefusal.{RecordRefusal}
use Rattle.log_reader.specs.declared.RecordRefusal.TheVariants.{CutShort, UnknownByte}
use Rattle.log_reader.specs.declared.Next.{Next}
use Rattle.log_reader.specs.declared.Next.TheVariants.{End, Handed, Raw}

-- N9: a record cut short, an unknown record byte
abbrev pub cut_short : ℕ
cut_short = 30

abbrev pub unknown_byte : ℕ
unknown_byte = 31

abbrev pub record_refusal_number : RecordRefusal → ℕ
record_refusal_number CutShort = cut_short
record_refusal_number UnknownByte = unknown_byte

abbrev pub message_tag : ℕ
message_tag = 0x01

abbrev pub time_tag : ℕ
time_tag = 0x02

-- L7: the same with a raw stamp
abbrev pub raw_message_tag : ℕ
raw_message_tag = 0x03

abbrev pub raw_time_tag : ℕ
raw_time_tag = 0x04

-- L1: a message record
abbrev pub message_size : ℕ
message_size = 9

abbrev pub parts_at : List ℕ → ℕ → Parts
parts_at s at = record { source = get_or s (at + 1) 0; destination = get_or s (at + 2) 0; label = word16 s (at + 3) }

abbrev pub message_at : List ℕ → ℕ → Record
message_at s at = Message (parts_at s at) (record { 0 = word32 s (at + 5) })

-- L2: a record of time
abbrev pub time_size : ℕ
time_size = 5

abbrev pub time_at : List ℕ → ℕ → Record
time_at s at = Time (record { 0 = word32 s (at + 1) })

-- L7: where a record has its time, a raw one has its stamp
abbrev pub raw_message_at : List ℕ → ℕ → RawRecord
raw_message_at s at = raw.Message (parts_at s at) (record { 0 = word32 s (at + 5) })

abbrev pub raw_time_at : List ℕ → ℕ → RawRecord
raw_time_at s at = raw.Time (record { 0 = word32 s (at + 1) })

-- what reading at an offset comes to: what stands there, or why no record is handed out
abbrev pub RecordRead : Type 0
RecordRead = Result Next RecordRefusal

-- What reading one record says, in numbers: the end, with the offset; a refusal, 30 or 31, with the offset; or a
-- record or raw record, with the offset just after it.
pub data Said : Type 0 where
  end : ℕ → Said
  refused : ℕ → ℕ → Said
  handed : Record → ℕ → Said
  handed_raw : RawRecord → ℕ → Said

abbrev pub said : ℕ → RecordRead → Said
said at (Ok End) = end at
said at (Err k) = refused (record_refusal_number k) at
said at (Ok (Handed r past)) = handed r past
said at (Ok (Raw r past)) = handed_raw r past
