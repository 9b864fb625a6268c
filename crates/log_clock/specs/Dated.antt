-- The record at an offset of a log's bytes, with its moment.
use Rattle.std.specs.Prelude.{ℕ, List, Option, Some, None, Result, Ok, Err}
use Rattle.model.specs.declared.Moment.{Moment}
use Rattle.model.specs.declared.Record.{Record}
use Rattle.model.specs.declared.RawRecord.{RawRecord}
use Rattle.model.specs.Monitor.{time_of, stamp_of, at_moment}
use Rattle.log_reader.specs.Record.{RecordRead}
use Rattle.log_reader.specs.declared.Next.TheVariants as next
use Rattle.log_reader.specs.Next.{next_at}
use Rattle.log_clock.specs.declared.Kind.{Kind}
use Rattle.log_clock.specs.declared.Kind.TheVariants as kind
use Rattle.log_clock.specs.declared.Dated.{Dated}
use Rattle.log_clock.specs.declared.Undated.{Undated}
use Rattle.log_clock.specs.declared.Undated.TheVariants.{NoRecord, NoMoment}
use Rattle.log_clock.specs.Clock.{Timed, plain_moment, raw_moment}

-- what stands at an offset with its moment: a record, nothing at the end, or why there is none
abbrev pub DatedRead : Type 0
DatedRead = Result (Option Dated) Undated

abbrev pub dated_record : Record → Kind → ℕ → DatedRead
dated_record e kind past = Ok (Some (record { item = e; kind = kind; past = past }))

-- a record and a raw record, by the moment found for it; the offset just after it is `past`
abbrev pub plain_by : Record → ℕ → Timed → DatedRead
plain_by e past (Ok t) = dated_record e kind.Plain past
plain_by e past (Err f) = Err (NoMoment f)

abbrev pub raw_by : RawRecord → ℕ → Timed → DatedRead
raw_by e past (Ok t) = dated_record (at_moment e t) (kind.Raw (stamp_of e)) past
raw_by e past (Err f) = Err (NoMoment f)

-- what was read, after records of a kind, the last of them at the moment `last`
abbrev pub dated_by : Kind → Moment → RecordRead → DatedRead
dated_by k last (Ok next.End) = Ok None
dated_by k last (Err f) = Err (NoRecord f)
dated_by k last (Ok (next.Handed e past)) = plain_by e past (plain_moment k (time_of e))
dated_by k last (Ok (next.Raw e past)) = raw_by e past (raw_moment k last (stamp_of e))

-- what stands at the offset, likewise: the end, a refusal, or a record at its moment, its kind and the offset after it
unfoldable pub dated_at : List ℕ → ℕ → Kind → Moment → DatedRead
dated_at s at k last = dated_by k last (next_at s at)
