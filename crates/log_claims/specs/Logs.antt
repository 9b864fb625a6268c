-- The first demand, of logs: what reading one record says, the records from the left at their moments, and the fault of
-- a record, case by case. A case says when it applies.
use Rattle.std.specs.Prelude.{◌≡◌, ◌≢◌, List, ℕ, ◌+◌, ◌-◌, ◌%◌, ◌≤◌, ◌<◌, length, get_or}
use Rattle.model.specs.declared.Record.{Record}
use Rattle.model.specs.declared.RawRecord.{RawRecord}
use Rattle.model.specs.declared.Stamp.{Stamp}
use Rattle.model.specs.Monitor.{time_of, stamp_of, at_moment}
use Rattle.model.specs.Answers.{time_falls, too_many_records, most_records}
use Rattle.base.specs.Lists.{Snoc, ε, ◌▸◌, size}
use Rattle.log_reader.specs.Record as found
use Rattle.log_reader.specs.Record.{cut_short, unknown_byte, message_tag, time_tag, message_size, time_size}
use Rattle.log_reader.specs.Record.{raw_message_tag, raw_time_tag, message_at, time_at, raw_message_at, raw_time_at}
use Rattle.log_clock.specs.declared.Kind.{Kind}
use Rattle.log_clock.specs.declared.Kind.TheVariants.{Unset, Plain, Raw}
use Rattle.log_clock.specs.Clock.{range, half_range, too_late, two_kinds}
use Rattle.log_clock.specs.TrueTimes.{shown_at}

-- Reading one record (E2 to E4): the end, if no byte is at the offset; otherwise 31 an unknown byte, 30 cut short, or
-- the record or raw record with the offset just after it.
pub data FindsAs (s : List ℕ) (at : ℕ) : found.Said → Type 0 where
  ends : length s ≤ at → FindsAs s at (found.end at)
  unknown : at < length s → get_or s at 0 ≢ message_tag → get_or s at 0 ≢ time_tag → get_or s at 0 ≢ raw_message_tag
      → get_or s at 0 ≢ raw_time_tag → FindsAs s at (found.refused unknown_byte at)
  message_cut : get_or s at 0 ≡ message_tag → length s < at + message_size → FindsAs s at (found.refused cut_short at)
  time_cut : get_or s at 0 ≡ time_tag → length s < at + time_size → FindsAs s at (found.refused cut_short at)
  raw_message_cut : get_or s at 0 ≡ raw_message_tag → length s < at + message_size → FindsAs s at (found.refused cut_short at)
  raw_time_cut : get_or s at 0 ≡ raw_time_tag → length s < at + time_size → FindsAs s at (found.refused cut_short at)
  message : get_or s at 0 ≡ message_tag → at + message_size ≤ length s
      → FindsAs s at (found.handed (message_at s at) (at + message_size))
  time : get_or s at 0 ≡ time_tag → at + time_size ≤ length s → FindsAs s at (found.handed (time_at s at) (at + time_size))
  raw_message_case : get_or s at 0 ≡ raw_message_tag → at + message_size ≤ length s
      → FindsAs s at (found.handed_raw (raw_message_at s at) (at + message_size))
  raw_time_case : get_or s at 0 ≡ raw_time_tag → at + time_size ≤ length s
      → FindsAs s at (found.handed_raw (raw_time_at s at) (at + time_size))

-- L8, L10: the counter shows `from`, and g ticks later `to`; it begins again after the last of its range
abbrev pub Ticks : Stamp → ℕ → Stamp → Type 0
Ticks from g to = (from.0 + g) % range ≡ to.0 % range

-- The record at an offset, at its moment (L9 to L12), after records of a kind, the last of them at the moment
-- `last`; with it, the log's kind then and the offset just after it. A plain record has its own moment, which is not
-- below the last. The first raw one is at moment 0; every later one at the last moment and the ticks since the record
-- before, fewer than half the range.
pub data ComesAs (s : List ℕ) (at last : ℕ) : Kind → Record → Kind → ℕ → Type 0 where
  first_plain : (e : Record) (past : ℕ) → FindsAs s at (found.handed e past) → ComesAs s at last Unset e Plain past
  plain : (e : Record) (past : ℕ) → FindsAs s at (found.handed e past) → last ≤ (time_of e).0
      → ComesAs s at last Plain e Plain past
  first_raw : (e : RawRecord) (past : ℕ) → FindsAs s at (found.handed_raw e past)
      → ComesAs s at last Unset (at_moment e (record { 0 = 0 })) (Raw (stamp_of e)) past
  raw : (from : Stamp) (e : RawRecord) (past : ℕ) → FindsAs s at (found.handed_raw e past)
      → (g : ℕ) → Ticks from g (stamp_of e) → g < half_range → last + g < range
      → ComesAs s at last (Raw from) (at_moment e (record { 0 = last + g })) (Raw (stamp_of e)) past

-- Records from the left without a fault: the records at their moments, their kind, the offset after them and the last
-- one's moment.
pub data Walk (s : List ℕ) : Snoc Record → Kind → ℕ → ℕ → Type 0 where
  start : Walk s ε Unset 0 0
  step : {es : Snoc Record} {k : Kind} {at last : ℕ} → Walk s es k at last → (e : Record) (kind : Kind) (past : ℕ)
      → ComesAs s at last k e kind past → size es < most_records → Walk s (es ▸ e) kind past (time_of e).0

-- The fault of the record at an offset (J3, J11, J12), after records that were walked: 31 or 30; 32 if it is of the
-- other kind; 22 if its time falls, or the counter went half its range or more; 24 if its moment would need 33 bits; 23
-- if it is one too many.
pub data FaultAt (s : List ℕ) (es : Snoc Record) (at last : ℕ) : Kind → ℕ → Type 0 where
  no_record : (k : Kind) (f : ℕ) → FindsAs s at (found.refused f at) → FaultAt s es at last k f
  raw_in_plain : (e : RawRecord) (past : ℕ) → FindsAs s at (found.handed_raw e past)
      → FaultAt s es at last Plain two_kinds
  plain_in_raw : (from : Stamp) (e : Record) (past : ℕ) → FindsAs s at (found.handed e past)
      → FaultAt s es at last (Raw from) two_kinds
  falls : (e : Record) (past : ℕ) → FindsAs s at (found.handed e past) → (time_of e).0 < last
      → FaultAt s es at last Plain time_falls
  goes_back : (from : Stamp) (e : RawRecord) (past : ℕ) → FindsAs s at (found.handed_raw e past)
      → (g : ℕ) → Ticks from g (stamp_of e) → half_range ≤ g → g < range → FaultAt s es at last (Raw from) time_falls
  too_late_case : (from : Stamp) (e : RawRecord) (past : ℕ) → FindsAs s at (found.handed_raw e past)
      → (g : ℕ) → Ticks from g (stamp_of e) → g < half_range → range ≤ last + g → FaultAt s es at last (Raw from) too_late
  overflows : (k : Kind) (e : Record) (kind : Kind) (past : ℕ) → ComesAs s at last k e kind past
      → most_records ≤ size es → FaultAt s es at last k too_many_records

-- Raw records from the left with true times at which the counter showed their stamps (L13): the times, the records at
-- the times since `first`, and the offset after them.
pub data Stamped (s : List ℕ) (first : ℕ) : Snoc ℕ → Snoc Record → ℕ → Type 0 where
  none_stamped : Stamped s first ε ε 0
  one_stamped : {ts : Snoc ℕ} {es : Snoc Record} {at : ℕ} → Stamped s first ts es at → (e : RawRecord) (past : ℕ)
      → FindsAs s at (found.handed_raw e past) → (t : ℕ) → stamp_of e ≡ shown_at t
      → Stamped s first (ts ▸ t) (es ▸ at_moment e (record { 0 = t - first })) past
