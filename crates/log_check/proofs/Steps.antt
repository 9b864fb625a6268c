-- One record checked, from its bytes: a whole record of the log's kind is taken at its time or stamp, and anything else
-- is a fault. Assumes nothing.
use Rattle.std.proofs.Common.{◌≡◌, ℕ, ◌+◌, ◌<◌, ◌≤◌, Bool, true, false, ◌&&◌, eqb, leb, List, Ok, Err, length, get_or, refl, ap, ◌∙◌, arith, eqb-true, leb-true}
use Rattle.wire.specs.Bytes.{word32}
use Rattle.model.specs.declared.Moment.{Moment}
use Rattle.model.specs.declared.Stamp.{Stamp}
use Rattle.base.proofs.Bools.{and_left, and_right, clash}
use Rattle.log_reader.specs.Record.{RecordRead}
use Rattle.log_reader.specs.declared.Next.TheVariants as next
use Rattle.log_reader.specs.Record.{message_tag, time_tag, raw_message_tag, raw_time_tag, message_size, time_size}
use Rattle.log_reader.specs.Record.{raw_message_at, raw_time_at}
use Rattle.log_reader.specs.Next.{next_at}
use Rattle.log_reader.proofs.Offsets.{not_end}
use Rattle.log_reader.proofs.There.{is_handed, is_raw, message_read, time_read, raw_message_read, raw_time_read}
use Rattle.log_reader.proofs.There.{is_whole, no_plain, no_raw}
use Rattle.log_clock.specs.declared.Kind.{Kind}
use Rattle.log_clock.specs.declared.Kind.TheVariants.{Plain, Raw}
use Rattle.log_clock.specs.declared.MomentRefusal.TheVariants.{Mixed}
use Rattle.log_clock.specs.Clock.{Timed, raw_moment}
use Rattle.log_clock.specs.Dated.{raw_by, dated_by, dated_at}
use Rattle.log_check.specs.declared.LogRefusal.TheVariants.{NoRecord, NoMoment}
use Rattle.log_check.specs.Check.{CheckStep}
use Rattle.log_check.specs.Check.{Over}
use Rattle.log_check.specs.Refusal.{fault, Checked}
use Rattle.log_check.specs.Check.{take_record, step_by, step_at}

-- no record of the log's kind was read, and not the end
abbrev fault_by : ℕ → RecordRead → Checked
fault_by at (Ok next.End) = Err (fault (NoMoment Mixed) at)
fault_by at (Err f) = Err (fault (NoRecord f) at)
fault_by at (Ok (next.Handed e past)) = Err (fault (NoMoment Mixed) at)
fault_by at (Ok (next.Raw e past)) = Err (fault (NoMoment Mixed) at)

-- a raw record by the moment found for it, after n records, the last of them at the moment `last`
abbrev pub take_timed : Kind → ℕ → ℕ → Moment → ℕ → Timed → CheckStep
take_timed k past at last n (Ok t) = take_record k t past at last n
take_timed k past at last n (Err f) = Over (Err (fault (NoMoment f) at))

module _ (s : List ℕ) (at : ℕ) where
  -- a record with this byte and so many bytes stands there
  abbrev pub whole : ℕ → ℕ → Bool
  whole tag size = eqb (get_or s at 0) tag && leb (at + size) (length s)

  pub all_bytes : (tag size : ℕ) → whole tag size ≡ true → at + size ≤ length s
  all_bytes tag size w =
      leb-true (at + size) (length s) (and_right (eqb (get_or s at 0) tag) (leb (at + size) (length s)) w)

  inside : (tag size : ℕ) → 0 < size → whole tag size ≡ true → at < length s
  inside tag size z w = let h : at + size ≤ length s = all_bytes tag size w in omega (arith, z, h)

  tagged : (tag size : ℕ) → whole tag size ≡ true → get_or s at 0 ≡ tag
  tagged tag size w =
      eqb-true (get_or s at 0) tag (and_left (eqb (get_or s at 0) tag) (leb (at + size) (length s)) w)

  module _ (last : Moment) (n : ℕ) where
    pub plain_message : whole message_tag message_size ≡ true → step_at s at Plain last n
        ≡ take_record Plain (record { 0 = word32 s (at + 5) }) (at + message_size) at last n
    unfolding step_at dated_at
    plain_message w =
        ap (λ (x : RecordRead). step_by at last n (dated_by Plain last x))
        (message_read s at (inside message_tag message_size (omega arith) w) (tagged message_tag message_size w)
        ∙ is_whole s at message_size _ (all_bytes message_tag message_size w))

    pub plain_time : whole time_tag time_size ≡ true → step_at s at Plain last n
        ≡ take_record Plain (record { 0 = word32 s (at + 1) }) (at + time_size) at last n
    unfolding step_at dated_at
    plain_time w =
        ap (λ (x : RecordRead). step_by at last n (dated_by Plain last x))
        (time_read s at (inside time_tag time_size (omega arith) w) (tagged time_tag time_size w)
        ∙ is_whole s at time_size _ (all_bytes time_tag time_size w))

    pub plain_fault : at < length s → whole message_tag message_size ≡ false → whole time_tag time_size ≡ false
        → step_at s at Plain last n ≡ Over (fault_by at (next_at s at))
    unfolding step_at dated_at
    plain_fault h v w = by (next_at s at) refl (no_plain s at v w)
      where
        by : (x : RecordRead) → next_at s at ≡ x → is_handed x ≡ false
            → step_by at last n (dated_by Plain last x) ≡ Over (fault_by at x)
        by (Ok next.End) q z = absurd (not_end s at h q)
        by (Err f) q z = refl
        by (Ok (next.Handed e p)) q z = clash refl z
        by (Ok (next.Raw e p)) q z = refl

    -- a raw one, after a record with the stamp `from`
    module _ (from : Stamp) where
      abbrev pub rawly : ℕ → Stamp → CheckStep
      rawly past to = take_timed (Raw to) past at last n (raw_moment (Raw from) last to)

      message_timed : (x : Timed) → step_by at last n (raw_by (raw_message_at s at) (at + message_size) x)
          ≡ take_timed (Raw (record { 0 = word32 s (at + 5) })) (at + message_size) at last n x
      message_timed (Ok t) = refl
      message_timed (Err f) = refl

      time_timed : (x : Timed) → step_by at last n (raw_by (raw_time_at s at) (at + time_size) x)
          ≡ take_timed (Raw (record { 0 = word32 s (at + 1) })) (at + time_size) at last n x
      time_timed (Ok t) = refl
      time_timed (Err f) = refl

      pub raw_message_case : whole raw_message_tag message_size ≡ true
          → step_at s at (Raw from) last n ≡ rawly (at + message_size) (record { 0 = word32 s (at + 5) })
      unfolding step_at dated_at
      raw_message_case w =
          ap (λ (x : RecordRead). step_by at last n (dated_by (Raw from) last x))
          (raw_message_read s at (inside raw_message_tag message_size (omega arith) w) (tagged raw_message_tag message_size w)
          ∙ is_whole s at message_size _ (all_bytes raw_message_tag message_size w))
          ∙ message_timed (raw_moment (Raw from) last (record { 0 = word32 s (at + 5) }))

      pub raw_time_case : whole raw_time_tag time_size ≡ true
          → step_at s at (Raw from) last n ≡ rawly (at + time_size) (record { 0 = word32 s (at + 1) })
      unfolding step_at dated_at
      raw_time_case w =
          ap (λ (x : RecordRead). step_by at last n (dated_by (Raw from) last x))
          (raw_time_read s at (inside raw_time_tag time_size (omega arith) w) (tagged raw_time_tag time_size w)
          ∙ is_whole s at time_size _ (all_bytes raw_time_tag time_size w))
          ∙ time_timed (raw_moment (Raw from) last (record { 0 = word32 s (at + 1) }))

      pub raw_fault : at < length s → whole raw_message_tag message_size ≡ false → whole raw_time_tag time_size ≡ false
          → step_at s at (Raw from) last n ≡ Over (fault_by at (next_at s at))
      unfolding step_at dated_at
      raw_fault h v w = by (next_at s at) refl (no_raw s at v w)
        where
          by : (x : RecordRead) → next_at s at ≡ x → is_raw x ≡ false
              → step_by at last n (dated_by (Raw from) last x) ≡ Over (fault_by at x)
          by (Ok next.End) q z = absurd (not_end s at h q)
          by (Err f) q z = refl
          by (Ok (next.Handed e p)) q z = refl
          by (Ok (next.Raw e p)) q z = clash refl z
