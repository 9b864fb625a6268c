-- The code that is read from a record's bytes is that of the record at its moment. Assumes nothing.
use mathlib.Core.Path.{◌≡◌, refl, sym, ap, subst, ◌∙◌}
use mathlib.Core.Bool.{Bool, true, false, cond, ◌||◌}
use mathlib.Core.List.{List}
use Rattle.std.specs.Prelude.{Some, None, Ok, Err}
use Prim.Native.Nat.{ℕ, ◌+◌, ◌*◌}
use native.Mathlib.Omega.{arith}
use lib.Dec.{eqb, leb}
use lib.ListN.{length, get_or}
use Rattle.wire.specs.Bytes.{word16}
use Rattle.model.specs.declared.Moment.{Moment}
use Rattle.model.specs.declared.Record.{Record}
use Rattle.model.specs.declared.RawRecord.{RawRecord}
use Rattle.model.specs.Monitor.{time_of, stamp_of, at_moment}
use Rattle.log_reader.specs.Record.{RecordRead}
use Rattle.log_reader.specs.declared.Next.TheVariants as next
use Rattle.log_reader.specs.Record.{message_tag, time_tag, raw_message_tag, raw_time_tag, message_size, time_size}
use Rattle.log_reader.specs.Record.{message_at}
use Rattle.log_reader.specs.Next.{next_at}
use Rattle.log_reader.proofs.Offsets.{read, is_read}
use Rattle.log_clock.specs.declared.Kind.{Kind}
use Rattle.log_clock.specs.Clock.{Timed, plain_moment, raw_moment}
use Rattle.log_clock.specs.Dated.{DatedRead, dated_record, plain_by, raw_by, dated_by, dated_at}
use Rattle.chart_value.specs.Records.{record_code}
use Rattle.log_check.specs.Met.{code_at}

module _ (s : List ℕ) (at : ℕ) where
  -- a raw record has its code whatever moment it gets
  CodeIs : ℕ → RecordRead → Type 0
  CodeIs x (Ok next.End) = Unit {0}
  CodeIs x (Err f) = Unit {0}
  CodeIs x (Ok (next.Handed e p)) = x ≡ record_code e
  CodeIs x (Ok (next.Raw e p)) = (t : Moment) → x ≡ record_code (at_moment e t)

  same_code : word16 s (at + 3) * 65536 + word16 s (at + 1) + 1 ≡ record_code (message_at s at)
  same_code = let z : at + 1 + 1 ≡ at + 2 = omega arith in rw z (omega arith)

  code_read : (a p q t u m k : Bool)
      → CodeIs (cond (p || q) (word16 s (at + 3) * 65536 + word16 s (at + 1) + 1) 0) (read s at a p q t u m k)
  unfolding CodeIs
  code_read true p q t u m k = tt
  code_read false true q t u false k = tt
  code_read false true q t u true k = same_code
  code_read false false true t u false k = tt
  code_read false false true t u true k = λ t. same_code
  code_read false false false true u m false = tt
  code_read false false false true u m true = refl
  code_read false false false false true m false = tt
  code_read false false false false true m true = λ t. refl
  code_read false false false false false m k = tt

  code_next : CodeIs (code_at s at) (next_at s at)
  code_next =
      subst (CodeIs (code_at s at)) (sym (is_read s at))
      (code_read (leb (length s) at) (eqb (get_or s at 0) message_tag) (eqb (get_or s at 0) raw_message_tag)
      (eqb (get_or s at 0) time_tag) (eqb (get_or s at 0) raw_time_tag) (leb (at + message_size) (length s))
      (leb (at + time_size) (length s)))

  abbrev code_in : DatedRead → ℕ → ℕ
  code_in (Ok None) d = d
  code_in (Err f) d = d
  code_in (Ok (Some r)) d = record_code r.item

  code_dated : (k : Kind) (last : Moment) → code_at s at ≡ code_in (dated_at s at k last) (code_at s at)
  unfolding dated_at CodeIs
  code_dated k last = by (next_at s at) code_next
    where
      plain : (e : Record) (p : ℕ) → code_at s at ≡ record_code e → (t : Timed)
          → code_at s at ≡ code_in (plain_by e p t) (code_at s at)
      plain e p q (Ok t) = q
      plain e p q (Err f) = refl

      raw : (e : RawRecord) (p : ℕ) → ((t : Moment) → code_at s at ≡ record_code (at_moment e t)) → (t : Timed)
          → code_at s at ≡ code_in (raw_by e p t) (code_at s at)
      raw e p q (Ok t) = q t
      raw e p q (Err f) = refl

      by : (x : RecordRead) → CodeIs (code_at s at) x → code_at s at ≡ code_in (dated_by k last x) (code_at s at)
      by (Ok next.End) q = refl
      by (Err f) q = refl
      by (Ok (next.Handed e p)) q = plain e p q (plain_moment k (time_of e))
      by (Ok (next.Raw e p)) q = raw e p q (raw_moment k last (stamp_of e))

  pub code_of : (k : Kind) (last : Moment) (e : Record) (j : Kind) (p : ℕ) → dated_at s at k last ≡ dated_record e j p
      → code_at s at ≡ record_code e
  code_of k last e j p q = code_dated k last ∙ ap (λ (d : DatedRead). code_in d (code_at s at)) q
