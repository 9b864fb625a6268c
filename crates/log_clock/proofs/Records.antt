-- What stands at an offset, and one record of the list of a log's records. Assumes nothing.
use Rattle.std.proofs.Common.{◌≡◌, ℕ, suc, ◌-◌, ◌<◌, ◌≤◌, List, length, refl, ap, ◌∙◌, subst, arith, Some, None, Ok, Err}
use Rattle.model.specs.declared.Moment.{Moment}
use Rattle.model.specs.declared.Record.{Record}
use Rattle.model.specs.declared.RawRecord.{RawRecord}
use Rattle.model.specs.Monitor.{time_of, stamp_of}
use Rattle.log_reader.specs.Record.{RecordRead}
use Rattle.log_reader.specs.declared.Next.TheVariants as next
use Rattle.log_reader.specs.Next.{next_at}
use Rattle.log_reader.proofs.Offsets.{at_end, taken_past, raw_past}
use Rattle.base.specs.Lists.{Snoc, ◌▸◌}
use Rattle.log_clock.specs.declared.Kind.{Kind}
use Rattle.log_clock.specs.Clock.{Timed, plain_moment, raw_moment}
use Rattle.log_clock.specs.Dated.{DatedRead, dated_record, plain_by, raw_by, dated_by, dated_at}
use Rattle.log_clock.specs.Records.{on_record, records_from}

module _ (s : List ℕ) (at : ℕ) (k : Kind) (last : Moment) where
  -- what stands there, by what is read
  pub dated_next : (n : RecordRead) → next_at s at ≡ n → dated_at s at k last ≡ dated_by k last n
  unfolding dated_at
  dated_next n q = ap (dated_by k last) q

  -- at or past the end there is no record
  pub dated_end : length s ≤ at → dated_at s at k last ≡ (Ok None)
  unfolding dated_at
  dated_end h = ap (dated_by k last) (at_end s at h)

  -- the offset moves past the record, and not past the end
  Past : DatedRead → Type 0
  Past (Ok None) = Unit {0}
  Past (Err f) = Unit {0}
  Past (Ok (Some d)) = (at < d.past) × (d.past ≤ length s)

  past : Past (dated_at s at k last)
  unfolding dated_at Past
  past = by (next_at s at) refl
    where
      plain : (e : Record) (p : ℕ) → next_at s at ≡ Ok (next.Handed e p) → (t : Timed) → Past (plain_by e p t)
      plain e p q (Ok t) = taken_past s at e p q
      plain e p q (Err f) = tt

      raw : (e : RawRecord) (p : ℕ) → next_at s at ≡ Ok (next.Raw e p) → (t : Timed) → Past (raw_by e p t)
      raw e p q (Ok t) = raw_past s at e p q
      raw e p q (Err f) = tt

      by : (x : RecordRead) → next_at s at ≡ x → Past (dated_by k last x)
      by (Ok next.End) q = tt
      by (Err f) q = tt
      by (Ok (next.Handed e p)) q = plain e p q (plain_moment k (time_of e))
      by (Ok (next.Raw e p)) q = raw e p q (raw_moment k last (stamp_of e))

  pub dated_past : (e : Record) (j : Kind) (p : ℕ) → dated_at s at k last ≡ dated_record e j p → (at < p) × (p ≤ length s)
  unfolding Past
  dated_past e j p q = subst Past q past

pub one_record : (s : List ℕ) (at left : ℕ) → 0 < left → (k : Kind) (last : Moment) (es : Snoc Record) (d : DatedRead)
    → dated_at s at k last ≡ d
    → records_from left s at k last es
    ≡ on_record (λ e kind past. records_from (left - 1) s past kind (time_of e) (es ▸ e)) d es
unfolding records_from
one_record s at left h k last es d q =
    let l : left ≡ suc (left - 1) = omega arith in
    ap (λ (j : ℕ). records_from j s at k last es) l ∙ ap
    (λ (x : DatedRead). on_record (λ e kind past. records_from (left - 1) s past kind (time_of e) (es ▸ e)) x es) q
