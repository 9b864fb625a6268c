-- The records of a log's bytes, each with its moment (L3, L11, L12).
use Rattle.std.specs.Prelude.{ℕ, zero, suc, List, length, Some, None, Ok, Err}
use Rattle.model.specs.declared.Moment.{Moment}
use Rattle.model.specs.declared.Record.{Record}
use Rattle.model.specs.Monitor.{time_of}
use Rattle.base.specs.Lists.{Snoc, ε, ◌▸◌}
use Rattle.log_clock.specs.declared.Kind.{Kind}
use Rattle.log_clock.specs.declared.Kind.TheVariants.{Unset}
use Rattle.log_clock.specs.Dated.{DatedRead, dated_at}

abbrev pub on_record : (Record → Kind → ℕ → Snoc Record) → DatedRead → Snoc Record → Snoc Record
on_record k (Ok None) es = es
on_record k (Err f) es = es
on_record k (Ok (Some d)) es = k d.item d.kind d.past

-- the records from an offset on, after those read before, which are of this kind, the last at this moment; at most n
unfoldable pub records_from : ℕ → List ℕ → ℕ → Kind → Moment → Snoc Record → Snoc Record
records_from zero s at k last es = es
records_from (suc n) s at k last es =
    on_record (λ e kind past. records_from n s past kind (time_of e) (es ▸ e)) (dated_at s at k last) es

-- the log's records from the left, to the end or to the first offset with no record or no moment for it. A plain record
-- has its moment even if it falls: feeding refuses it.
unfoldable pub records_in : List ℕ → Snoc Record
records_in s = records_from (length s) s 0 Unset (record { 0 = 0 }) ε
