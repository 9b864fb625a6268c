-- E1: a log reader, the log's bytes and an offset in them.
use Rattle.std.specs.Prelude.{◌≡◌, List, ℕ, Ok, Err}
use Rattle.log_reader.specs.declared.LogReader.{LogReader}
use Rattle.log_reader.specs.Record.{RecordRead}
use Rattle.log_reader.specs.declared.Next.TheVariants.{End, Handed, Raw}
use Rattle.log_reader.specs.Next.{next_at}

-- E4: the offset after reading, which stays if no record is handed out
abbrev pub offset_or : ℕ → RecordRead → ℕ
offset_or at (Ok End) = at
offset_or at (Err k) = at
offset_or at (Ok (Handed r past)) = past
offset_or at (Ok (Raw r past)) = past

abbrev pub offset_after : List ℕ → ℕ → ℕ
offset_after s at = offset_or at (next_at s at)

-- E1, E4: the reader r hands out n, and is q after that. n is what stands at the offset of r; the offset of q is just
-- after a record that is handed out, or else where it was; and q holds the slice that r held, with the same bytes.
pub record HandsOut (r : LogReader) (n : RecordRead) (q : LogReader) : Type 0 where
  pub record_there : n ≡ next_at r.log.now r.offset
  pub offset : q.offset ≡ offset_after r.log.now r.offset
  pub bytes : q.log ≡ r.log
