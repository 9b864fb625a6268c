-- Checking a whole log (J2, J3), record by record.
use Rattle.std.specs.Prelude.{ℕ, zero, suc, ◌+◌, cond, List, length, nat_le, nat_lt, Some, None, Ok, Err}
use Rattle.model.specs.declared.Moment.{Moment}
use Rattle.model.specs.Answers.{most_records}
use Rattle.model.specs.Monitor.{time_of}
use Rattle.log_clock.specs.declared.Kind.{Kind}
use Rattle.log_clock.specs.declared.Kind.TheVariants.{Unset}
use Rattle.log_clock.specs.declared.MomentRefusal.TheVariants.{Falls}
use Rattle.log_clock.specs.Dated.{DatedRead, dated_at}
use Rattle.log_check.specs.declared.LogRefusal.TheVariants.{NoMoment, TooManyRecords}
use Rattle.log_check.specs.Refusal.{refusal_of, fault, Checked}

-- One record checked: the check is over, or it goes on at an offset, with the log's kind, the record's moment and the
-- count so far.
pub data CheckStep : Type 0 where
  Over : Checked → CheckStep
  Going : ℕ → Kind → Moment → ℕ → CheckStep

-- J3: 22 of a plain record and 23, of a record at its moment that was read at `at`, after n records, the last of them
-- at the moment `last`; the log is then of this kind
abbrev pub take_record : Kind → Moment → ℕ → ℕ → Moment → ℕ → CheckStep
take_record k time past at last n =
    cond (nat_lt time.0 last.0) (Over (Err (fault (NoMoment Falls) at)))
    (cond (nat_le most_records n) (Over (Err (fault TooManyRecords at))) (Going past k time (n + 1)))

abbrev pub step_by : ℕ → Moment → ℕ → DatedRead → CheckStep
step_by at last n (Ok None) = Over (Ok n)
step_by at last n (Err f) = Over (Err (fault (refusal_of f) at))
step_by at last n (Ok (Some d)) = take_record d.kind (time_of d.item) d.past at last n

unfoldable pub step_at : List ℕ → ℕ → Kind → Moment → ℕ → CheckStep
step_at s at k last n = step_by at last n (dated_at s at k last)

abbrev pub continue_by : (ℕ → Kind → Moment → ℕ → Checked) → CheckStep → Checked
continue_by go (Over c) = c
continue_by go (Going past k time n) = go past k time n

-- at most f records from an offset on, after n records of a kind, the last of them at the moment `last`
unfoldable pub check_from : ℕ → List ℕ → ℕ → Kind → Moment → ℕ → Checked
check_from zero s at k last n = Ok n
check_from (suc f) s at k last n = continue_by (check_from f s) (step_at s at k last n)

-- J2: the whole log. Each record takes a byte at least, so its length and one more bound the number of records.
unfoldable pub check_log : List ℕ → Checked
check_log s = check_from (length s + 1) s 0 Unset (record { 0 = 0 }) 0
