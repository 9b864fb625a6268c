-- What is left of a log's check after a pass over some of its records.
use Rattle.std.specs.Prelude.{List, ℕ, ◌+◌, length}
use Rattle.log_reader.specs.Next.{next_at}
use Rattle.log_check.specs.Refusal.{Checked}
use Rattle.log_check.specs.Check.{check_from}
use Rattle.log_check.specs.Met.{pace_of, kind_in}
use Rattle.log_pass.specs.declared.Passed.{Passed}

-- the check from where the pass stopped, after the records that its monitor counts, the last of them at its moment
abbrev pub rest_of : List ℕ → Passed → Checked
rest_of s r =
    check_from (length s + 1) s r.at (kind_in (pace_of (next_at s 0)) r.monitor.tally.now) r.monitor.tally.now
    r.monitor.tally.records
