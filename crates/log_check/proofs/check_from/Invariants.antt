-- `log_check::check_from` meets its contract: what is left of the check gives what it gave from the start. Assumes
-- nothing.
use Rattle.std.proofs.Common.{◌+◌, ◌-◌, length}
use Rattle.log_check.specs.Check.{check_from}
use Rattle.log_check.specs.Met.{kind_in}
use Rattle.log_check.proofs.Laws.{Left}
use Rattle.log_check.proofs.check_from.Given as goal

abbrev pub invariant-loop-at : goal.invariant-loop-at
invariant-loop-at l = Left (check_from (length l.log + 1) l.log l.initial.at (kind_in l.pace l.initial.last) l.initial.last l.initial.records) l.log l.at (kind_in l.pace l.last) l.last l.records

abbrev pub decreases-loop-at : goal.decreases-loop-at
decreases-loop-at l = length l.log - l.at
