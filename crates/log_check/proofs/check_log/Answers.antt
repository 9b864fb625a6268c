-- `log_check::check_log` meets its contract: the first record may be taken as one of the pace that it gives. Assumes
-- nothing.
use Rattle.std.proofs.Common.{◌∙◌}
use Rattle.log_check.proofs.Laws.{first_checked}
use Rattle.log_check.proofs.check_log.Goals as goal

pub returns-clause-check : goal.returns-clause-check
returns-clause-check c = c.check_rest.ensures.rest ∙ first_checked _
