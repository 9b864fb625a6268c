-- `lsc_log::put_kind` meets its contract: by the kind. Assumes nothing.
use mathlib.Core.Path.{◌∙◌}
use Rattle.lsc_log.proofs.put_kind.Goals as goal

pub returns-in-Unset : goal.returns-in-Unset
returns-in-Unset c = c.put_tagged.ensures ∙ rw c.in-Unset.is

pub returns-in-Plain : goal.returns-in-Plain
returns-in-Plain c = c.put_tagged-in-Plain.ensures ∙ rw c.in-Plain.is

pub returns-in-Raw : goal.returns-in-Raw
returns-in-Raw c = c.put_tagged-in-Raw.ensures ∙ rw c.in-Raw.is
