-- `lsc_live::lsc_feed_message_why` meets its contract: the number and the cause of the answer. Assumes nothing.
use mathlib.Core.Path.{ap, ◌∙◌}
use Rattle.model.specs.declared.Cause.{Cause}
use Rattle.lsc_live.proofs.Told.{feeds_tell}
use Rattle.lsc_live.proofs.lsc_feed_message_why.Goals as goal

pub returns : goal.returns
returns c =
    let a = c.fed_cause-cause.ensures in
    let f = c.feed_message-fed in record {
      fed = record {
        returned = record { answer = f.result; fed = f.ensures; is_number = c.fed_number.ensures };
        is_region = c.from.ensures ∙ ap (λ (x : Cause). x.region) a;
        is_term_case = c.from-2.ensures ∙ ap (λ (x : Cause). x.term) a;
      };
      only = feeds_tell;
    }
