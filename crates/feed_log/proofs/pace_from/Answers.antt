-- `feed_log::pace_from` meets its contract: by the kind. Assumes nothing.
use borrow.Author.Rules.{rules}
use Rattle.feed_log.proofs.pace_from.Goals as goal

pub returns-in-Unset : goal.returns-in-Unset
returns-in-Unset c =
    let k = c.in-Unset.is in record {
      pace = rw k c.pace_of.ensures;
      range = (rw k tt, search rules);
    }

pub returns-in-Plain : goal.returns-in-Plain
returns-in-Plain c =
    let k = c.in-Plain.is in record {
      pace = rw k c.plain_pace.ensures;
      range = (rw k tt, search rules);
    }

pub returns-in-Raw : goal.returns-in-Raw
returns-in-Raw c =
    let k = c.in-Raw.is in record {
      pace = rw (k, c.raw_pace.ensures, c.gap.ensures.wraps);
      range = (rw k (search rules), search rules);
    }
