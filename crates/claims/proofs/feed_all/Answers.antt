-- `claims::feed_all` meets its contract: the records fed so far, and those left, are the log's. Assumes nothing.
use mathlib.Core.Path.{sym, ap, ◌∙◌}
use borrow.Author.Rules.{rules}
use Rattle.std.specs.Prelude.{Ok}
use native.Mathlib.Omega.{arith}
use Rattle.claims.proofs.Watching.{at_start, fed_one, fed_none, fed_bad, fed_end}
use Rattle.claims.proofs.feed_all.Goals as goal

pub loop-init : goal.loop-init
loop-init c = at_start _ c.requires

pub returns-in_default : goal.returns-in_default
returns-in_default c = fed_none c.loop.invariant c.loop-test.true (search rules)

pub returns-in_default-2 : goal.returns-in_default-2
returns-in_default-2 c = fed_bad c.loop.invariant c.loop-test.true _ (sym c.record_at.ensures ∙ c.in_default.is)

pub loop-preserved : goal.loop-preserved
loop-preserved c =
    fed_one c.loop.invariant c.loop-test.true _ _ _ (sym c.in-Ok-Some.ensures ∙ ap Ok c.in-Ok-Some.field-0-is) c.feed.result c.feed.ensures.0 _
    c.time_of-last.ensures

pub returns : goal.returns
returns c = fed_end c.loop.invariant (omega (arith, c.loop-test.false))
