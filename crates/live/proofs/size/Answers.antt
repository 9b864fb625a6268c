-- `live::size` meets its contract: the test on the sum. Assumes nothing.
use Rattle.live.proofs.Opening.{size_sum}
use mathlib.Core.Path.{sym}
use Rattle.live.specs.Live.{live_size}
use borrow.Author.Tests.{lt-ltb}
use Rattle.live.proofs.size.Goals as goal

pub returns-then-bytes : goal.returns-then-bytes
unfolding live_size
returns-then-bytes c = rw (lt-ltb _ _ c.if-bytes.true)

pub returns : goal.returns
returns c = sym (size_sum _ c.if-bytes.false)
