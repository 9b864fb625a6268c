-- `input::read_full` puts what the reader gave. Assumes nothing.
use Rattle.std.proofs.Common.{rules}
use Rattle.input.proofs.Laws.{consumes_more}
use Rattle.input.proofs.read_full.Goals as goal

pub loop-done-preserved : goal.loop-done-preserved
loop-done-preserved g c =
    let l = c.loop-done in
    let r = c.in_ok-n in
    (search rules, search rules, consumes_more _ _ _ l.done _ r.n l.buf c.read.new.buf l.invariant.1 r.ensures.bound.0 l.invariant.2 r.ensures.bytes.0)
