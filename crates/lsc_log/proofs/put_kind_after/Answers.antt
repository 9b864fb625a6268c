-- `lsc_log::put_kind_after` meets its contract: the kind stays, or is put. Assumes nothing.
use Rattle.lsc_log.proofs.Laws.{kind_same, kind_new}
use Rattle.lsc_log.proofs.put_kind_after.Goals as goal

pub returns-then-taken-eq0 : goal.returns-then-taken-eq0
returns-then-taken-eq0 c = let a = c.args in kind_same a.taken a.kind a.out.now c.if-taken-eq0.true

pub returns : goal.returns
returns c = let a = c.args in kind_new a.taken a.kind a.out.now _ c.if-taken-eq0.false c.put_kind.ensures
