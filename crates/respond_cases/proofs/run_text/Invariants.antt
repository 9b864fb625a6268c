-- `respond_cases::run_text` is safe: each line is at most one case, and there are no more lines than bytes. Assumes nothing.
use Rattle.std.proofs.Common.{◌+◌, ◌≤◌, length}
use Rattle.hexadecimal.specs.Lines.{lines_left}
use Rattle.respond_cases.proofs.run_text.Given as goal

abbrev pub invariant-loop-line : goal.invariant-loop-line
invariant-loop-line g l = record {
  can : (goal.iterator-loop-line g).can_next l.line-iterator;
  ends : (goal.iterator-loop-line g).is_finite l.line-iterator;
  room : l.tally.cases + length (lines_left l.line-iterator) ≤ length l.text;
  differ : l.tally.differ ≤ l.tally.cases;
}
