-- `hexadecimal::put_bytes` meets its contract: what the text from here on still fills is what all of it fills.
-- Assumes nothing.
use Rattle.std.proofs.Common.{◌≡◌, ◌≤◌, ◌*◌, length, drop}
use Rattle.hexadecimal.specs.Hex.{filled_with, filled_by}
use Rattle.hexadecimal.proofs.put_bytes.Given as goal

abbrev pub invariant-loop-b : goal.invariant-loop-b
invariant-loop-b l = record {
  room : l.n ≤ 2 * length l.out;
  fills : filled_by (filled_with l.out l.n) (drop l.b-index l.digits) ≡ filled_by (filled_with l.initial.out 0) l.digits;
}
