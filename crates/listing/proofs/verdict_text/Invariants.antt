use Rattle.std.proofs.Common.{◌≡◌, ◌+◌, ◌*◌, ◌≤◌, ◌++◌, length, take}
use Rattle.text.specs.Text.{bytes_of}
use Rattle.listing.specs.Parts.{spaced}
use Rattle.listing.proofs.verdict_text.Given as goal

abbrev pub invariant-loop-n : goal.invariant-loop-n
invariant-loop-n l =
    (l.out.items ≡ bytes_of "STANDING KEPT DROPPED RECORDS BREAK REASON REGION TERM\n" ++ spaced (take l.n-index l.n-items))
    × (length l.out.items ≤ 55 + 21 * l.n-index)
