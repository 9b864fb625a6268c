-- `monitor_image::put_moments` meets its contract: one moment more at each turn. Assumes nothing.
use Rattle.std.proofs.Common.{◌≡◌, ◌++◌, ◌+◌, ◌*◌, take}
use Rattle.std.specs.List.{flat_map}
use Rattle.arrayvec.specs.ArrayVec.{array_vec_len}
use Rattle.wire.specs.Writing.{word_bytes}
use Rattle.monitor_image.proofs.put_moments.Given as goal

abbrev pub invariant-loop-r : goal.invariant-loop-r
invariant-loop-r l = record {
  items : l.out.items ≡ l.initial.out.items ++ flat_map (λ r. word_bytes r.0) (take l.r-index l.resets);
  len : array_vec_len l.out ≡ array_vec_len l.initial.out + 4 * l.r-index;
}
