-- `monitor_image::put_words` meets its contract: one number more at each turn. Assumes nothing.
use Rattle.std.proofs.Common.{◌≡◌, ◌++◌, ◌+◌, ◌*◌, take}
use Rattle.arrayvec.specs.ArrayVec.{array_vec_len}
use Rattle.monitor_image.specs.MonitorImage.{words_bytes}
use Rattle.monitor_image.proofs.put_words.Given as goal

abbrev pub invariant-loop-n : goal.invariant-loop-n
invariant-loop-n l = record {
  items : l.out.items ≡ l.initial.out.items ++ words_bytes (take l.n-index l.words);
  len : array_vec_len l.out ≡ array_vec_len l.initial.out + 4 * l.n-index;
}
