-- `live::put_chart` meets its contract: before i the bytes stand. Assumes nothing.
use Rattle.std.proofs.Common.{◌+◌}
use lib.ListN.{take}
use Rattle.live.specs.Live.{head_size}
use Rattle.wire.specs.Writing.{Wrote}
use Rattle.live.proofs.put_chart.Given as goal

abbrev pub invariant-loop-i : goal.invariant-loop-i
invariant-loop-i l = Wrote l.initial.live head_size (take l.i l.chart) l.live (head_size + l.i)
