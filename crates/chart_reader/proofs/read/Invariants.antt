-- What reading on from the offset says is what reading the whole says. Assumes nothing.
use mathlib.Core.Path.{◌≡◌}
use Prim.Native.Nat.{◌-◌}
use Rattle.chart_reader.specs.Read.{read_from, read_chart}
use Rattle.chart_reader.proofs.read.Given as goal

abbrev pub invariant-loop : goal.invariant-loop
invariant-loop l = read_from (l.end - l.counter) l.bytes l.at l.r ≡ read_chart l.bytes
