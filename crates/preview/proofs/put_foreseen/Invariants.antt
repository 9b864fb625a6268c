-- `preview::put_foreseen` meets its contract: before i the bytes stand, one more at each turn. Assumes nothing.
use Prim.Native.Nat.{ℕ}
use lib.ListN.{get_or}
use Rattle.layout.specs.Plans.{chart_of_plan}
use Rattle.preview.specs.Parts.{shown_by}
use Rattle.preview.proofs.Laws.{Front}
use Rattle.preview.proofs.put_foreseen.Given as goal

abbrev pub invariant-loop-i : goal.invariant-loop-i
invariant-loop-i l = Front l.initial.out (λ (k : ℕ). shown_by (chart_of_plan l.plan) l.m l.t (get_or l.plan.keys k 0)) l.i l.out
