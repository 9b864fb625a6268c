-- `live::put_chart` meets its contract: one byte more stands at each turn. Assumes nothing.
use mathlib.Core.Path.{◌≡◌, sym, ap, ◌∙◌}
use mathlib.Core.List.{List, [], ◌∷◌, ◌++◌}
use Prim.Native.Nat.{ℕ, ◌+◌, ◌<◌}
use native.Mathlib.Numerals.{add-one}
use native.Mathlib.Omega.{arith}
use lib.ListN.{length, get_or, take}
use lib.Seq.{take-suc, take-length}
use Rattle.wire.proofs.Writing.{then, nothing, one, spelled}
use Rattle.live.proofs.put_chart.Goals as goal

-- one byte more of a text
take_more : (s : List ℕ) (i : ℕ) → i < length s → take i s ++ (get_or s i 0 ∷ []) ≡ take (i + 1) s
take_more s i h = sym (ap (λ (k : ℕ). take k s) (add-one i) ∙ take-suc s i 0 h)

pub loop-i-init : goal.loop-i-init
loop-i-init c = nothing _ _ _ (omega arith)

pub loop-i-preserved : goal.loop-i-preserved
loop-i-preserved c =
    spelled (take_more _ _ c.loop-i-test.true) (then c.loop-i.invariant (one _ _ _ _ (omega arith)))

pub returns : goal.returns
returns c =
    let e : c.loop-i.i ≡ length c.args.chart.now = omega (arith, c.loop-i-test.false, c.loop-i.auto.i-end) in
    rw (sym e) (spelled (ap (λ (k : ℕ). take k c.args.chart.now) e ∙ take-length _) c.loop-i.invariant)
