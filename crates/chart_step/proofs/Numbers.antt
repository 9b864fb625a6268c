-- Refusals have numbers from 1 to 11 and 13, each its own. Assumes nothing.
use mathlib.Core.Path.{◌≡◌, refl, sym, ap, ◌∙◌}
use mathlib.Core.Bool.{cond}
use Prim.Native.Nat.{ℕ, ◌≤◌}
use native.Mathlib.Omega.{arith}
use lib.Dec.{eqb}
use Rattle.chart_step.specs.declared.Refusal.{Refusal}
use Rattle.chart_step.specs.declared.Refusal.TheVariants.{CutShort, Unknown, Misplaced, Outside, Excess, Bare}
use Rattle.chart_step.specs.declared.Refusal.TheVariants.{HotAlone, Early, RestInPrechart, Unanchored, Mainless}
use Rattle.chart_step.specs.declared.Refusal.TheVariants.{Trailing}
use Rattle.chart_step.specs.Refusal.{refusal_number, most_refusal}

-- none has the number 0
pub refusal_nonzero : (f : Refusal) → refusal_number f ≡ 0 → ⊥
refusal_nonzero CutShort e = omega arith
refusal_nonzero Unknown e = omega arith
refusal_nonzero Misplaced e = omega arith
refusal_nonzero Outside e = omega arith
refusal_nonzero Excess e = omega arith
refusal_nonzero Bare e = omega arith
refusal_nonzero HotAlone e = omega arith
refusal_nonzero Early e = omega arith
refusal_nonzero RestInPrechart e = omega arith
refusal_nonzero Unanchored e = omega arith
refusal_nonzero Mainless e = omega arith
refusal_nonzero Trailing e = omega arith

-- and none a higher one than the highest
pub refusal_most : (f : Refusal) → refusal_number f ≤ most_refusal
refusal_most CutShort = omega arith
refusal_most Unknown = omega arith
refusal_most Misplaced = omega arith
refusal_most Outside = omega arith
refusal_most Excess = omega arith
refusal_most Bare = omega arith
refusal_most HotAlone = omega arith
refusal_most Early = omega arith
refusal_most RestInPrechart = omega arith
refusal_most Unanchored = omega arith
refusal_most Mainless = omega arith
refusal_most Trailing = omega arith

-- the refusal with a number
refusal_with : ℕ → Refusal
refusal_with n =
    cond (eqb n 1) CutShort
    (cond (eqb n 2) Unknown (cond (eqb n 3) Misplaced (cond (eqb n 4) Outside (cond (eqb n 5) Excess
    (cond (eqb n 6) Bare (cond (eqb n 7) HotAlone (cond (eqb n 8) Early (cond (eqb n 9) Unanchored
    (cond (eqb n 10) Mainless (cond (eqb n 11) Trailing RestInPrechart))))))))))

with_number : (f : Refusal) → refusal_with (refusal_number f) ≡ f
unfolding refusal_with
with_number CutShort = refl
with_number Unknown = refl
with_number Misplaced = refl
with_number Outside = refl
with_number Excess = refl
with_number Bare = refl
with_number HotAlone = refl
with_number Early = refl
with_number RestInPrechart = refl
with_number Unanchored = refl
with_number Mainless = refl
with_number Trailing = refl

pub refusal_injective : (f g : Refusal) → refusal_number f ≡ refusal_number g → f ≡ g
refusal_injective f g e = sym (with_number f) ∙ ap refusal_with e ∙ with_number g
