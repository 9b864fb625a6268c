-- The set of the lines that a region touches has exactly these lines. Assumes nothing.
use mathlib.Core.Path.{◌≡◌, refl, sym, ap, ap₂, ◌∙◌}
use mathlib.Core.Bool.{Bool, true, false, cond, ◌||◌}
use Prim.Native.Nat.{ℕ, ◌≤◌, ◌<◌}
use native.Mathlib.Omega.{arith}
use borrow.Author.Tests.{ltb-false, ne_eqb}
use lib.Dec.{eqb, ltb}
use Rattle.bitset.specs.Set.{contains, single}
use Rattle.bitset.proofs.Laws.{contains_single, contains_union, contains_empty}
use Rattle.model.specs.declared.Event.{Event}
use Rattle.model.specs.declared.Event.TheVariants.{Plain, Message}
use Rattle.model.specs.Chart.{most_lines, line_set, touched, touches}

contains_line : (i k : ℕ) → k < most_lines → contains (line_set i) k ≡ eqb k i
contains_line i k h = by (ltb i most_lines) refl
  where
    by : (b : Bool) → ltb i most_lines ≡ b → contains (cond b (single i) 0) k ≡ eqb k i
    by true e = contains_single i k
    by false e = let l : most_lines ≤ i = ltb-false _ _ e in contains_empty k ∙ sym (ne_eqb k i (λ z. omega arith))

pub contains_touched : (e : Event) (k : ℕ) → k < most_lines → contains (touched e) k ≡ touches e k
contains_touched (Message m) k h =
    contains_union (line_set m.source) (line_set m.destination) k
    ∙ ap₂ ◌||◌ (contains_line m.source k h) (contains_line m.destination k h)
contains_touched (Plain l) k h = refl

-- what `touched` promises, from the set alone
pub touches_of : (e : Event) (r : ℕ) → r ≡ touched e → (r ≡ touched e)
    × ((k : ℕ) → k < most_lines → contains r k ≡ touches e k)
touches_of e r h = (h, λ k l. ap (λ (x : ℕ). contains x k) h ∙ contains_touched e k l)
