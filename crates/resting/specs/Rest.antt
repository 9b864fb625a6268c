-- J13: whether the main chart may rest where it stands. `fired` says of each region whether it is fired.
use Rattle.std.specs.Prelude.{◌≡◌, ◌↔◌, Bool, false, not, ◌&&◌, ◌||◌, ℕ, ◌≤◌, ◌<◌, leb}
use Rattle.std.proofs.Math.Bool.{So}
use Rattle.base.specs.Lists.{all_below, some_below, last, on_found}
use Rattle.model.specs.declared.Chart.{Chart}
use Rattle.model.specs.Chart.{region_at, touches}

-- region i is of the main chart and touches line k; plain regions touch lines too
pub record OnLine (c : Chart) (k i : ℕ) : Type 0 where
  pub region : i < c.count
  pub main : c.prechart ≤ i
  pub touched : So (touches (region_at c i).event k)

-- line k counts: a main region on it is not fired
pub record Counts (c : Chart) (fired : ℕ → Bool) (k : ℕ) : Type 0 where
  pub region : ℕ
  pub on_line_case : OnLine c k region
  pub unfired : fired region ≡ false

-- line k is cold: its last fired main region is marked. So a line on which none is fired is hot.
pub record Cold (c : Chart) (fired : ℕ → Bool) (k : ℕ) : Type 0 where
  pub region : ℕ
  pub on_line_case : OnLine c k region
  pub is_fired : So (fired region)
  pub last_fired : (j : ℕ) → OnLine c k j → So (fired j) → j ≤ region
  pub marked : So (region_at c region).rest

-- every line that counts is cold
abbrev pub Rests : Chart → (ℕ → Bool) → Type 0
Rests c fired = (k : ℕ) → k < c.lines → Counts c fired k → Cold c fired k

-- The same as tests.
abbrev pub on_line : Chart → ℕ → ℕ → Bool
on_line c k i = leb c.prechart i && touches (region_at c i).event k

abbrev pub counts : Chart → (ℕ → Bool) → ℕ → Bool
counts c fired k = some_below c.count (λ i. on_line c k i && not (fired i))

abbrev pub is_cold : Chart → (ℕ → Bool) → ℕ → Bool
is_cold c fired k = on_found (last c.count (λ i. on_line c k i && fired i)) false (λ i. (region_at c i).rest)

unfoldable pub rests : Chart → (ℕ → Bool) → Bool
rests c fired = all_below c.lines (λ k. not (counts c fired k) || is_cold c fired k)

-- the test passes exactly if the chart may rest
abbrev pub RestsExactly : Chart → (ℕ → Bool) → Type 0
RestsExactly c fired = So (rests c fired) ↔ Rests c fired
