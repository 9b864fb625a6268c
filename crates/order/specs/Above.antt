-- The order of regions (O1 to O3), which have numbers from 0 here. `lines i` is the set of lines that region i touches.
use Rattle.std.specs.Prelude.{◌≡◌, true, ℕ, ◌<◌, ◌≤◌}
use Rattle.bitset.specs.Set.{contains}
use Rattle.model.specs.declared.Chart.{Chart}
use Rattle.model.specs.Chart.{touched_at}

-- two sets have a line in common
pub record SharedLine (s t : ℕ) : Type 0 where
  pub line : ℕ
  pub one : contains s line ≡ true
  pub other : contains t line ≡ true

module _ (lines : ℕ → ℕ) (prechart : ℕ) where
  -- regions of one half
  pub data SameHalf (a b : ℕ) : Type 0 where
    in_prechart : a < prechart → b < prechart → SameHalf a b
    in_main : prechart ≤ a → prechart ≤ b → SameHalf a b

  -- O1, O2: a is over b by one step of the order
  pub data Over (a b : ℕ) : Type 0 where
    direct : a < b → SameHalf a b → SharedLine (lines a) (lines b) → Over a b
    halves : a < prechart → prechart ≤ b → Over a b

  -- O3: a chain of such steps
  pub data Above : ℕ → ℕ → Type 0 where
    first : {a b : ℕ} → Over a b → Above a b
    then : {a b c : ℕ} → Above a b → Over b c → Above a c

-- the order of a chart's regions
abbrev pub AboveIn : Chart → ℕ → ℕ → Type 0
AboveIn c a b = Above (touched_at c) c.prechart a b
