-- The lines that count and the cold ones as sets, for the functions that compute them: region after region.
use Rattle.std.specs.Prelude.{◌≡◌, Bool, false, cond, not, ◌&&◌, ◌||◌, ℕ, ◌<◌}
use Rattle.bitset.specs.Set.{contains}
use Rattle.base.specs.Lists.{some_below, last, on_found}
use Rattle.model.specs.declared.Chart.{Chart}
use Rattle.model.specs.Chart.{most_lines, region_at}
use Rattle.resting.specs.Rest.{on_line}
use Rattle.resting.specs.declared.Lines.{Lines}

-- the sets, as the regions below n have them
pub record LinesBelow (c : Chart) (fired : ℕ → Bool) (n : ℕ) (l : Lines) : Type 0 where
  pub counting : (k : ℕ) → k < most_lines
      → contains l.counting k ≡ some_below n (λ i. on_line c k i && not (fired i))
  pub cold : (k : ℕ) → k < most_lines
      → contains l.cold k ≡ on_found (last n (λ i. on_line c k i && fired i)) false (λ i. (region_at c i).rest)

-- one region more, on these lines: an unfired one makes them count, a fired one decides whether they are cold
pub record OneMore (l : Lines) (touched : ℕ) (fired rest : Bool) (r : Lines) : Type 0 where
  pub counting : (k : ℕ) → k < most_lines
      → contains r.counting k ≡ (contains l.counting k || (contains touched k && not fired))
  pub cold : (k : ℕ) → k < most_lines
      → contains r.cold k ≡ cond (contains touched k && fired) rest (contains l.cold k)
