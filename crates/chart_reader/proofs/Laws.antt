-- One command of the whole reading, by what it came to. Assumes nothing.
use mathlib.Core.Path.{◌≡◌, sym, ap, ◌∙◌}
use mathlib.Core.List.{List}
use Prim.Native.Nat.{ℕ, suc, ◌+◌, ◌-◌, ◌<◌}
use native.Mathlib.Omega.{arith}
use Rattle.std.proofs.Common.{Option, Some, None, Result, Ok, Err}
use Rattle.chart_step.specs.declared.Reading.{Reading}
use Rattle.chart_step.specs.declared.Fault.{Fault}
use Rattle.chart_step.specs.declared.Step.{Step}
use Rattle.chart_reader.specs.Read.{read_from, continue_at, continue_by, advance_of}
use Rattle.chart_reader.specs.Said.{accepted_as, refused_for}

-- after k of n commands, the next one
module _ (n k : ℕ) (s : List ℕ) (at : ℕ) (r : Reading) (a : Result Step Fault) (h : k < n) (e : a ≡ advance_of s at r) where
  read_step : (x : Result Step Fault) → a ≡ x → read_from (n - k) s at r ≡ continue_by (read_from (n - (k + 1)) s) x
  unfolding read_from
  read_step x f =
      let m : n - k ≡ suc (n - (k + 1)) = omega arith in
      ap (λ (j : ℕ). read_from j s at r) m ∙ ap (λ (x : Result Step Fault). continue_by (read_from (n - (k + 1)) s) x) (sym e ∙ f)

  pub goes_on : (st : Step) (next : ℕ) → a ≡ Ok st → st.next ≡ Some next
      → read_from (n - (k + 1)) s next st.reading ≡ read_from (n - k) s at r
  goes_on st next f g =
      sym (read_step (Ok st) f ∙ ap (λ (o : Option ℕ). continue_at (read_from (n - (k + 1)) s) o st.reading) g)

  pub ends : (st : Step) → a ≡ Ok st → st.next ≡ None → accepted_as st.reading.chart ≡ read_from (n - k) s at r
  ends st f g =
      sym (read_step (Ok st) f ∙ ap (λ (o : Option ℕ). continue_at (read_from (n - (k + 1)) s) o st.reading) g)

  pub refuses : (f : Fault) → a ≡ Err f → refused_for f.refusal f.offset ≡ read_from (n - k) s at r
  refuses f g = sym (read_step (Err f) g)
