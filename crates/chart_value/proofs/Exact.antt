-- Refusal 20's test is exact: a chart is well formed exactly if some accepted bytes give it, and exactly if the
-- writer's do. Assumes nothing.
use mathlib.Core.Path.{◌≡◌, refl}
use mathlib.Core.Bool.{Bool, true}
use mathlib.Core.List.{List}
use mathlib.Core.Logic.{◌↔◌}
use Prim.Native.Nat.{ℕ}
use mir.Val.{Val}
use denote.Laws.{Is}
use denote.Struct.Declared.{row}
use Rattle.model.specs.contracts.Chart as chart
use Rattle.model.specs.declared.Chart.{Chart}
use Rattle.chart_reader.specs.Read.{read_chart}
use Rattle.chart_step.proofs.Numbers.{refusal_nonzero}
use Rattle.chart_reader.specs.Said.{Said, accepted_as}
use Rattle.chart_reader.proofs.Ends.{Reads, accepts, refuses, reads}
use Rattle.chart_value.specs.WellFormed.{well_formed}
use Rattle.chart_value.specs.Writer.{chart_bytes}
use Rattle.chart_value.specs.Given.{Given}
use Rattle.chart_value.proofs.Facts.{wf_of}
use Rattle.chart_value.proofs.Owned.{owned_shape, owned_at}
use Rattle.chart_value.proofs.Small.{chart_small, small_at}
use Rattle.chart_value.proofs.RoundTrip.{round_trip}
use Rattle.chart_value.proofs.Sound.{sound}

written : (c : Chart) (vs : List Val) → Is (row chart.the_type) c vs
    → (well_formed c ≡ true) ↔ (read_chart (chart_bytes c) ≡ accepted_as c)
written c vs p = ((λ e. round_trip c (owned_shape c vs p) e), (λ e. (sound (chart_bytes c) c e).fine))

exact : (c : Chart) (vs : List Val) → Is (row chart.the_type) c vs → (well_formed c ≡ true) ↔ Given c
exact c vs p = (
  λ e. record {
    bytes = chart_bytes c;
    small = small_at (chart_bytes c) (chart_small c (wf_of c e) (owned_at c vs p));
    accepted = (written c vs p).0 e;
  },
  λ g. (sound g.bytes c g.accepted).fine,
)

-- the test and what it means
pub exact_test : (c : Chart) (vs : List Val) → Is (row chart.the_type) c vs → (r : Bool) → r ≡ well_formed c
    → (r ≡ well_formed c) × ((r ≡ true) ↔ Given c)
exact_test c vs p r e = (e, rw e (exact c vs p))

-- what `well_formed` promises, from the test alone
pub promised : (c : Chart) (vs : List Val) → Is (row chart.the_type) c vs → (r : Bool) → r ≡ well_formed c
    → (r ≡ well_formed c) × ((r ≡ true) ↔ Given c) × ((r ≡ true) ↔ (read_chart (chart_bytes c) ≡ accepted_as c))
promised c vs p r e = (e, (exact_test c vs p r e).1, rw e (written c vs p))

accepted_as_lem : {x : Said} → Reads x → x.number ≡ 0 → x ≡ accepted_as x.chart
accepted_as_lem (accepts c) h = refl
accepted_as_lem (refuses f offset) h = absurd (refusal_nonzero f h)

-- a chart that is read passes the test
pub accepted_whole : (s : List ℕ) → (read_chart s).number ≡ 0 → well_formed (read_chart s).chart ≡ true
accepted_whole s h = (sound s (read_chart s).chart (accepted_as_lem (reads s) h)).fine
