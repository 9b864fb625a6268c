-- The verdict of a stored monitor is that of what it shows. Assumes nothing.
use mathlib.Core.Path.{◌≡◌, sym, ap, ◌∙◌}
use mathlib.Core.Bool.{true, cond, not, So}
use mathlib.Core.Logic.{inl, inr}
use Prim.Native.Nat.{ℕ, ◌≤◌, ◌<◌}
use native.Mathlib.Omega.{arith}
use lib.Dec.{eqb}
use borrow.Author.Tests.{eqb-true, eqb-false, not-true}
use Rattle.bitset.specs.Set.{contains}
use Rattle.bitset.proofs.Laws.{contains_empty, some_member}
use Rattle.model.specs.declared.Chart.{Chart}
use Rattle.model.specs.declared.Monitor.{Monitor}
use Rattle.model.specs.Chart.{most_lines, most_regions}
use Rattle.base.specs.Lists.{all_below}
use Rattle.base.proofs.Bools.{split, clash}
use Rattle.base.proofs.Facts.{all_of, all_at}
use Rattle.chart_value.specs.WellFormed.{well_formed}
use Rattle.chart_value.specs.View.{chart_of}
use Rattle.chart_value.proofs.Facts.{wf_of}
use Rattle.resting.specs.Rest.{rests}
use Rattle.rounds.specs.Machine.{Fit, prechart_done}
use Rattle.stepping.specs.Monitors.{tally_at, monitor_at}
use Rattle.verdict.specs.Verdict.{broken, nothing_fired, in_prechart, owed, resting, standing_of, verdict_with}
use Rattle.verdict.specs.Verdict.{verdict_of}
use Rattle.verdict.specs.Parts.{standing_by, verdict_by}

-- nothing is fired exactly if the set is empty
none_fired : (n fired : ℕ) → ((i : ℕ) → So (contains fired i) → i < n)
    → eqb fired 0 ≡ all_below n (λ i. not (contains fired i))
none_fired n fired w = elim (split (eqb fired 0)) [
  | inl e ↦ e ∙ sym (all_of n _ (λ i l. ap not (ap (λ (x : ℕ). contains x i) (eqb-true _ _ e) ∙ contains_empty i)))
  | inr e ↦ elim (split (all_below n (λ i. not (contains fired i)))) [
    | inl p ↦
        let m = some_member fired (eqb-false _ _ e) in
        clash m.1 (not-true (contains fired m.0) (all_at n _ p m.0 (w m.0 m.1)))
    | inr p ↦ e ∙ sym p
  ]
]

-- the verdict of a stored monitor is that of what it shows
pub verdict_same : (c : Chart) (m : Monitor) → Fit (chart_of c) (monitor_at m) → verdict_by c m ≡ verdict_of c (monitor_at m)
unfolding standing_by standing_of prechart_done
verdict_same c m F = λ i. verdict_with
    (cond (not (eqb m.tally.broken.at 0)) broken
    (cond (none_fired c.count m.place.fired F.within i) nothing_fired
    (cond (not (all_below c.prechart (contains m.place.fired))) in_prechart
    (cond (rests c (contains m.place.fired)) resting owed))))
    (tally_at m.tally)

-- what the standing's functions ask of a chart
pub record Limits (c : Chart) : Type 0 where
  pub lines : c.lines ≤ most_lines
  pub halves : c.prechart ≤ c.count
  pub regions : c.count ≤ most_regions
  pub prechart : c.prechart ≤ most_regions

pub limits : (c : Chart) → well_formed c ≡ true → Limits c
limits c e =
    let w = wf_of c e in
    let m : c.prechart < c.count = w.main in
    let r : c.count ≤ most_regions = w.room in
    record { lines = w.high; halves = omega arith; regions = r; prechart = omega arith }
