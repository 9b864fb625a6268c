-- The standing of a monitor for a chart, by its tests in their order. Assumes nothing.
use mathlib.Core.Path.{◌≡◌, ap, subst, ◌∙◌}
use mathlib.Core.Bool.{Bool, true, false}
use Rattle.model.specs.declared.Chart.{Chart}
use Rattle.model.specs.declared.Monitor.{Monitor}
use Rattle.model.specs.declared.FeedRefusal.TheVariants.{NotAChart, Unfit}
use Rattle.model.specs.declared.Verdict.{Verdict}
use Rattle.chart_value.specs.WellFormed.{well_formed}
use Rattle.chart_value.specs.View.{chart_of}
use Rattle.rounds.specs.Chart.{Chart as Abstract}
use Rattle.rounds.specs.Machine.{Fit}
use Rattle.stepping.specs.Monitors.{monitor_at}
use Rattle.monitor.specs.Fit.{fits}
use Rattle.verdict.specs.Parts.{verdict_by}
use Rattle.verdict.proofs.Stands.{verdict_same}
use Rattle.std.specs.Prelude.{Ok, Err}
use Rattle.live.specs.Live.{standing_by}

module _ (c : Chart) (m : Monitor) where
  pub stands_no_chart : well_formed c ≡ false → Err NotAChart ≡ standing_by c m
  stands_no_chart w = rw w

  module _ (w : well_formed c ≡ true) (C : Abstract) (same : C ≡ chart_of c) where
    fit_same : (b : Bool) → b ≡ fits C m → b ≡ fits (chart_of c) m
    fit_same b t = t ∙ ap (λ (C : Abstract). fits C m) same

    pub stands_unfit : (b : Bool) → b ≡ fits C m → b ≡ false → Err Unfit ≡ standing_by c m
    stands_unfit b t n = rw (w, ← fit_same b t, n)

    pub stands_fit : (v : Verdict) (b : Bool) → b ≡ fits C m → b ≡ true → Fit C (monitor_at m)
        → v ≡ verdict_by c m → Ok v ≡ standing_by c m
    stands_fit v b t y F q =
        let fit : Fit (chart_of c) (monitor_at m) = subst (λ (C : Abstract). Fit C (monitor_at m)) same F in
        rw (w, ← fit_same b t, y)
        (ap Ok (q ∙ verdict_same c m fit))
