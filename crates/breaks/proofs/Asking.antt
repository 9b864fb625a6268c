-- The answer by its tests in their order. Assumes nothing.
use mathlib.Core.Path.{◌≡◌, sym, ap, ◌∙◌}
use mathlib.Core.Bool.{true, false}
use Rattle.std.specs.Prelude.{Ok, Err}
use mathlib.Core.Logic.{◌≢◌}
use mathlib.Core.List.{List}
use Prim.Native.Nat.{ℕ}
use borrow.Author.Tests.{eq-eqb, ne_eqb}
use Rattle.model.specs.declared.Chart.{Chart}
use Rattle.model.specs.declared.Monitor.{Monitor}
use Rattle.chart_value.specs.WellFormed.{well_formed}
use Rattle.chart_value.specs.View.{chart_of}
use Rattle.chart_value.specs.Records.{logged}
use Rattle.rounds.specs.Machine.{Monitor as AbstractMonitor, after}
use Rattle.stepping.specs.Monitors.{monitor_at}
use Rattle.log_check.specs.declared.JudgeRefusal.TheVariants.{NotAChart}
use Rattle.log_check.specs.Refusal.{Checked}
use Rattle.log_check.specs.Check.{check_log}
use Rattle.log_check.specs.Sound.{sound_records}
use Rattle.breaks.specs.Breaks.{by_fault, breaks_of}

module _ (c : Chart) (s : List ℕ) where
  pub no_chart : well_formed c ≡ false → Err NotAChart ≡ breaks_of c s
  unfolding breaks_of
  no_chart w = rw w

  -- with the monitor after the pass
  module _ (m : Monitor) (w : well_formed c ≡ true) (a : monitor_at m ≡ after (chart_of c) (logged (sound_records s))) where
    at : m.tally.broken.at ≡ (after (chart_of c) (logged (sound_records s))).tally.broken.at
    at = ap (λ (x : AbstractMonitor). x.tally.broken.at) a

    pub yes : m.tally.broken.at ≢ 0 → Ok true ≡ breaks_of c s
    unfolding breaks_of
    yes b = rw (w, ne_eqb _ 0 (λ z. b (at ∙ z)))

    pub no_break_case : m.tally.broken.at ≡ 0 → (x : Checked) → check_log s ≡ x → by_fault x ≡ breaks_of c s
    unfolding breaks_of
    no_break_case b x e = rw (w, eq-eqb (after (chart_of c) (logged (sound_records s))).tally.broken.at 0 (sym at ∙ b), e)
