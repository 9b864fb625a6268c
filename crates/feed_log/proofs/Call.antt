-- The call as a whole: refused, broken before, or the records taken. Assumes nothing.
use mathlib.Core.Path.{◌≡◌, refl, sym, ap, subst, ◌∙◌}
use mathlib.Core.Bool.{true, false}
use mathlib.Core.Logic.{◌≢◌}
use mathlib.Core.List.{List}
use Prim.Native.Nat.{ℕ, ◌-◌}
use native.Mathlib.Omega.{arith}
use Rattle.base.specs.Lists.{ε, size}
use Rattle.model.specs.declared.Monitor.{Monitor}
use Rattle.chart_value.specs.WellFormed.{well_formed}
use Rattle.chart_value.specs.View.{chart_of}
use Rattle.rounds.specs.Chart.{Chart as Abstract, Accepted}
use Rattle.rounds.specs.Machine.{Fit}
use Rattle.stepping.specs.Monitors.{monitor_at}
use Rattle.monitor.specs.Fit.{fits}
use Rattle.log_clock.specs.declared.Kind.{Kind}
use Rattle.monitor_image.specs.MonitorImage.{monitor_in}
use Rattle.live.specs.Live.{chart_in, is_broken, standing_refusal, standing_in}
use Rattle.live.proofs.Charts.{live_long}
use Rattle.feed_log.specs.declared.LogFed.{LogFed}
use Rattle.feed_log.specs.declared.Run.{Run}
use Rattle.feed_log.specs.declared.Stop.{Stop}
use Rattle.feed_log.specs.declared.Stop.TheVariants.{Broken, NotAChart, Unfit}
use Rattle.feed_log.specs.Feeds.{number_of, FeedsLog, refuses, feeds, at_break, FedLog}
use Rattle.feed_log.specs.Run.{Ran, stop_number, bytes_after, finished_as, stopped_as}
use Rattle.feed_log.proofs.Bytes.{fed_all}

module _ (l : List ℕ) (k : Kind) (s : List ℕ) where
  -- the bytes are refused as they are for a standing
  refused : (stop : Stop) → standing_refusal (standing_in l) ≡ number_of stop → number_of stop ≢ 0 → (r : LogFed)
      → r ≡ stopped_as stop k → FedLog l k s r l
  refused stop e z r q = subst (λ (x : LogFed). FedLog l k s x l) (sym q) (record {
    answers = ε;
    one_by_one =
        subst (λ (x : ℕ). FeedsLog l k s (record { number = x; answers = ε; place = 0; kind = k; bytes = l })) e
        (refuses (λ y. z (sym e ∙ y)));
    is_taken = refl;
    is_last = refl;
    is_counts = refl;
  })

  pub no_chart : well_formed (chart_in l) ≡ false → (r : LogFed) → r ≡ stopped_as NotAChart k → FedLog l k s r l
  unfolding standing_in
  no_chart w r q = refused NotAChart (rw w) (λ z. omega (arith, z)) r q

  module _ (W : well_formed (chart_in l) ≡ true) (m : Monitor) (here : m ≡ monitor_in l) (C : Abstract)
      (same : C ≡ chart_of (chart_in l)) where
    fit_here : {b : _} → fits C m ≡ b → fits (chart_of (chart_in l)) (monitor_in l) ≡ b
    fit_here f = (λ i. fits (sym same i) (sym here i)) ∙ f

    pub unfit : fits C m ≡ false → (r : LogFed) → r ≡ stopped_as Unfit k → FedLog l k s r l
    unfolding standing_in
    unfit f r q = refused Unfit (rw (W, fit_here f)) (λ z. omega (arith, z)) r q

    module _ (f : fits C m ≡ true) where
      standing : standing_refusal (standing_in l) ≡ 0
      unfolding standing_in
      standing = rw (W, fit_here f)

      pub broken_before : is_broken m ≡ true → (r : LogFed) → r ≡ stopped_as Broken k → FedLog l k s r l
      broken_before b r q = subst (λ (x : LogFed). FedLog l k s x l) (sym q) (record {
        answers = ε;
        one_by_one = feeds standing (at_break (ap is_broken (sym here) ∙ b));
        is_taken = refl;
        is_last = refl;
        is_counts = refl;
      })

      pub fed_on : Accepted C → Fit C (monitor_at m) → (x : Run) → Ran C s k m x → (stop : Stop)
          → number_of stop ≡ stop_number s x.at x.kind x.monitor → (r : LogFed)
          → r ≡ finished_as stop m.tally.records x → (n : List ℕ)
          → n ≡ bytes_after l (x.monitor.tally.records - m.tally.records) x.monitor → FedLog l k s r n
      fed_on A F x R stop p r q n e =
          let D : Ran (chart_of (chart_in l)) s k m x = subst (λ (X : Abstract). Ran X s k m x) same R in
          let t = D.is_taken in
          let taken : x.monitor.tally.records - m.tally.records ≡ size D.answers = omega (arith, t) in
          let long = live_long l W in
          let G = fed_all l W (subst Accepted same A) (omega (arith, long)) s k (sym here)
          (subst (λ (X : Abstract). Fit X (monitor_at m)) same F) x.at x.kind x.monitor D.answers D.takes
          D.stops in
          subst (λ (y : LogFed). FedLog l k s y n) (sym q) (record {
            answers = D.answers;
            one_by_one =
                subst (λ (b : List ℕ). FeedsLog l k s (record {
                  number = number_of stop;
                  answers = D.answers;
                  place = x.at;
                  kind = x.kind;
                  bytes = b;
                })) (sym (e ∙ ap (λ (i : ℕ). bytes_after l i x.monitor) taken))
                (subst (λ (j : ℕ). FeedsLog l k s (record {
                  number = j;
                  answers = D.answers;
                  place = x.at;
                  kind = x.kind;
                  bytes = bytes_after l (size D.answers) x.monitor;
                })) (sym p) (feeds standing G));
            is_taken = taken;
            is_last = D.is_last;
            is_counts = D.is_counts;
          })
