-- Which offer decides what a record does: the first, or the second, to the round that opens. Assumes nothing.
use mathlib.Core.Path.{◌≡◌, sym, ap, subst}
use mathlib.Core.Logic.{◌⊎◌, inl, inr}
use mathlib.Core.Bool.{Bool, true, false, So}
use mathlib.Core.Option.{none, some}
use Prim.Native.Nat.{ℕ, ◌+◌, ◌*◌, ◌≤◌}
use native.Mathlib.Omega.{arith}
use Rattle.bitset.specs.Set.{contains}
use Rattle.model.specs.declared.Monitor.{Monitor}
use Rattle.rounds.specs.Chart.{Chart, Accepted}
use Rattle.rounds.specs.Rows.{LogRecord, chart_message, Ready, opened}
use Rattle.rounds.specs.Machine.{Monitor as AbstractMonitor, stuck, ready_for, take_message, opening, prechart_done}
use Rattle.rounds.specs.Machine.{conclude, fits_opening, reopened, accept}
use Rattle.rounds.proofs.Machine.{opened_late, for_some}
use Rattle.rounds.proofs.Offers.{accept_unready}
use Rattle.firing.specs.declared.Sought.{Sought}
use Rattle.firing.specs.declared.Sought.TheVariants.{Ready as ReadyAt, Unready}
use Rattle.firing.specs.Places.{moments_of}
use Rattle.firing.specs.Parts.{taken_at}
use Rattle.stepping.specs.Monitors.{monitor_at}
use Rattle.stepping.specs.Parts.{Offerable, offered_by, Decides}

-- the first offer decides
pub first_decides : (C : Chart) (m : Monitor) (e : LogRecord) → Offerable m e.time → (x : Sought)
    → accept C (monitor_at m) e ≡ offered_by C (monitor_at m) e x
    → ((i : ℕ) → x ≡ ReadyAt i → Ready C (contains m.place.fired) i)
    → Decides C m e (record { sought = x; monitor = m })
first_decides C m e H x s r = record {
  same = s;
  ready = r;
  moments = H.moments;
  few = H.few;
  counts = omega (arith, H.counts);
}

-- no ready region has the chart message
module _ (C : Chart) (A : Accepted C) (m : Monitor) (e : LogRecord) (chart : So (chart_message C e))
    (unready : ready_for C (contains m.place.fired) e ≡ none) (H : Offerable m e.time) where
  unready_same : (prechart_done C (contains m.place.fired) ≡ true) ⊎ (ready_for C (λ i. false) e ≡ none)
      → accept C (monitor_at m) e ≡ conclude C (monitor_at m) e stuck
  unfolding fits_opening conclude
  unready_same (inl d) = rw (accept_unready C (monitor_at m) e A chart unready, d)
  unready_same (inr n) = rw (accept_unready C (monitor_at m) e A chart unready, n)

  -- the main chart, or a message that does not fit: there is no second offer
  pub not_again : (prechart_done C (contains m.place.fired) ≡ true) ⊎ (ready_for C (λ i. false) e ≡ none)
      → Decides C m e (record { sought = Unready; monitor = m })
  unfolding offered_by
  not_again d = first_decides C m e H Unready (unready_same d)
      (λ i p. absurd (let z : ◌≡◌ {A = ℕ} 0 1 = cc in omega arith))

  -- the second offer, to the monitor n
  module _ (d : prechart_done C (contains m.place.fired) ≡ false) (i : ℕ) (f : ready_for C (λ j. false) e ≡ some i)
      (n : Monitor) (E : monitor_at n ≡ reopened C (monitor_at m) e) where
    again_same : accept C (monitor_at m) e ≡ conclude C (monitor_at n) e (taken_at C e.time (monitor_at n).place i)
    unfolding fits_opening take_message reopened opening
    again_same =
        rw (accept_unready C (monitor_at m) e A chart unready, d, f)
        (ap (λ (x : AbstractMonitor). conclude C x e (taken_at C e.time x.place i)) (sym E))

    again_ready : Ready C (contains n.place.fired) i
    unfolding reopened opening
    again_ready = subst (λ (s : ℕ → Bool). Ready C s i) (sym (ap (λ (x : AbstractMonitor). x.place.fired) E))
        (for_some C A (λ j. false) e i f).0

    again_moments : (c : ℕ) → moments_of n.place.resets c ≤ e.time
    unfolding reopened opening
    again_moments c =
        let q : moments_of n.place.resets c ≡ opened C e.time c
        = ap (λ (x : AbstractMonitor). x.place.clocks c) E in
        rw q (opened_late C e.time c)

    again_counts : n.tally.kept + n.tally.dropped ≤ 2 * n.tally.records + 1
    unfolding reopened
    again_counts =
        let r = ap (λ (x : AbstractMonitor). x.tally.records) E in
        let k = ap (λ (x : AbstractMonitor). x.tally.kept) E in
        let w = ap (λ (x : AbstractMonitor). x.tally.dropped) E in
        omega (arith, r, k, w, H.counts)

    pub again_decides : Decides C m e (record { sought = ReadyAt i; monitor = n })
    unfolding offered_by reopened
    again_decides = record {
      same = again_same;
      ready = λ j p.
          let w : i ≡ j = cc in
          subst (Ready C (contains n.place.fired)) w again_ready;
      moments = again_moments;
      few = omega (arith, ap (λ (x : AbstractMonitor). x.tally.records) E, H.few);
      counts = again_counts;
    }
