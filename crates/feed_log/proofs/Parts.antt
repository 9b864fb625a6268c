-- The parts of a call: where the run stands, why it stopped, what it wrote. Assumes nothing.
use mathlib.Core.Path.{◌≡◌, ap, ◌∙◌}
use mathlib.Core.Bool.{true}
use mathlib.Core.Logic.{◌≢◌}
use mathlib.Core.List.{List}
use Prim.Native.Nat.{ℕ, ◌≤◌}
use borrow.Author.Tests.{eq-eqb, ne_eqb}
use lib.ListN.{length}
use Rattle.model.specs.declared.Monitor.{Monitor}
use Rattle.log_clock.specs.declared.Kind.{Kind}
use Rattle.log_check.specs.Refusal.{Checked}
use Rattle.log_check.specs.declared.pace.Pace.{Pace}
use Rattle.log_check.specs.Check.{step_at}
use Rattle.log_check.specs.Met.{kind_in, ended_by}
use Rattle.wire.specs.Writing.{Wrote}
use Rattle.monitor_image.specs.MonitorImage.{monitor_size, monitor_bytes}
use Rattle.live.specs.Live.{is_broken}
use Rattle.live.proofs.Feeding.{monitor_at_start}
use Rattle.feed_log.specs.Run.{reached_as, checked_number, stop_number, bytes_after}

module _ (k : Kind) (p : Pace) (m : Monitor) (at last : ℕ) (counts : List ℕ) where
  pub reached_none : last ≡ 0
      → record { monitor = m; at = at; kind = k; last = last; counts = counts } ≡ reached_as k p m at last counts
  reached_none e = rw (eq-eqb last 0 e)

  pub reached_some : last ≢ 0 → (j : Kind) → j ≡ kind_in p m.tally.now
      → record { monitor = m; at = at; kind = j; last = last; counts = counts } ≡ reached_as k p m at last counts
  reached_some n j e =
      rw (ne_eqb last 0 n) (λ i. record { monitor = m; at = at; kind = e i; last = last; counts = counts })

pub is_broken_lem : (m : Monitor) → m.tally.broken.at ≢ 0 → is_broken m ≡ true
is_broken_lem m b = rw (ne_eqb m.tally.broken.at 0 b)

module _ (s : List ℕ) (at : ℕ) (k : Kind) (m : Monitor) where
  pub stop_broken : m.tally.broken.at ≢ 0 → 1 ≡ stop_number s at k m
  stop_broken b = rw (ne_eqb m.tally.broken.at 0 b)

  pub stop_ended : m.tally.broken.at ≡ 0 → (c d : Checked) → c ≡ d
      → d ≡ ended_by m.tally.records (step_at s at k m.tally.now m.tally.records) → (x : ℕ)
      → x ≡ checked_number c → x ≡ stop_number s at k m
  stop_ended b c d p e x q =
      rw (eq-eqb m.tally.broken.at 0 b) (q ∙ ap checked_number (p ∙ e))

module _ (l : List ℕ) (m : Monitor) (taken : ℕ) where
  pub wrote_after : taken ≢ 0 → {n : List ℕ} {j : ℕ} → Wrote l 0 (monitor_bytes m) n j → monitor_size ≤ length l
      → n ≡ bytes_after l taken m
  wrote_after b w h = rw (ne_eqb taken 0 b) (monitor_at_start m w h)

  pub stayed : taken ≡ 0 → l ≡ bytes_after l taken m
  stayed e = rw (eq-eqb taken 0 e)
