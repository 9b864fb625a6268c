-- The monitor of zeros is the machine's fresh one. Assumes nothing.
use mathlib.Core.Path.{◌≡◌, ap, fun_ext}
use Prim.Native.Nat.{ℕ, ◌≤◌, ◌<◌}
use native.Mathlib.Omega.{arith}
use native.Mathlib.Decide.{dec_lt}
use lib.ListN.{length, replicate, get_or-replicate, length-replicate, get_or-eq_default}
use Rattle.bitset.proofs.Laws.{contains_empty}
use Rattle.model.specs.declared.Moment.{Moment}
use Rattle.model.specs.Chart.{most_clocks}
use Rattle.model.specs.Monitor.{zero_monitor}
use Rattle.rounds.specs.Tally.{fresh_tally}
use Rattle.rounds.specs.Machine.{fresh}
use Rattle.firing.specs.Places.{moments_of}
use Rattle.stepping.specs.Monitors.{monitor_at}

zero_moments : (k : ℕ) → moments_of zero_monitor.place.resets k ≡ 0
zero_moments k = by (dec_lt k most_clocks)
  where
    zero : Moment
    zero = record { 0 = 0 }

    by : Dec (k < most_clocks) → moments_of zero_monitor.place.resets k ≡ 0
    by (yes h) = ap (λ (x : Moment). x.0) (get_or-replicate most_clocks k (record { 0 = 0 }) (record { 0 = 0 }) h)
    by (no h) =
        let l : length (replicate {A = Moment} most_clocks (record { 0 = 0 })) ≤ k = simp length-replicate
        (omega arith) in
        ap (λ (x : Moment). x.0) (get_or-eq_default (replicate most_clocks (record { 0 = 0 })) (record { 0 = 0 }) l)

pub zero_fresh : monitor_at zero_monitor ≡ fresh
zero_fresh = λ i. record {
  place = record { fired = fun_ext contains_empty i; clocks = fun_ext zero_moments i };
  tally = fresh_tally;
}
