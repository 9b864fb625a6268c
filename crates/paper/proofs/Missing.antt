-- The machine's test for a second offer says just what the configuration and the chart say (T33): `MissedIn` and
-- `Starts`. Assumes nothing.
use mathlib.Core.Path.{◌≡◌}
use mathlib.Core.Logic.{inl, inr}
use mathlib.Core.Bool.{Bool, false, So, ◌&&◌}
use Prim.Native.Nat.{ℕ, ◌<◌}
use Rattle.rounds.specs.Chart.{Chart, Accepted}
use Rattle.rounds.specs.Rows.{LogRecord, chart_message, plain}
use Rattle.rounds.specs.Machine.{Monitor, ready_for, missed, fits_opening}
use Rattle.base.proofs.Bools.{split, and_both, and_left, and_right}
use Rattle.base.proofs.Facts.{found, found_some}
use Rattle.base.proofs.Loops.{one_passes, some_at}
use Rattle.rounds.proofs.Machine.{opening_settled, chart_nonzero, is_chart, for_some, for_none, for_is}
use Rattle.rounds.proofs.Offers.{missed_parts, parts_missed}
use Rattle.paper.specs.Runs.{config_at}
use Rattle.paper.specs.Taken.{Unmatched, MissedIn, Starts}

module _ (C : Chart) (A : Accepted C) (e : LogRecord) where
  -- what could start a round is a chart message: no plain region follows the minimal cut
  pub starts_chart : Starts C e → So (chart_message C e)
  starts_chart S =
      let p : plain C S.region ≡ false = elim
      (split (plain C S.region)) [ inl q ↦ absurd (opening_settled C A S.region q S.follows) | inr q ↦ q ] in
      is_chart C e S.region S.follows.region p S.has_it

  starts_of : So (fits_opening C e) → Starts C e
  unfolding fits_opening
  starts_of h =
      let f = found_some (ready_for C (λ i. false) e) h in
      let R = for_some C A (λ i. false) e f.0 f.1 in
      record { region = f.0; follows = R.0; has_it = R.1 }

  of_starts : Starts C e → So (fits_opening C e)
  unfolding fits_opening
  of_starts S = rw (for_is C A (λ i. false) e S.region S.follows S.has_it (chart_nonzero C e (starts_chart S)))

  -- a monitor, at any moment t
  module _ (m : Monitor) (t : ℕ) where
    abbrev here : ℕ → Bool
    here = m.place.fired

    missed_of : So (missed C m e) → MissedIn C (config_at C t m.place) e
    unfolding Unmatched config_at
    missed_of h =
        let P = missed_parts C m e h in
        record {
          unmatched = λ s R. for_none C A here e s P.unready R;
          in_prechart_case = P.in_prechart_case;
          fired_before = let s = some_at C.regions here P.started in (s.0, s.1);
        }

    of_missed : ((i : ℕ) → So (here i) → i < C.regions) → So (chart_message C e)
        → MissedIn C (config_at C t m.place) e → So (missed C m e)
    unfolding Unmatched config_at
    of_missed w c M = elim (found (ready_for C here e)) [
      | inl n ↦
          let i : ℕ = M.fired_before.0 in
          let b : So (here i) = M.fired_before.1 in
          parts_missed C m e (record {
            message = c;
            in_prechart_case = M.in_prechart_case;
            started = one_passes here i C.regions (w i b) b;
            unready = n;
          })
      | inr f ↦
          let R = for_some C A here e f.0 f.1 in
          absurd (M.unmatched f.0 R.0 R.1)
    ]

    pub twice_of : So (missed C m e && fits_opening C e) → MissedIn C (config_at C t m.place) e × Starts C e
    twice_of h =
        let k : So (missed C m e) = and_left (missed C m e) (fits_opening C e) h in
        (missed_of k, starts_of (and_right (missed C m e) (fits_opening C e) h))

    pub of_twice : ((i : ℕ) → So (here i) → i < C.regions) → MissedIn C (config_at C t m.place) e → Starts C e
        → So (missed C m e && fits_opening C e)
    of_twice w M S = and_both (of_missed w (starts_chart S) M) (of_starts S)
