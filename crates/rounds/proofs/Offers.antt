-- Which records are offered twice: the machine's tests say what the rows say. And what the machine does with an accepted
-- record, case by case. Assumes nothing.
use mathlib.Core.Path.{◌≡◌, refl, ap}
use mathlib.Core.Logic.{inl, inr}
use mathlib.Core.Bool.{false, not, cond, So, ◌&&◌, false≢true}
use mathlib.Core.Option.{none, some}
use Prim.Native.Nat.{ℕ, ◌<◌}
use native.Mathlib.Omega.{arith}
use borrow.Author.Tests.{eq-eqb, not-true}
use Rattle.base.specs.Lists.{Snoc, ε, ◌▸◌, size, some_below, is_found}
use Rattle.model.specs.Monitor.{no_cause}
use Rattle.rounds.specs.Chart.{Chart, Accepted}
use Rattle.rounds.specs.Rows.{LogRecord, Row, stands, chart_message, chart_messages, message_regions, opened}
use Rattle.rounds.specs.Rows.{reset_moment, LawfulBy, Lawful, LawfulButLast, Full, PrechartDone}
use Rattle.rounds.specs.Tally.{Break, no_break}
use Rattle.rounds.specs.Feeds.{no_ready_region, quiet, Missed, Fits}
use Rattle.rounds.specs.Machine.{Monitor, stuck, ready_for, take_message, opening, prechart_done, go_on, drop_round}
use Rattle.rounds.specs.Machine.{break_round, conclude, offer, missed, fits_opening, reopened, accept}
use Rattle.rounds.specs.Demand3.{Unbroken}
use Rattle.base.proofs.Bools.{split, clash, and_both, and_left, and_right, or_left}
use Rattle.base.proofs.Facts.{found, found_none, found_some}
use Rattle.base.proofs.Loops.{one_passes, some_at}
use Rattle.rounds.proofs.Machine.{opening_settled, done_false, done_is_not, message_stuck, for_some, for_none}
use Rattle.rounds.proofs.Rows.{one_row}
use Rattle.rounds.proofs.Rounds.{unready, placeable}
use Rattle.rounds.proofs.Endings.{Comes, comes}

-- a row in which a region stands is not empty
row_size : (r : Row) (i : ℕ) → So (stands r i) → 0 < size r
row_size ε i h = absurd (false≢true h)
row_size (p ▸ j) i h = omega arith

module _ (C : Chart) (m : Monitor) (e : LogRecord) where
  -- what the machine's test for a missed record says
  pub record MissedParts : Type 0 where
    pub message : So (chart_message C e)
    pub in_prechart_case : ¬ PrechartDone C m.place.fired
    pub started : So (some_below C.regions m.place.fired)
    pub unready : ready_for C m.place.fired e ≡ none

  pub missed_parts : So (missed C m e) → MissedParts
  unfolding missed
  missed_parts h =
      let f = m.place.fired in
      let h₁ = and_right (chart_message C e) _ h in
      let h₂ = and_right (not (prechart_done C f)) _ h₁ in
      record {
        message = and_left (chart_message C e) _ h;
        in_prechart_case = done_false C f (not-true (prechart_done C f) (and_left (not (prechart_done C f)) _ h₁));
        started = and_left (some_below C.regions f) _ h₂;
        unready = found_none (ready_for C f e)
            (not-true (is_found (ready_for C f e)) (and_right (some_below C.regions f) _ h₂));
      }

  pub parts_missed : MissedParts → So (missed C m e)
  unfolding missed
  parts_missed P = rw (P.message, done_is_not C m.place.fired P.in_prechart_case, P.started, P.unready)

  -- what the machine does with an accepted record, case by case
  pub accept_quiet : chart_message C e ≡ false → accept C m e ≡ go_on C m e quiet m.place
  unfolding accept missed offer
  accept_quiet h = rw h

  pub accept_ready : So (chart_message C e) → (i : ℕ) → ready_for C m.place.fired e ≡ some i
      → accept C m e ≡ conclude C m e (take_message C m.place e)
  unfolding accept missed offer
  accept_ready h i f = elim (split (prechart_done C m.place.fired)) [
    | inl d ↦ rw (h, d)
    | inr d ↦ elim
        (split (some_below C.regions m.place.fired)) [ inl t ↦ rw (h, d, t, f) | inr t ↦ rw (h, d, t) ]
  ]

  -- with nothing fired, the regions ready at the opening are ready now, and one of them would have had the message
  idle : Accepted C → some_below C.regions m.place.fired ≡ false → ready_for C m.place.fired e ≡ none
      → ¬ So (fits_opening C e)
  unfolding fits_opening
  idle A t n h =
      let f = found_some (ready_for C (λ i. false) e) h in
      let R = for_some C A (λ i. false) e f.0 f.1 in
      for_none C A m.place.fired e f.0 n
      (record {
        region = R.0.region;
        unfired = elim (split (m.place.fired f.0)) [
          | inl p ↦ clash (one_passes m.place.fired f.0 C.regions R.0.region p) t
          | inr p ↦ p
        ];
        under = λ a p. absurd (false≢true (R.0.under a p));
      })
      R.1

  pub accept_unready : Accepted C → So (chart_message C e) → ready_for C m.place.fired e ≡ none
      → accept C m e ≡ cond (prechart_done C m.place.fired) (break_round C m e no_ready_region no_cause m.place)
      (cond (fits_opening C e) (conclude C (reopened C m e) e (take_message C (opening C e.time) e)) (drop_round C m e no_cause))
  unfolding accept missed offer reopened conclude
  accept_unready A h n =
      let p : take_message C m.place e ≡ stuck = message_stuck C m.place e n in
      elim (split (prechart_done C m.place.fired)) [
        | inl d ↦ rw (h, d, p, d)
        | inr d ↦ elim (split (some_below C.regions m.place.fired)) [
          | inl t ↦ elim (split (fits_opening C e)) [ inl r ↦ rw (h, d, t, n, r) | inr r ↦ rw (h, d, t, n, r, p, d) ]
          | inr t ↦ elim (split (fits_opening C e)) [ inl r ↦ absurd (idle A t n r) | inr r ↦ rw (h, d, t, p, d, r) ]
        ]
      ]

module _ (C : Chart) where
  row_some : (o : ℕ) (s : Snoc LogRecord) (r : Row) → Lawful C o s r → 0 < size r
      → So (some_below C.regions (stands r))
  unfolding LawfulBy
  row_some o s ε L h = absurd (omega arith)
  row_some o s (p ▸ i) L h =
      one_passes (stands (p ▸ i)) i C.regions L.placed.1.region (or_left (stands p i) (eq-eqb i i refl))

module _ (C : Chart) (A : Accepted C) where
  -- a stretch that has just opened
  pub opens : (t : ℕ) → Lawful C t ε ε
  unfolding LawfulBy chart_messages message_regions
  opens t = record { one_for_one = refl; placed = tt; settled = opening_settled C A }

  pub opens_unbroken : (t : ℕ) (m : Monitor) → m.place.fired ≡ stands ε → m.place.clocks ≡ opened C t
      → m.tally.broken ≡ no_break
      → Unbroken C t ε m
  unfolding reset_moment
  opens_unbroken t m f c b = record {
    row = ε;
    lawful = opens t;
    has_fired = f;
    has_clocks = c;
    no_break_case = ap (λ (x : Break). x.at) b;
    no_reason = ap (λ (x : Break). x.reason) b;
    no_cause_case = ap (λ (x : Break). x.cause) b;
  }

  -- what one offer of an accepted record comes to
  pub comes_unbroken : {o : ℕ} {s : Snoc LogRecord} (e : LogRecord) (m : Monitor) (T : Unbroken C o s m)
      → ¬ Full C (stands T.row)
      → Comes C A o s e T.row T.lawful m (offer C m e)
  comes_unbroken {o} {s} e m T l = comes C A o s e T.row T.lawful m T.has_fired T.has_clocks l

  -- a chart message fits exactly if a region that is ready at the opening has it
  pub fits_of : (e : LogRecord) → So (chart_message C e) → So (fits_opening C e) → Fits C e
  unfolding fits_opening
  fits_of e c h =
      let f = found_some (ready_for C (λ i. false) e) h in
      let W : (r : Row) × LawfulButLast C e.time ε e r
      = placeable C A e.time ε e c ε (opens e.time) f.0 f.1 in
      record { is_message_case = c; row = W.0; lawful = W.1 }

  pub of_fits : (e : LogRecord) → Fits C e → So (fits_opening C e)
  unfolding fits_opening
  of_fits e F = elim (found (ready_for C (λ i. false) e)) [
    | inl n ↦ absurd (unready C A e.time ε e F.is_message_case ε (opens e.time) n F.row F.lawful)
    | inr f ↦ rw f.1
  ]

  -- the monitor m of the stretch s, opened at o, and one more record e
  module _ {o : ℕ} {s : Snoc LogRecord} (e : LogRecord) (m : Monitor) (T : Unbroken C o s m) where
    pub reopened_unbroken : Unbroken C e.time ε (reopened C m e)
    unfolding reopened opening
    reopened_unbroken = opens_unbroken e.time (reopened C m e) refl refl
        (λ i. record { at = T.no_break_case i; reason = T.no_reason i; cause = T.no_cause_case i })

    missed_says : So (missed C m e) → Missed C o s e
    missed_says h =
        let P = missed_parts C m e h in
        let f = T.has_fired in
        let r : Row = T.row in
        let i = some_at C.regions (stands r) (rw f at P.started) in
        record {
          row = r;
          lawful = T.lawful;
          fired_before = row_size r i.0 i.1;
          in_prechart_case = rw f at P.in_prechart_case;
          unplaced = unready C A o s e P.message r T.lawful (rw f at P.unready);
        }

    missed_is : So (chart_message C e) → Missed C o s e → So (missed C m e)
    missed_is c M =
        let r : Row = T.row in
        let w : M.row ≡ r = one_row C A o s M.row r M.lawful T.lawful in
        elim (found (ready_for C (stands r) e)) [
          | inl n ↦ parts_missed C m e (record {
            message = c;
            in_prechart_case = rw T.has_fired (rw w at M.in_prechart_case);
            started = rw T.has_fired (row_some C o s r T.lawful (rw w at M.fired_before));
            unready = rw T.has_fired n;
          })
          | inr f ↦
              let W = placeable C A o s e c r T.lawful f.0 f.1 in
              absurd (M.unplaced W.0 W.1)
        ]

    pub both_say : So (missed C m e && fits_opening C e) → Missed C o s e × Fits C e
    both_say h =
        let k : So (missed C m e) = and_left (missed C m e) (fits_opening C e) h in
        (missed_says k, fits_of e (missed_parts C m e k).message (and_right (missed C m e) (fits_opening C e) h))

    pub both_are : Missed C o s e → Fits C e → So (missed C m e && fits_opening C e)
    both_are M F = and_both (missed_is F.is_message_case M) (of_fits e F)

    -- what the machine does with an accepted record
    pub accept_once : ¬ (Missed C o s e × Fits C e) → accept C m e ≡ offer C m e
    unfolding accept
    accept_once h = elim (split (missed C m e && fits_opening C e)) [ inl t ↦ absurd (h (both_say t)) | inr t ↦ rw t ]

    pub accept_twice : Missed C o s e → Fits C e → accept C m e ≡ offer C (reopened C m e) e
    unfolding accept
    accept_twice M F = rw (both_are M F)
