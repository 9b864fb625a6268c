-- A fresh monitor is fit, and feeding a fit monitor gives a fit one. Assumes nothing.
use mathlib.Core.Path.{◌≡◌, refl}
use mathlib.Core.Logic.{◌≢◌, ◌⊎◌, inl, inr}
use mathlib.Core.Bool.{false, not, So, ◌&&◌, false≢true}
use Prim.Native.Nat.{ℕ, zero, suc, ◌+◌, ◌*◌, ◌≤◌, ◌<◌}
use native.Mathlib.Omega.{arith}
use lib.Dec.{eqb, ltb, leb}
use borrow.Author.Tests.{eqb-true, eqb-false, ltb-false, ltb-true, leb-false, not-false}
use Rattle.base.specs.Lists.{Snoc, ε, ◌▸◌}
use Rattle.model.specs.Answers.{most_records}
use Rattle.model.specs.declared.Cause.{Cause}
use Rattle.model.specs.Monitor.{no_cause, cause_of}
use Rattle.rounds.specs.Chart.{Chart, condition_of, Accepted}
use Rattle.rounds.specs.Rows.{LogRecord, chart_message, plain, Ready, values, opened, Full}
use Rattle.rounds.specs.Tally.{no_break, counted_as}
use Rattle.rounds.specs.Feeds.{no_ready_region, condition_fails}
use Rattle.rounds.specs.Machine.{Place, Monitor, fresh, Move, stuck, fails, rests, ready_plain, ready_for, fire}
use Rattle.rounds.specs.Machine.{unfired, settle, take_message, opening, full, prechart_done, go_on, keep_round, drop_round}
use Rattle.rounds.specs.Machine.{try_region, break_round, conclude, offer, missed, fits_opening, reopened, accept, feed, after}
use Rattle.rounds.specs.Machine.{CauseIn, Fit}
use Rattle.base.proofs.Bools.{split, or_right, either}
use Rattle.base.proofs.Facts.{found}
use Rattle.rounds.proofs.Machine.{full_false, ready_lacks, unfired_falls, opened_late, opening_lacks, opening_settled}
use Rattle.rounds.proofs.Machine.{plain_some, plain_none, for_some, message_stuck, message_fails, message_fires}

module _ (C : Chart) (A : Accepted C) where
  record FitPlace (t : ℕ) (p : Place) : Type 0 where
    closed : (i a : ℕ) → So (p.fired i) → So (C.above a i) → So (p.fired a)
    within : (i : ℕ) → So (p.fired i) → i < C.regions
    moments : (c : ℕ) → p.clocks c ≤ t
    unused : (c : ℕ) → C.clocks ≤ c → p.clocks c ≡ 0

  Settled : Place → Type 0
  Settled p = (j : ℕ) → So (plain C j) → ¬ Ready C p.fired j

  fire_fits : (t : ℕ) (p : Place) (i : ℕ) → FitPlace t p → Ready C p.fired i → FitPlace t (fire C t p i)
  unfolding fire
  fire_fits t p i F R = record {
    closed = λ j a h b. elim (either (eqb j i) (p.fired j) h) [
      | inl q ↦ or_right (eqb a i) (R.under a (rw (eqb-true j i q) at b))
      | inr q ↦ or_right (eqb a i) (F.closed j a q b)
    ];
    within = λ j h. elim
        (either (eqb j i) (p.fired j) h) [ inl q ↦ rw (eqb-true j i q) R.region | inr q ↦ F.within j q ];
    moments = λ c. elim (split (C.resets i c)) [ inl q ↦ rw q (omega arith) | inr q ↦ rw q (F.moments c) ];
    unused = λ c h. elim
        (split (C.resets i c)) [ inl q ↦ absurd (omega (arith, A.own_clocks i c q)) | inr q ↦ rw q (F.unused c h) ];
  }

  opening_fits : (t : ℕ) → FitPlace t (opening C t)
  unfolding opening opened
  opening_fits t = record {
    closed = λ i a h b. h;
    within = λ i h. absurd (false≢true h);
    moments = opened_late C t;
    unused = λ c h. elim
        (split (ltb c C.clocks)) [ inl q ↦ absurd (omega (arith, ltb-true c C.clocks q)) | inr q ↦ rw q ];
  }

  -- a region whose condition fails, with its failing term
  cause_in : (i : ℕ) (v : ℕ → ℕ) → i < C.regions → condition_of C i v ≡ false → CauseIn C (cause_of i (C.failing i v))
  unfolding condition_of
  cause_in i v h q =
      let n : C.failing i v ≢ 0 = eqb-false (C.failing i v) 0 q in
      record {
        region = i;
        term = C.failing i v;
        is_region = h;
        is_term_case = (omega (arith, n), A.own_terms i v);
        both = refl;
      }

  -- what steps 3 and 4 come to is fit
  FitMove : ℕ → Move → Type 0
  FitMove t stuck = Unit {0}
  FitMove t (fails i term p) = FitPlace t p × (¬ Full C p.fired) × CauseIn C (cause_of i term)
  FitMove t (rests p) = FitPlace t p × Settled p

  settle_fits : (t : ℕ) (k : ℕ) (p : Place) → FitPlace t p → unfired C p.fired ≤ k → FitMove t (settle C t k p)
  unfolding FitMove Settled settle try_region
  settle_fits t zero p F h = elim (found (ready_plain C p.fired)) [
    | inl n ↦ (F, plain_none C A p.fired n)
    | inr f ↦ absurd (omega (arith, unfired_falls C t p f.0 (plain_some C A p.fired f.0 f.1).is_ready))
  ]
  settle_fits t (suc k) p F h = elim (found (ready_plain C p.fired)) [
    | inl n ↦ rw n (F, plain_none C A p.fired n)
    | inr f ↦
        let R : Ready C p.fired f.0 = (plain_some C A p.fired f.0 f.1).is_ready in
        elim (split (condition_of C f.0 (values C t p.clocks))) [
          | inl q ↦ rw (f.1, q)
              (settle_fits t k (fire C t p f.0) (fire_fits t p f.0 F R)
              (omega (arith, unfired_falls C t p f.0 R)))
          | inr q ↦ rw (f.1, q) (F, ready_lacks C p.fired f.0 R, cause_in f.0 _ R.region q)
        ]
  ]

  message_fits : (p : Place) (e : LogRecord) → FitPlace e.time p → FitMove e.time (take_message C p e)
  unfolding FitMove
  message_fits p e F = elim (found (ready_for C p.fired e)) [
    | inl n ↦ rw (message_stuck C p e n) tt
    | inr f ↦
        let R : Ready C p.fired f.0 = (for_some C A p.fired e f.0 f.1).0 in
        elim (split (condition_of C f.0 (values C e.time p.clocks))) [
          | inl q ↦ rw (message_fires C p e f.0 f.1 q)
              (settle_fits e.time (unfired C (fire C e.time p f.0).fired) (fire C e.time p f.0)
              (fire_fits e.time p f.0 F R) (omega arith))
          | inr q ↦
              rw (message_fails C p e f.0 f.1 q)
              (F, ready_lacks C p.fired f.0 R, cause_in f.0 _ R.region q)
        ]
  ]

  -- a monitor that is fit, or stands between two offers, where a drop is counted and its record is not yet
  record Offerable (t : ℕ) (m : Monitor) : Type 0 where
    at_place : FitPlace t m.place
    unfinished : ¬ Full C m.place.fired
    settled : Settled m.place
    counts : m.tally.kept + m.tally.dropped ≤ 2 * m.tally.records + 1

  -- one offer of an accepted record, counted
  module _ (m : Monitor) (e : LogRecord) (F : Offerable e.time m) (room : m.tally.records < most_records) where
    -- at place p, with k kept and d dropped rounds and no break
    abbrev unbroken_at : Place → ℕ → ℕ → Monitor
    unbroken_at p k d = record { place = p; tally = counted_as m.tally e.time k d no_break }

    unbroken_fits : (p : Place) (k d : ℕ) → FitPlace e.time p → ¬ Full C p.fired → Settled p
        → k + d ≤ 2 * suc m.tally.records
        → Fit C (unbroken_at p k d)
    unfolding Settled
    unbroken_fits p k d P n r h = record {
      closed = P.closed;
      within = P.within;
      unfinished = n;
      settled = λ b. r;
      moments = P.moments;
      unused = P.unused;
      few = room;
      counts = h;
      break_fits_case = inl (refl, refl, refl);
    }

    opening_fit : (k d : ℕ) → k + d ≤ 2 * suc m.tally.records → Fit C (unbroken_at (opening C e.time) k d)
    unfolding opening Settled
    opening_fit k d h =
        unbroken_fits (opening C e.time) k d (opening_fits e.time) (opening_lacks C A) (opening_settled C A) h

    drop_fit : (x : Cause) → Fit C (drop_round C m e x).next
    unfolding drop_round
    drop_fit x = opening_fit m.tally.kept (suc m.tally.dropped) (omega (arith, F.counts))

    keep_fit : Fit C (keep_round C m e).next
    unfolding keep_round
    keep_fit = opening_fit (suc m.tally.kept) m.tally.dropped (omega (arith, F.counts))

    break_fit : (k : ℕ) (x : Cause) (p : Place)
        → ((k ≡ no_ready_region) × (x ≡ no_cause)) ⊎ ((k ≡ condition_fails) × CauseIn C x) → FitPlace e.time p
        → ¬ Full C p.fired
        → Fit C (break_round C m e k x p).next
    unfolding break_round
    break_fit k x p h P n = record {
      closed = P.closed;
      within = P.within;
      unfinished = n;
      settled = λ b. absurd (omega (arith, b));
      moments = P.moments;
      unused = P.unused;
      few = room;
      counts = omega (arith, F.counts);
      break_fits_case = inr (omega arith, omega arith, h);
    }

    conclude_fit : (v : Move) → FitMove e.time v → Fit C (conclude C m e v).next
    unfolding FitMove conclude go_on
    conclude_fit stuck S = elim (split (prechart_done C m.place.fired)) [
      | inl q ↦ rw q (break_fit no_ready_region no_cause m.place (inl (refl, refl)) F.at_place F.unfinished)
      | inr q ↦ rw q (drop_fit no_cause)
    ]
    conclude_fit (fails i term p) S = elim (split (C.hot i)) [
      | inl q ↦ rw q (break_fit condition_fails (cause_of i term) p (inr (refl, S.2)) S.0 S.1)
      | inr q ↦ rw q (drop_fit (cause_of i term))
    ]
    conclude_fit (rests p) S = elim (split (full C p.fired)) [
      | inl q ↦ rw q keep_fit
      | inr q ↦
          rw q (unbroken_fits p m.tally.kept m.tally.dropped S.0 (full_false C p.fired q) S.1
          (omega (arith, F.counts)))
    ]

    offer_fit : Fit C (offer C m e).next
    unfolding offer go_on
    offer_fit = elim (split (chart_message C e)) [
      | inl q ↦ rw q (conclude_fit (take_message C m.place e) (message_fits m.place e F.at_place))
      | inr q ↦
          rw q (unbroken_fits m.place m.tally.kept m.tally.dropped F.at_place F.unfinished
          F.settled (omega (arith, F.counts)))
    ]

  -- an accepted record
  module _ (m : Monitor) (e : LogRecord) (F : Fit C m) (later : m.tally.now ≤ e.time)
      (room : m.tally.records < most_records)
      (unbroken : m.tally.broken.at ≡ 0) where
    first_offer : Offerable e.time m
    unfolding Settled
    first_offer = record {
      at_place = record {
        closed = F.closed;
        within = F.within;
        moments = λ c. omega (arith, F.moments c, later);
        unused = F.unused;
      };
      unfinished = F.unfinished;
      settled = F.settled unbroken;
      counts = omega (arith, F.counts);
    }

    second_offer : Offerable e.time (reopened C m e)
    unfolding Settled reopened opening
    second_offer = record {
      at_place = opening_fits e.time;
      unfinished = opening_lacks C A;
      settled = opening_settled C A;
      counts = omega (arith, F.counts);
    }

    accept_fit : Fit C (accept C m e).next
    unfolding accept reopened
    accept_fit = elim (split (missed C m e && fits_opening C e)) [
      | inl q ↦ rw q (offer_fit (reopened C m e) e second_offer room)
      | inr q ↦ rw q (offer_fit m e first_offer room)
    ]

  pub feed_fit : (m : Monitor) (e : LogRecord) → Fit C m → Fit C (feed C m e).next
  unfolding feed
  feed_fit m e F = elim (split (not (eqb m.tally.broken.at 0))) [
    | inl b ↦ rw b F
    | inr b ↦ elim (split (ltb e.time m.tally.now)) [
      | inl t ↦ rw (b, t) F
      | inr t ↦ elim (split (leb most_records m.tally.records)) [
        | inl r ↦ rw (b, t, r) F
        | inr r ↦
            rw (b, t, r)
            (accept_fit m e F (ltb-false e.time m.tally.now t) (leb-false most_records m.tally.records r)
            (eqb-true m.tally.broken.at 0 (not-false (eqb m.tally.broken.at 0) b)))
      ]
    ]
  ]

  pub fresh_fit : Fit C fresh
  fresh_fit = record {
    closed = λ i a h b. h;
    within = λ i h. absurd (false≢true h);
    unfinished = opening_lacks C A;
    settled = λ b. opening_settled C A;
    moments = λ c. omega arith;
    unused = λ c h. refl;
    few = omega arith;
    counts = omega arith;
    break_fits_case = inl (refl, refl, refl);
  }

  pub after_fit : (fs : Snoc LogRecord) → Fit C (after C fs)
  unfolding after
  after_fit ε = fresh_fit
  after_fit (fs ▸ e) = feed_fit (after C fs) e (after_fit fs)
