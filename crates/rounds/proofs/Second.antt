-- A second offer is answered moved or dropped. The prechart that the record missed lacks a region of another message, and
-- so does every row of the record alone: it completes neither half, and reaches no hot region. Assumes nothing.
use mathlib.Core.Path.{◌≡◌, refl, sym, ap, ◌∙◌}
use mathlib.Core.Logic.{◌≢◌, ◌⊎◌, inl, inr}
use mathlib.Core.Bool.{Bool, false, So, ◌&&◌, false≢true}
use mathlib.Core.Option.{some}
use Prim.Native.Nat.{ℕ, ◌<◌}
use native.Mathlib.Omega.{arith}
use lib.Dec.{eqb, ltb}
use borrow.Author.Tests.{eqb-true, eq-eqb, ltb-true, ltb-false}
use Rattle.base.specs.Lists.{Snoc, ε, ◌▸◌, each, EachIn}
use Rattle.model.specs.declared.Cause.{Cause}
use Rattle.model.specs.Monitor.{cause_of}
use Rattle.rounds.specs.Chart.{Chart, Accepted}
use Rattle.rounds.specs.Rows.{LogRecord, Row, stands, chart_messages, plain, message_regions, Ready}
use Rattle.rounds.specs.Rows.{clock_test, Placed, LawfulIf, Full, PrechartDone, LawfulBy, LawfulButLastBy}
use Rattle.rounds.specs.Rows.{first_failing_by, Lawful, LawfulButLast, first_failing}
use Rattle.rounds.specs.Feeds.{Outcome, Ends, complete, unplaced_main, unplaced_prechart, fails_hot, fails_cold}
use Rattle.rounds.specs.Feeds.{Answer, dropped_now, moved, Onward, completes_prechart, fires, stays, is_dropped}
use Rattle.rounds.specs.Feeds.{Fits}
use Rattle.rounds.specs.Tally.{no_break}
use Rattle.rounds.specs.Machine.{Monitor, Step, opening, go_on, keep_round, drop_round}
use Rattle.rounds.specs.Machine.{break_round, missed, fits_opening, reopened, accept, Fit}
use Rattle.rounds.specs.Demand3.{Unbroken}
use Rattle.base.proofs.Bools.{split, clash, and_left, and_right, or_left, or_right, either}
use Rattle.base.proofs.Facts.{found, none_some, some_same, pass_or_fail, snoc_same_init, snoc_same_last}
use Rattle.base.proofs.Facts.{empty_snoc}
use Rattle.rounds.proofs.Machine.{opening_lacks, for_none}
use Rattle.rounds.proofs.Moments.{holds, waived, message_regions_take, message_regions_skip}
use Rattle.rounds.proofs.Rows.{lawful_empty}
use Rattle.rounds.proofs.Endings.{Comes, on, keeps, drops, breaks}
use Rattle.rounds.proofs.Offers.{missed_parts, opens_unbroken, comes_unbroken, fits_of}

module _ (C : Chart) where
  -- a message region of a row has one of the row's messages
  none_stands : (r : Row) (j : ℕ) → So (stands r j) → plain C j ≡ false → each C.key (message_regions C r) ≢ ε
  none_stands ε j h n c = false≢true h
  none_stands (p ▸ i) j h n c = elim (split (plain C i)) [
    | inl q ↦ elim (either (eqb j i) (stands p j) h) [
      | inl d ↦ clash q (rw (eqb-true j i d) at n)
      | inr d ↦ none_stands p j d n (rw (message_regions_skip C p i q) at c)
    ]
    | inr q ↦ empty_snoc (sym (rw (message_regions_take C p i q) at c))
  ]

  only_message : (r : Row) (j k : ℕ) → So (stands r j) → plain C j ≡ false
      → each C.key (message_regions C r) ≡ ε ▸ k → C.key j ≡ k
  only_message ε j k h n c = absurd (false≢true h)
  only_message (p ▸ i) j k h n c = elim (split (plain C i)) [
    | inl q ↦ elim (either (eqb j i) (stands p j) h) [
      | inl d ↦ clash q (rw (eqb-true j i d) at n)
      | inr d ↦ only_message p j k d n (rw (message_regions_skip C p i q) at c)
    ]
    | inr q ↦
        let w : each C.key (message_regions C p) ▸ C.key i ≡ ε ▸ k = rw (message_regions_take C p i q) at c in
        elim (either (eqb j i) (stands p j) h) [
          | inl d ↦ rw (eqb-true j i d) (snoc_same_last w)
          | inr d ↦ absurd (none_stands p j d n (snoc_same_init w))
        ]
  ]

  -- a region of a placed row is one of the chart's, and all above it stand in the row
  closed_row : (ok : Row → ℕ → Bool) (r : Row) (i : ℕ) → EachIn (Placed C ok) r → So (stands r i)
      → (i < C.regions) × ((a : ℕ) → So (C.above a i) → So (stands r a))
  closed_row ok ε i P h = absurd (false≢true h)
  closed_row ok (p ▸ k) i P h = elim (either (eqb i k) (stands p i) h) [
    | inl d ↦
        let w : i ≡ k = eqb-true i k d in
        (rw w P.1.region, λ a b. or_right (eqb a k) (P.1.order a (rw w at b)))
    | inr d ↦
        let R = closed_row ok p i P.0 d in
        (R.0, λ a b. or_right (eqb a k) (R.1 a b))
  ]

  failing_stands : (o : ℕ) (l : Snoc LogRecord) (r : Row) (x : Cause) (i term : ℕ) → x ≡ cause_of i term
      → first_failing C o l r ≡ some x → So (stands r i)
  unfolding first_failing_by
  failing_stands o l ε x i term z h = none_some refl h
  failing_stands o l (p ▸ k) x i term z h = elim (found (first_failing C o l p)) [
    | inl n ↦ elim (split (holds C o l p k)) [
      | inl t ↦ none_some {o = first_failing C o l (p ▸ k)} (rw (n, t)) h
      | inr t ↦
          let w : cause_of k (clock_test C o l p k) ≡ x = some_same {o = first_failing C o l (p ▸ k)} (rw (n, t)) h in
          let v = ap (λ (y : Cause). y.region) (w ∙ z) in
          or_left (stands p i) (eq-eqb i k (omega (arith, v)))
    ]
    | inr f ↦
        let w : f.0 ≡ x = some_same {o = first_failing C o l (p ▸ k)} (rw f.1) h in
        or_right (eqb i k) (failing_stands o l p f.0 i term (w ∙ z) f.1)
  ]

module _ (C : Chart) (A : Accepted C) where
  -- a region of the prechart that the record missed, with another message: no row of the record alone has it
  record Lacking (e : LogRecord) : Type 0 where
    region : ℕ
    in_prechart_case : region < C.prechart
    is_message_case : plain C region ≡ false
    of_another : C.key region ≢ e.code

  lacking : (m : Monitor) (e : LogRecord) → Fit C m → m.tally.broken.at ≡ 0 → So (missed C m e) → Lacking e
  unfolding PrechartDone
  lacking m e F b h =
      let P = missed_parts C m e h in
      elim (pass_or_fail C.prechart m.place.fired) [
        | inl d ↦ absurd (P.in_prechart_case d)
        | inr (i, L) ↦
            let R : Ready C m.place.fired i = record {
              region = omega (arith, L.below, A.has_main);
              unfired = L.fails;
              under = λ a b. L.before a (A.downward a i b);
            } in
            record {
              region = i;
              in_prechart_case = L.below;
              is_message_case = elim (split (plain C i)) [ inl p ↦ absurd (F.settled b i p R) | inr p ↦ p ];
              of_another = for_none C A m.place.fired e i P.unready R;
            }
      ]

  module _ (e : LogRecord) (F : Fits C e) (K : Lacking e) where
    lacks : (ok : Row → ℕ → Bool) (r : Row) → LawfulIf C ok (ε ▸ e) r → ¬ So (stands r K.region)
    unfolding chart_messages
    lacks ok r L h =
        K.of_another (only_message C r K.region e.code h K.is_message_case (rw F.is_message_case at L.one_for_one))

    -- so none has every prechart region, nor every region, nor a main region
    lacks_prechart : (r : Row) → Lawful C e.time (ε ▸ e) r → ¬ PrechartDone C (stands r)
    unfolding LawfulBy PrechartDone
    lacks_prechart r L D = lacks (holds C e.time (chart_messages C (ε ▸ e))) r L (D K.region K.in_prechart_case)

    lacks_some : (r : Row) → Lawful C e.time (ε ▸ e) r → ¬ Full C (stands r)
    unfolding LawfulBy Full
    lacks_some r L D = lacks (holds C e.time (chart_messages C (ε ▸ e))) r L
        (D K.region (omega (arith, K.in_prechart_case, A.has_main)))

    no_main : (r : Row) (i : ℕ) → LawfulButLast C e.time ε e r → So (stands r i) → i < C.prechart
    unfolding LawfulButLastBy
    no_main r i W h =
        let R = closed_row C (waived C e.time ε e) r i W.placed h in
        elim (split (ltb i C.prechart)) [
          | inl t ↦ ltb-true i C.prechart t
          | inr t ↦ absurd (lacks (waived C e.time ε e) r W
              (R.1 K.region (A.halves K.region i K.in_prechart_case (ltb-false i C.prechart t) R.0)))
        ]

    -- the record is placed: the row does not stay empty
    not_empty_lem : (r : Row) → Lawful C e.time (ε ▸ e) r → r ≢ ε
    unfolding LawfulBy chart_messages message_regions
    not_empty_lem r L p = empty_snoc {l = ε} {a = e.code} (rw (p, F.is_message_case) at L.one_for_one)

    onward_moved : {q r : Row} {a : Answer} → q ≡ ε → Lawful C e.time (ε ▸ e) r → Onward C q r a → a ≡ moved
    onward_moved z L (completes_prechart h k) = absurd (lacks_prechart _ L k)
    onward_moved z L (fires lt f) = refl
    onward_moved z L (stays p) = absurd (not_empty_lem _ L (sym p ∙ z))

    ends_dropped : {x : Outcome} → Ends C e.time ε e x → So (is_dropped x)
    ends_dropped (complete r L D) = absurd (lacks_some r L D)
    ends_dropped (unplaced_main q W L d) = absurd (W F.row F.lawful)
    ends_dropped (unplaced_prechart q W L d) = refl
    ends_dropped (fails_hot r i term W f h) = clash h (A.cold_prechart i (no_main r i W
        (failing_stands C e.time (chart_messages C (ε ▸ e)) r (cause_of i term) i term refl f)))
    ends_dropped (fails_cold r i term W f h) = refl

    comes_so : {q : Row} {lawful : Lawful C e.time ε q} {m : Monitor} {v : Step}
        → Comes C A e.time ε e q lawful m v
        → (v.answer ≡ moved) ⊎ ((x : Cause) × (v.answer ≡ dropped_now x))
    unfolding go_on keep_round drop_round break_round
    comes_so {q} {lawful} (on r a L nf O) = inl (onward_moved (lawful_empty C A e.time q lawful) L O)
    comes_so (keeps E) = absurd (false≢true (ends_dropped E))
    comes_so (drops x E) = inr (x, refl)
    comes_so (breaks k x d E) = absurd (false≢true (ends_dropped E))

  -- a fit monitor without a break has no reason and no cause
  unbroken_fit : (m : Monitor) → Fit C m → m.tally.broken.at ≡ 0 → m.tally.broken ≡ no_break
  unbroken_fit m F b = elim F.break_fits_case [
    | inl (p, q, r) ↦ λ i. record { at = p i; reason = q i; cause = r i }
    | inr (p, q, r) ↦ absurd (omega (arith, p, b))
  ]

  pub second_answer : (m : Monitor) (e : LogRecord) → Fit C m → m.tally.broken.at ≡ 0
      → So (missed C m e && fits_opening C e)
      → ((accept C m e).answer ≡ moved) ⊎ ((x : Cause) × ((accept C m e).answer ≡ dropped_now x))
  unfolding accept reopened opening
  second_answer m e F b t =
      let h : So (missed C m e) = and_left (missed C m e) (fits_opening C e) t in
      let G : Fits C e = fits_of C A e (missed_parts C m e h).message
      (and_right (missed C m e) (fits_opening C e) t) in
      let R : Unbroken C e.time ε (reopened C m e) = opens_unbroken C A e.time (reopened C m e) refl refl
      (unbroken_fit m F b) in
      let w : R.row ≡ ε = lawful_empty C A e.time R.row R.lawful in
      rw t (comes_so e G (lacking m e F b h)
      (comes_unbroken C A e (reopened C m e) R (rw w (opening_lacks C A))))
