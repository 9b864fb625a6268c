-- Making a monitor and feeding it, case by case: the tests of the definitions decide which case applies, and two cases
-- never apply at once. Assumes nothing.
use mathlib.Core.Path.{◌≡◌, refl, sym, ap, subst, ◌∙◌}
use mathlib.Core.Logic.{inl, inr, ◌↔◌}
use mathlib.Core.Bool.{true, false}
use Prim.Native.Nat.{ℕ}
use native.Mathlib.Omega.{arith}
use borrow.Author.Tests.{ltb-true, ltb-false, leb-true, leb-false, lt-ltb, le-ltb, le-leb, eq-eqb, ne_eqb, eqb-true}
use borrow.Author.Tests.{eqb-false}
use lib.Dec.{eqb, leb, ltb}
use Rattle.std.specs.Prelude.{Result, Ok, Err}
use lib.ListN.{length}
use Rattle.model.specs.declared.Chart.{Chart}
use Rattle.model.specs.declared.Monitor.{Monitor}
use Rattle.model.specs.declared.Record.{Record}
use Rattle.model.specs.Chart.{most_clocks}
use Rattle.model.specs.declared.FeedRefusal.{FeedRefusal}
use Rattle.model.specs.declared.Answer.TheVariants.{Broken, Kept, Dropped, Entered, Moved, Quiet}
use Rattle.model.specs.Answers.{Fed, most_records}
use Rattle.chart_value.specs.Given.{Given}
use Rattle.chart_value.specs.View.{chart_of}
use Rattle.chart_value.specs.WellFormed.{well_formed}
use Rattle.chart_value.proofs.Shown.{shown}
use Rattle.rounds.specs.Feeds.{Answer as AbstractAnswer, refused}
use Rattle.rounds.specs.Machine as machine
use Rattle.rounds.specs.Machine.{feed, Fit}
use Rattle.base.proofs.Bools.{split, clash}
use Rattle.paper.specs.Taken.{Taken, status_of, Acceptable}
use Rattle.paper.specs.Demand2.{Demand2}
use Rattle.paper.proofs.Demand2.{demand_2}
use Rattle.stepping.specs.declared.Step.{Step}
use Rattle.stepping.specs.Answers.{fed_answer, HandsBack}
use Rattle.stepping.specs.Monitors.{monitor_at, step_of}
use Rattle.chart_value.specs.declared.accepted.NotAChart.{NotAChart}
use Rattle.monitor.specs.declared.Made.{Made}
use Rattle.monitor.specs.Feed.{made_number, MadeOf, feed_of}
use Rattle.monitor.specs.Stored.{Stored}
use Rattle.chart_value.specs.Records.{log_record}
use Rattle.monitor.specs.Fit.{fits}
use Rattle.monitor.proofs.Fitness.{of_fit, fit_exactly}
use Rattle.monitor.proofs.History.{feeding, view_tells}
use Rattle.base.specs.Just.{Just}
use Rattle.feed_claims.specs.Feeds.{MakesAs, makes, no_chart, FeedsAs, not_a_chart_case}
use Rattle.feed_claims.specs.Feeds.{unfit, broken_again, time_falls_case, too_many, takes, FeedsJust}

same_made : (a b : Result (Unit {0}) NotAChart) → made_number a ≡ made_number b → a ≡ b
same_made (Ok x) (Ok y) e = refl
same_made (Ok x) (Err y) e = absurd (omega arith)
same_made (Err x) (Ok y) e = absurd (omega arith)
same_made (Err x) (Err y) e = refl

is_refused_lem : (a : Fed) (k : ℕ) → fed_answer a ≡ refused k → (f : FeedRefusal) × (a ≡ Err f)
is_refused_lem (Err f) k e = (f, refl)
is_refused_lem (Ok (Broken n f x)) k e = let z : ◌≡◌ {A = ℕ} 0 1 = cc in absurd (omega arith)
is_refused_lem (Ok Kept) k e = let z : ◌≡◌ {A = ℕ} 0 1 = cc in absurd (omega arith)
is_refused_lem (Ok (Dropped x)) k e = let z : ◌≡◌ {A = ℕ} 0 1 = cc in absurd (omega arith)
is_refused_lem (Ok Entered) k e = let z : ◌≡◌ {A = ℕ} 0 1 = cc in absurd (omega arith)
is_refused_lem (Ok Moved) k e = let z : ◌≡◌ {A = ℕ} 0 1 = cc in absurd (omega arith)
is_refused_lem (Ok Quiet) k e = let z : ◌≡◌ {A = ℕ} 0 1 = cc in absurd (omega arith)

-- of a chart value for which the test of refusal 20 is exact
module _ (c : Chart) (G : (well_formed c ≡ true) ↔ Given c) where
  pub given_not : well_formed c ≡ false → ¬ Given c
  given_not e g = clash (G.1 g) e

  makes_as : (r : Made) → MadeOf c r → MakesAs c r
  makes_as r M = elim (split (well_formed c)) [
    | inl w ↦
        let a = same_made (Ok tt) r.answer (sym (M.number ∙ rw w)) in
        subst (λ (x : Made). MakesAs c x) (λ i. record { answer = a i; monitor = sym M.monitor i }) (makes (G.0 w))
    | inr w ↦
        let a = same_made (Err (record {})) r.answer (sym (M.number ∙ rw w)) in
        subst (λ (x : Made). MakesAs c x) (λ i. record { answer = a i; monitor = sym M.monitor i })
        (no_chart (given_not w))
  ]

  makes_only : (x y : Made) → MakesAs c x → MakesAs c y → y ≡ x
  makes_only x y (makes g) (makes h) = refl
  makes_only x y (makes g) (no_chart n) = absurd (n g)
  makes_only x y (no_chart n) (makes g) = absurd (n g)
  makes_only x y (no_chart n) (no_chart m) = refl

  pub makes_just : (r : Made) → MadeOf c r → Just (MakesAs c) r
  makes_just r M = record { holds = makes_as r M; only = λ y N. makes_only r y (makes_as r M) N }

  module _ (m : Monitor) (e : Record) (r : Step) (places : length m.place.resets ≡ most_clocks)
      (q : step_of r ≡ feed_of c m e) (B : HandsBack m r) where
    answered_as : (a : AbstractAnswer) → fed_answer r.answer ≡ a → r.next ≡ m → FeedsAs c m e a m
        → FeedsAs c m e (fed_answer r.answer) r.next
    answered_as a h n F =
        subst (λ (x : Monitor). FeedsAs c m e (fed_answer r.answer) x) (sym n)
        (subst (λ (x : AbstractAnswer). FeedsAs c m e x m) (sym h) F)

    next_back : (k : ℕ) → fed_answer r.answer ≡ refused k → r.next ≡ m
    next_back k a = let t = is_refused_lem r.answer k a in B.refused t.0 t.1

    as_refused : (k : ℕ) → (feed_of c m e).answer ≡ refused k → FeedsAs c m e (refused k) m
        → FeedsAs c m e (fed_answer r.answer) r.next
    as_refused k h F = let a = ap (λ (x : machine.Step). x.answer) q ∙ h in answered_as (refused k) a (next_back k a) F

    -- a record that is taken, by the steps of S20
    module _ (g : Given c) (P : Acceptable (chart_of c) (monitor_at m) (log_record e)) where
      steps : Demand2 (chart_of c)
      steps = demand_2 (chart_of c) (shown c g).accepted

      as_machine : step_of r ≡ feed (chart_of c) (monitor_at m) (log_record e)
      as_machine = q ∙ (feeding c (G.1 g) (shown c g).accepted).one m e P.fit

      taken : Taken (chart_of c) (status_of (chart_of c) (monitor_at m)) (log_record e)
          (status_of (chart_of c) (monitor_at r.next)) (fed_answer r.answer)
      taken =
          subst (λ (x : machine.Step). Taken (chart_of c) (status_of (chart_of c) (monitor_at m)) (log_record e)
          (status_of (chart_of c) x.next) x.answer)
          (sym as_machine) (steps.given (monitor_at m) (log_record e) P)

      fit_again : Fit (chart_of c) (monitor_at r.next)
      fit_again =
          subst (λ (x : machine.Step). Fit (chart_of c) x.next) (sym as_machine)
          (steps.stays_fit (monitor_at m) (log_record e) P)

      taken_only : (b : AbstractAnswer) (n : Monitor) → Fit (chart_of c) (monitor_at n)
          → Taken (chart_of c) (status_of (chart_of c) (monitor_at m)) (log_record e) (status_of (chart_of c) (monitor_at n)) b
          → (b ≡ fed_answer r.answer) × (monitor_at n ≡ monitor_at r.next)
      taken_only b n F T =
          let o = steps.only (monitor_at m) (log_record e) P _ b T in
          let x = ap (λ (s : machine.Step). s.next) as_machine in (
            o.1 ∙ sym (ap (λ (s : machine.Step). s.answer) as_machine),
            steps.faithful (monitor_at n) (monitor_at r.next) F fit_again (o.0 ∙ ap (status_of (chart_of c)) (sym x)),
          )

    feeds_as : FeedsAs c m e (fed_answer r.answer) r.next
    unfolding feed_of feed
    feeds_as = elim (split (well_formed c)) [
      | inr w ↦ as_refused _ (rw w) (not_a_chart_case (given_not w))
      | inl w ↦
          let g = G.0 w in
          let A = (shown c g).accepted in
          elim (split (fits (chart_of c) m)) [
            | inr f ↦ as_refused _ (rw (w, f)) (unfit g (λ F. clash (of_fit (chart_of c) A m F) f))
            | inl f ↦
                let F = (fit_exactly (chart_of c) A m places true (sym f)).0 refl in
                elim (split (eqb m.tally.broken.at 0)) [
                  | inr b ↦
                      answered_as _ (ap (λ (x : machine.Step). x.answer) q ∙ rw (w, f, b))
                      (B.broken (eqb-false _ _ b)) (broken_again g F (eqb-false _ _ b))
                  | inl b ↦ elim (split (ltb (log_record e).time m.tally.now.0)) [
                    | inl t ↦ as_refused _ (rw (w, f, b, t)) (time_falls_case g F (eqb-true _ _ b) (ltb-true _ _ t))
                    | inr t ↦ elim (split (leb most_records m.tally.records)) [
                      | inl k ↦
                          as_refused _ (rw (w, f, b, t, k))
                          (too_many g F (eqb-true _ _ b) (ltb-false _ _ t) (leb-true _ _ k))
                      | inr k ↦
                          let P : Acceptable (chart_of c) (monitor_at m)
                          (log_record e) =
                          record {
                            fit = F;
                            unbroken = eqb-true _ _ b;
                            forward = ltb-false _ _ t;
                            room = leb-false _ _ k;
                          } in
                          takes g P _ _ (taken g P) (fit_again g P)
                    ]
                  ]
                ]
          ]
    ]

    answered : (a : AbstractAnswer) → (feed_of c m e).answer ≡ a → a ≡ fed_answer r.answer
    answered a h = sym (ap (λ (x : machine.Step). x.answer) q ∙ h)

    -- a refusal hands back the monitor
    back : (k : ℕ) → (feed_of c m e).answer ≡ refused k → (refused k ≡ fed_answer r.answer) × (m ≡ r.next)
    back k h = let a = answered (refused k) h in (a, sym (next_back k (sym a)))

    fit_of : (g : Given c) → Fit (chart_of c) (monitor_at m) → fits (chart_of c) m ≡ true
    fit_of g F = of_fit (chart_of c) (shown c g).accepted m F

    feeds_only : Stored r.next → (a : AbstractAnswer) (n : Monitor) → Stored n → FeedsAs c m e a n
        → (a ≡ fed_answer r.answer) × (n ≡ r.next)
    unfolding feed_of feed
    feeds_only S a n N (not_a_chart_case g) =
        elim (split (well_formed c)) [ inl w ↦ absurd (g (G.0 w)) | inr w ↦ back _ (rw w) ]
    feeds_only S a n N (unfit g u) = elim (split (fits (chart_of c) m)) [
      | inl f ↦ absurd (u ((fit_exactly (chart_of c) (shown c g).accepted m places true (sym f)).0 refl))
      | inr f ↦ back _ (rw (G.1 g, f))
    ]
    feeds_only S a n N (broken_again g F b) = (answered _ (rw (G.1 g, fit_of g F, ne_eqb _ _ b)), sym (B.broken b))
    feeds_only S a n N (time_falls_case g F b t) = back _ (rw (G.1 g, fit_of g F, eq-eqb _ _ b, lt-ltb _ _ t))
    feeds_only S a n N (too_many g F b t k) = back _ (rw (G.1 g, fit_of g F, eq-eqb _ _ b, le-ltb _ _ t, le-leb _ _ k))
    feeds_only S a n N (takes g P b k T F) = let o = taken_only g P b n F T in (o.0, view_tells n r.next N S o.1)

    pub feeds_just : Stored r.next → FeedsJust c m e (fed_answer r.answer) r.next
    feeds_just S = record { holds = feeds_as; only = feeds_only S }
