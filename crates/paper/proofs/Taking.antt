-- Feeding an acceptable record does just what the source's steps do (S20), and these give nothing else: it is offered
-- once, or twice, just where `Taken` says so. And a fit monitor can be had back from its status. Assumes nothing.
use mathlib.Core.Path.{◌≡◌, sym, ap, ◌∙◌, subst, fun_ext}
use mathlib.Core.Logic.{◌⊎◌, inl, inr}
use mathlib.Core.Bool.{false, cond, So, ◌&&◌}
use Prim.Native.Nat.{ℕ, ◌+◌, ◌-◌}
use native.Mathlib.Omega.{arith}
use lib.Dec.{ltb}
use borrow.Author.Tests.{eq-eqb, ltb-false, le-ltb, lt-leb}
use Rattle.model.specs.declared.Cause.{Cause}
use Rattle.model.specs.Answers.{most_records}
use Rattle.rounds.specs.Chart.{Chart, Accepted}
use Rattle.rounds.specs.Rows.{LogRecord, chart_message, values}
use Rattle.rounds.specs.Tally.{reopened_tally}
use Rattle.rounds.specs.Feeds.{Answer, dropped_now, moved, quiet}
use Rattle.rounds.specs.Machine.{take_message, opening, Monitor, Step, go_on, offer, missed, fits_opening, reopened, accept, feed}
use Rattle.rounds.specs.Machine.{Fit}
use Rattle.base.proofs.Bools.{split, clash}
use Rattle.rounds.proofs.Machine.{opened_late, opening_settled}
use Rattle.rounds.proofs.Offers.{accept_quiet}
use Rattle.rounds.proofs.Second.{second_answer}
use Rattle.paper.specs.Runs.{Config, AtRest, config_at}
use Rattle.paper.specs.Taken.{Status, onward, reopening, Offered, case_offered, MissedIn, Starts, Taken, passes}
use Rattle.paper.specs.Taken.{once, twice, case_of, status_of, Acceptable}
use Rattle.paper.proofs.Steps.{opening_config}
use Rattle.paper.proofs.Offering.{unplaceable, case_for, Is, Offerable, waited, offer_is, is_on, is_offer}
use Rattle.paper.proofs.Offering.{numbered_offer}
use Rattle.paper.proofs.Missing.{twice_of, of_twice}

module _ (C : Chart) where
  -- feeding's first tests let the record through
  accepts : (m : Monitor) (e : LogRecord) → Acceptable C m e → feed C m e ≡ accept C m e
  unfolding feed
  accepts m e P =
      rw (
        eq-eqb m.tally.broken.at 0 P.unbroken,
        le-ltb e.time m.tally.now P.forward,
        lt-leb most_records m.tally.records P.room,
      )

  -- the clocks' values determine the reset moments
  same_clocks : (m m' : Monitor) → Fit C m → Fit C m' → m.tally.now ≡ m'.tally.now
      → values C m.tally.now m.place.clocks ≡ values C m'.tally.now m'.place.clocks → (c : ℕ)
      → m.place.clocks c ≡ m'.place.clocks c
  unfolding values
  same_clocks m m' F F' n v c = elim (split (ltb c C.clocks)) [
    | inl r ↦
        let w : m.tally.now - m.place.clocks c ≡ m'.tally.now - m'.place.clocks c = rw r at
        (ap {B = ℕ} (λ (f : ℕ → ℕ). f c) v) in
        omega (arith, F.moments c, F'.moments c)
    | inr r ↦ F.unused c (ltb-false c C.clocks r) ∙ sym (F'.unused c (ltb-false c C.clocks r))
  ]

  pub same_monitor : (m m' : Monitor) → Fit C m → Fit C m' → status_of C m ≡ status_of C m' → m ≡ m'
  unfolding config_at
  same_monitor m m' F F' E =
      let v : values C m.tally.now m.place.clocks ≡ values C m'.tally.now m'.place.clocks
      = ap {B = ℕ → ℕ} (λ (x : Status). x.config.valuation) E in
      let k : m.place.clocks ≡ m'.place.clocks = fun_ext
      (same_clocks m m' F F' (ap {B = ℕ} (λ (x : Status). x.tally.now) E) v) in
      λ i. record {
        place = record { fired = (E i).config.cut; clocks = k i };
        tally = (E i).tally;
      }

  -- between two offers the monitor stands as the steps have it
  reopened_status : (m : Monitor) (e : LogRecord) → status_of C (reopened C m e) ≡ reopening (status_of C m) e
  unfolding reopened
  reopened_status m e =
      ap {B = Status} (λ (c : Config). record { config = c; tally = reopened_tally m.tally e.time })
      (opening_config C e.time)

  -- the number of the case, by the answer, by which offer it was, and by whether the machine found a region
  unfoldable pub number : Monitor → LogRecord → Answer → ℕ
  number m e a = cond (missed C m e && fits_opening C e) (7 + case_for (unplaceable (take_message C (reopened C m e).place e)) a)
      (case_for (unplaceable (take_message C m.place e)) a)

module _ (C : Chart) (A : Accepted C) where
  -- one acceptable record e
  module _ (m : Monitor) (e : LogRecord) (P : Acceptable C m e) where
    abbrev before : Status
    before = status_of C m

    first_offer : Offerable C m e
    unfolding AtRest
    first_offer = record { moments = P.fit.moments; forward = P.forward; at_rest = P.fit.settled P.unbroken }

    second_offer : Offerable C (reopened C m e) e
    unfolding reopened opening AtRest
    second_offer = record {
      moments = opened_late C e.time;
      forward = omega arith;
      at_rest = opening_settled C A;
    }

    -- the machine's test, by the steps
    tests_once : ¬ (MissedIn C before.config e × Starts C e) → (missed C m e && fits_opening C e) ≡ false
    tests_once n = elim (split (missed C m e && fits_opening C e)) [
      | inl t ↦ absurd (n (twice_of C A e m m.tally.now t))
      | inr t ↦ t
    ]

    tests_twice : MissedIn C before.config e → Starts C e → So (missed C m e && fits_opening C e)
    tests_twice M S = of_twice C A e m m.tally.now P.fit.within M S

    -- the machine's step is one of the cases
    abbrev IsTaken : Step → Type 0
    IsTaken s = Taken C before e (status_of C s.next) s.answer

    taken_quiet : chart_message C e ≡ false → IsTaken (go_on C m e quiet m.place)
    unfolding go_on
    taken_quiet h =
        subst (λ (c : Config). Taken C before e (onward before e c) quiet) (waited C A m e first_offer) (passes h)

    is_taken : IsTaken (accept C m e)
    unfolding accept
    is_taken = elim (split (chart_message C e)) [
      | inl h ↦ elim (split (missed C m e && fits_opening C e)) [
        | inl t ↦
            let D = twice_of C A e m m.tally.now t in
            let v : Step = offer C (reopened C m e) e in
            rw t (twice D.0 D.1
            (subst (λ (x : Status). Offered C x e (status_of C v.next) v.answer) (reopened_status C m e)
            (offer_is C A (reopened C m e) e second_offer h)))
        | inr t ↦ rw t (once (λ D. clash (tests_twice D.0 D.1) t) (offer_is C A m e first_offer h))
      ]
      | inr h ↦ rw (accept_quiet C m e h) (taken_quiet h)
    ]

    -- and each case is the machine's step
    is : {y : Status} {a : Answer} → Taken C before e y a → Is C (accept C m e) y a
    unfolding accept
    is (passes h) =
        rw (accept_quiet C m e h) (is_on C A m e first_offer quiet m.place (waited C A m e first_offer))
    is (once n O) = rw (tests_once n) (is_offer C A m e first_offer O)
    is {y} {a} (twice M S O) =
        rw (tests_twice M S) (is_offer C A (reopened C m e) e second_offer
        (subst (λ (x : Status). Offered C x e y a) (sym (reopened_status C m e)) O))

    -- the second offer's cases are numbered as the machine has it
    abbrev Numbers : Status → Type 0
    Numbers x = (y : Status) (a : Answer) (O : Offered C x e y a)
        → case_offered C O ≡ case_for (unplaceable (take_message C (reopened C m e).place e)) a

    pub numbered : {y : Status} {a : Answer} (T : Taken C before e y a) → case_of C T ≡ number C m e a
    unfolding number case_for missed
    numbered (passes h) = rw h
    numbered (once n O) = rw (tests_once n) (numbered_offer C A m e first_offer O)
    numbered {y} {a} (twice M S O) =
        rw (tests_twice M S) (ap (λ (k : ℕ). 7 + k)
        (subst Numbers (reopened_status C m e)
        (λ y a O. numbered_offer C A (reopened C m e) e second_offer O) y a O))

  pub given : (m : Monitor) (e : LogRecord) → Acceptable C m e
      → Taken C (status_of C m) e (status_of C (feed C m e).next) (feed C m e).answer
  given m e P = rw (accepts C m e P) (is_taken m e P)

  pub only : (m : Monitor) (e : LogRecord) (P : Acceptable C m e) (y : Status) (a : Answer)
      (T : Taken C (status_of C m) e y a)
      → (y ≡ status_of C (feed C m e).next) × (a ≡ (feed C m e).answer) × (case_of C T ≡ case_of C (given m e P))
  only m e P y a T =
      let I : (y ≡ status_of C (feed C m e).next) × (a ≡ (feed C m e).answer) = rw (accepts C m e P) (is m e P T) in
      (I.0, I.1, numbered m e P T ∙ ap (number C m e) I.1 ∙ sym (numbered m e P (given m e P)))

  pub second_answered : (m : Monitor) (e : LogRecord) → Acceptable C m e → MissedIn C (status_of C m).config e
      → Starts C e
      → let a = (feed C m e).answer in (a ≡ moved) ⊎ ((x : Cause) × (a ≡ dropped_now x))
  second_answered m e P M S =
      rw (accepts C m e P) (second_answer C A m e P.fit P.unbroken (tests_twice m e P M S))
