-- Steps 3 and 4 over any chart: what the loop that tests and fires one region after the other keeps. Assumes nothing.
use mathlib.Core.Path.{◌≡◌, refl, sym, ◌∙◌}
use mathlib.Core.Option.{none, some}
use Prim.Native.Nat.{ℕ, zero, suc, ◌<◌}
use native.Mathlib.Omega.{arith}
use borrow.Author.Tests.{ne_eqb}
use Rattle.rounds.specs.Chart.{Chart, condition_of, Accepted}
use Rattle.rounds.specs.Rows.{Ready, values}
use Rattle.rounds.specs.Machine.{Place, fails, rests, ready_plain, unfired, fire, try_region, settle}
use Rattle.rounds.proofs.Machine.{plain_some, unfired_falls}
use Rattle.firing.specs.Parts.{taken_at}

-- from region i at place p the loop came to the ready region k at place q
pub record OnTheWay (C : Chart) (t : ℕ) (p : Place) (i : ℕ) (q : Place) (k : ℕ) : Type 0 where
  pub same : taken_at C t p i ≡ taken_at C t q k
  pub ready : Ready C q.fired k

pub way_starts : {C : Chart} {t : ℕ} {p : Place} {i : ℕ} → Ready C p.fired i → OnTheWay C t p i p i
way_starts R = record { same = refl; ready = R }

module _ {C : Chart} {t i k : ℕ} {p q : Place} (W : OnTheWay C t p i q k) {term : ℕ}
    (test : term ≡ C.failing k (values C t q.clocks)) where
  pub way_fails : ¬ (term ≡ 0) → fails k term q ≡ taken_at C t p i
  unfolding try_region condition_of
  way_fails h = sym (W.same ∙ rw (← test, ne_eqb term 0 h))

  module _ (h : term ≡ 0) {q' : Place} (e : q' ≡ fire C t q k) where
    fires : taken_at C t p i ≡ settle C t (unfired C q'.fired) q'
    unfolding try_region condition_of
    fires = W.same ∙ rw (← test, h, ← e)

    pub way_less : unfired C q'.fired < unfired C q.fired
    way_less = rw e (omega (arith, unfired_falls C t q k W.ready))

    pub way_rests : ready_plain C q'.fired ≡ none → rests q' ≡ taken_at C t p i
    unfolding settle
    way_rests f = sym (fires ∙ stops (unfired C q'.fired))
      where
        stops : (n : ℕ) → settle C t n q' ≡ rests q'
        stops zero = refl
        stops (suc n) = rw f

    pub way_on : Accepted C → {j : ℕ} → ready_plain C q'.fired ≡ some j → OnTheWay C t p i q' j
    unfolding settle
    way_on A {j} f =
        let R = (plain_some C A q'.fired j f).is_ready in
        record { same = fires ∙ rw (← unfired_falls C t q' j R, f); ready = R }
