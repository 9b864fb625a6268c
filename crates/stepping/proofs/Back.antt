-- A record that is taken is not refused, and feeding refuses with two numbers alone. Assumes nothing.
use mathlib.Core.Path.{◌≡◌, sym, subst}
use mathlib.Core.Logic.{◌⊎◌, inl, inr}
use mathlib.Core.Bool.{Bool, true, false, cond, not, ◌&&◌}
use Prim.Native.Nat.{ℕ}
use native.Mathlib.Omega.{arith}
use lib.Dec.{eqb, ltb, leb}
use Rattle.model.specs.declared.Cause.{Cause}
use Rattle.model.specs.declared.Monitor.{Monitor}
use Rattle.model.specs.Answers.{Fed, time_falls, too_many_records, most_records}
use Rattle.base.proofs.Bools.{split}
use Rattle.rounds.specs.Chart.{Chart}
use Rattle.rounds.specs.Rows.{LogRecord, chart_message}
use Rattle.rounds.specs.Feeds.{Answer as AbstractAnswer, refused, broken_at, kept_now, dropped_now, entered, moved, quiet}
use Rattle.rounds.specs.Machine.{Monitor as AbstractMonitor, Step as AbstractStep, Move, stuck, fails, rests, full}
use Rattle.rounds.specs.Machine.{take_message, prechart_done, go_on, keep_round, drop_round, break_round, conclude, offer}
use Rattle.rounds.specs.Machine.{missed, fits_opening, reopened, accept, feed}
use Rattle.stepping.specs.declared.Step.{Step}
use Rattle.stepping.specs.Answers.{fed_answer, HandsBack}

unfoldable pub NotRefused : AbstractAnswer → Type 0
NotRefused (refused k) = ⊥
NotRefused (broken_at n k x) = Unit {0}
NotRefused kept_now = Unit {0}
NotRefused (dropped_now x) = Unit {0}
NotRefused entered = Unit {0}
NotRefused moved = Unit {0}
NotRefused quiet = Unit {0}

either_taken : (b : Bool) (x y : AbstractStep) → NotRefused x.answer → NotRefused y.answer
    → NotRefused (cond b x y).answer
either_taken true x y p q = p
either_taken false x y p q = q

module _ (C : Chart) (m : AbstractMonitor) (e : LogRecord) where
  conclude_taken : (v : Move) → NotRefused (conclude C m e v).answer
  unfolding conclude go_on keep_round drop_round break_round NotRefused
  conclude_taken stuck =
      either_taken (prechart_done C m.place.fired) (break_round C m e _ _ m.place) (drop_round C m e _) tt tt
  conclude_taken (fails i term p) = either_taken (C.hot i) (break_round C m e _ _ p) (drop_round C m e _) tt tt
  conclude_taken (rests p) =
      either_taken (full C p.fired) (keep_round C m e) _ tt
      (on (not (prechart_done C m.place.fired) && prechart_done C p.fired))
    where
      on : (b : Bool) → NotRefused (cond b entered moved)
      on true = tt
      on false = tt

  offer_taken : NotRefused (offer C m e).answer
  unfolding offer go_on NotRefused
  offer_taken =
      either_taken (chart_message C e) (conclude C m e (take_message C m.place e)) (go_on C m e quiet m.place)
      (conclude_taken (take_message C m.place e)) tt

pub accept_taken : (C : Chart) (m : AbstractMonitor) (e : LogRecord) → NotRefused (accept C m e).answer
unfolding accept
accept_taken C m e =
    either_taken (missed C m e && fits_opening C e) (offer C (reopened C m e) e) (offer C m e)
    (offer_taken C (reopened C m e) e) (offer_taken C m e)

-- the machine refuses with 22 and 23 alone
pub refuses_with : (C : Chart) (m : AbstractMonitor) (e : LogRecord) {k : ℕ} → (feed C m e).answer ≡ refused k
    → (k ≡ time_falls) ⊎ (k ≡ too_many_records)
unfolding feed NotRefused
refuses_with C m e {k} h = elim (split (eqb m.tally.broken.at 0)) [
  | inl p ↦ elim (split (ltb e.time m.tally.now)) [
    | inl q ↦ inl (sym (same_number (rw (p, q) at h)))
    | inr q ↦ elim (split (leb most_records m.tally.records)) [
      | inl r ↦ inr (sym (same_number (rw (p, q, r) at h)))
      | inr r ↦ absurd (subst NotRefused (rw (p, q, r) at h) (accept_taken C m e))
    ]
  ]
  | inr p ↦ absurd (clashes (rw p at h))
]
  where
    same_number : {a b : ℕ} → refused a ≡ refused b → a ≡ b
    same_number e = cc

    clashes : {a b : ℕ} {x : Cause} → broken_at a b x ≡ refused k → ⊥
    clashes e = let z : ◌≡◌ {A = ℕ} 0 1 = cc in omega arith

pub taken_back : (C : Chart) (v : AbstractMonitor) (e : LogRecord) (m : Monitor) (r : Step)
    → fed_answer r.answer ≡ (accept C v e).answer
    → m.tally.broken.at ≡ 0 → HandsBack m r
unfolding NotRefused
taken_back C v e m r q z = record {
  refused =
      λ k p. absurd (subst (λ (a : Fed). NotRefused (fed_answer a)) p (subst NotRefused (sym q) (accept_taken C v e)));
  broken = λ n. absurd (n z);
}
