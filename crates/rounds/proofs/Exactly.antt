-- W24: kept, running on, and dropped or broken, each exactly if the rows say so, after each record of each stretch.
-- Assumes nothing.
use mathlib.Core.Path.{◌≡◌, refl, sym, ◌∙◌, ap}
use mathlib.Core.Logic.{◌⊎◌, inl, inr}
use mathlib.Core.Option.{none}
use Prim.Native.Nat.{ℕ}
use native.Mathlib.Omega.{arith}
use Rattle.base.specs.Lists.{Snoc, ε, ◌▸◌}
use Rattle.model.specs.declared.Cause.{Cause}
use Rattle.rounds.specs.Chart.{Chart, Accepted}
use Rattle.rounds.specs.Rows.{LogRecord, Row, stands, Lawful, NoRow, Full}
use Rattle.rounds.specs.Rows.{NoRowBy}
use Rattle.rounds.specs.Feeds.{refusal, kept, unended, Ends, complete, Answer, refused, broken_at, kept_now}
use Rattle.rounds.specs.Feeds.{dropped_now, entered, moved, quiet, Onward, completes_prechart, fires, stays}
use Rattle.rounds.specs.Feeds.{SaysRunsOn, SaysDroppedOrBroken, Missed, Fits, ExactlyOffered}
use Rattle.rounds.specs.Machine.{Monitor, Step, go_on, keep_round, drop_round, break_round, reopened, feed, after}
use Rattle.rounds.specs.Demand3.{Unbroken, AtLast, Agrees, Meaning}
use Rattle.rounds.proofs.Rows.{one_row}
use Rattle.rounds.proofs.Endings.{Exactly, none_placed, unlawful, Comes, on, keeps, drops, breaks}
use Rattle.rounds.proofs.Offers.{comes_unbroken, reopened_unbroken, both_are, accept_once, accept_twice}
use Rattle.rounds.proofs.Fitness.{after_fit}
use Rattle.rounds.proofs.Second.{second_answer}
use Rattle.rounds.proofs.Feeds.{feed_unbroken, besides_opened, Besides, besides, agrees}

-- the answers by kinds, of which none has two
abbrev kind : Answer → ℕ
kind (refused k) = 0
kind (broken_at n k x) = 1
kind kept_now = 2
kind (dropped_now x) = 1
kind entered = 3
kind moved = 3
kind quiet = 3

on_kind : {a : Answer} → SaysRunsOn a → kind a ≡ 3
on_kind (inl p) = ap kind p
on_kind (inr (inl p)) = ap kind p
on_kind (inr (inr p)) = ap kind p

lost_kind : {a : Answer} → SaysDroppedOrBroken a → kind a ≡ 1
lost_kind (inl t) = ap kind t.1
lost_kind (inr t) = ap kind t.3

module _ {X : Type 0} {a : Answer} where
  on≢lost : SaysRunsOn a → SaysDroppedOrBroken a → X
  on≢lost p q = let z : ◌≡◌ {A = ℕ} 3 1 = sym (on_kind p) ∙ lost_kind q in absurd (omega arith)

  on≢kept : SaysRunsOn a → a ≡ kept_now → X
  on≢kept p q = let z : ◌≡◌ {A = ℕ} 3 2 = sym (on_kind p) ∙ ap kind q in absurd (omega arith)

  lost≢kept : SaysDroppedOrBroken a → a ≡ kept_now → X
  lost≢kept p q = let z : ◌≡◌ {A = ℕ} 1 2 = sym (lost_kind p) ∙ ap kind q in absurd (omega arith)

module _ (C : Chart) (A : Accepted C) where
  -- one accepted record
  module _ (o : ℕ) (s : Snoc LogRecord) (e : LogRecord) (q : Row) (lawful : Lawful C o s q) where
    goes_on : {r : Row} {a : Answer} → Onward C q r a → SaysRunsOn a
    goes_on (completes_prechart h k) = inl refl
    goes_on (fires lt f) = inr (inl refl)
    goes_on (stays p) = inr (inr refl)

    kept_row : Ends C o s e kept → (r : Row) × Lawful C o (s ▸ e) r × Full C (stands r)
    kept_row (complete r L F) = (r, L, F)

    lost : (a : Answer) → SaysDroppedOrBroken a → NoRow C o (s ▸ e) → Exactly C o s e a
    unfolding NoRowBy
    lost a d N = record {
      kept_exactly = (λ p. lost≢kept d p, λ t. absurd (N t.0 t.1));
      runs_on_exactly = (λ p. on≢lost p d, λ t. absurd (N t.0 t.1));
      dropped_or_broken_exactly = (λ p. N, λ h. d);
    }

    exact : {m : Monitor} {v : Step} → Comes C A o s e q lawful m v → Exactly C o s e v.answer
    unfolding NoRowBy go_on keep_round drop_round break_round
    exact (on r a L h O) = record {
      kept_exactly =
          (λ p. on≢kept (goes_on O) p, λ t. absurd (h (rw (one_row C A o (s ▸ e) t.0 r t.1 L) at t.2)));
      runs_on_exactly = (λ p. (r, L, h), λ t. goes_on O);
      dropped_or_broken_exactly = (λ p. on≢lost (goes_on O) p, λ N. absurd (N r L));
    }
    exact (keeps E) =
        let R : (r : Row) × Lawful C o (s ▸ e) r × Full C (stands r) = kept_row E in
        record {
          kept_exactly = (λ p. R, λ t. refl);
          runs_on_exactly = (
            λ p. on≢kept p refl,
            λ t. absurd (t.2 (rw (one_row C A o (s ▸ e) R.0 t.0 R.1 t.1) at R.2)),
          );
          dropped_or_broken_exactly = (λ p. lost≢kept p refl, λ N. absurd (N R.0 R.1));
        }
    exact {m} (drops x E) = lost (drop_round C m e x).answer (inl (x, refl)) (unlawful C A o s e E refl)
    exact {m} (breaks k x d E) = lost (break_round C m e k x d).answer (inr (_, _, x, refl)) (unlawful C A o s e E refl)

  pub exactly : {fs : Snoc LogRecord} (M : Meaning C fs) (o : ℕ) (s : Snoc LogRecord) (e : LogRecord)
      → M.last ≡ unended o s
      → refusal M.accepted e ≡ none → ExactlyOffered C o s e (feed C (after C fs) e).answer
  unfolding AtLast
  exactly {fs} M o s e p h =
      let m = after C fs in
      let G : Agrees C M.accepted M.stretches (unended o s) m = rw p at (agrees C A M.fed).1 in
      let T : Unbroken C o s m = G.at_last in
      let R : Unbroken C e.time ε (reopened C m e) = reopened_unbroken C A e m T in
      let B : Besides C A (unended o s) M.accepted = rw p at (besides C A M.fed) in
      record {
        once_exactly = λ n. rw (feed_unbroken C m e G, h, accept_once C A e m T n)
            (exact o s e T.row T.lawful (comes_unbroken C A e m T (B T.row T.lawful)));
        twice_exactly = λ D F. (
          none_placed C A o s e D.unplaced,
          rw (feed_unbroken C m e G, h, accept_twice C A e m T D F) (exact e.time ε e R.row R.lawful
              (comes_unbroken C A e (reopened C m e) R
              (besides_opened C A e.time M.accepted R.row R.lawful))),
        );
      }

  -- a second offer is answered moved or dropped
  pub second_offer : {fs : Snoc LogRecord} (M : Meaning C fs) (o : ℕ) (s : Snoc LogRecord) (e : LogRecord)
      → M.last ≡ unended o s
      → refusal M.accepted e ≡ none → Missed C o s e → Fits C e
      → let a = (feed C (after C fs) e).answer in (a ≡ moved) ⊎ ((x : Cause) × (a ≡ dropped_now x))
  unfolding AtLast
  second_offer {fs} M o s e p h D F =
      let m = after C fs in
      let G : Agrees C M.accepted M.stretches (unended o s) m = rw p at (agrees C A M.fed).1 in
      let T : Unbroken C o s m = G.at_last in
      rw (feed_unbroken C m e G, h) (second_answer C A m e (after_fit C A fs) T.no_break_case (both_are C A e m T D F))
