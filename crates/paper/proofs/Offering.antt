-- One offer of a record does just what the source's steps do (S20), and these give nothing else: the machine's move on
-- the record and the cases of `Offered` are matched, both ways. Said of any monitor at rest whose moments are not after
-- the record, so that it serves a first offer and a second. Assumes nothing.
use mathlib.Core.Path.{◌≡◌, refl, sym, ap, ◌∙◌, subst}
use mathlib.Core.Logic.{inl, inr}
use mathlib.Core.Bool.{Bool, true, false, cond, So}
use Prim.Native.Nat.{ℕ, suc, ◌-◌, ◌≤◌}
use Rattle.model.specs.declared.Cause.{Cause}
use Rattle.model.specs.Monitor.{no_cause, cause_of}
use Rattle.rounds.specs.Chart.{Chart, Accepted}
use Rattle.rounds.specs.Rows.{LogRecord, chart_message, Full, PrechartDone}
use Rattle.rounds.specs.Feeds.{no_ready_region, condition_fails, Answer, refused, broken_at, kept_now, dropped_now, entered}
use Rattle.rounds.specs.Feeds.{moved, quiet}
use Rattle.rounds.specs.Machine.{Place, Move, stuck, fails, rests, take_message, Monitor, Step, full, prechart_done, go_on}
use Rattle.rounds.specs.Machine.{keep_round, drop_round, break_round, conclude, offer}
use Rattle.base.proofs.Bools.{split}
use Rattle.base.proofs.Facts.{all_of}
use Rattle.rounds.proofs.Machine.{full_true, full_false, done_true, done_false, done_is, done_is_not}
use Rattle.paper.specs.Runs.{Config, wait, AtRest, Over, config_at}
use Rattle.paper.specs.Taken.{Status, onward, keeping, dropping, breaking, word_of, Unmatched, Offered, moves}
use Rattle.paper.specs.Taken.{enters, keeps, fails_cold, fails_hot, unmatched_prechart, unmatched_main}
use Rattle.paper.specs.Taken.{case_offered, status_of}
use Rattle.paper.proofs.Parts.{Failure}
use Rattle.paper.proofs.Steps.{shift_values, opening_config, stuck_of, of_unmatched, steps_of, term_of}
use Rattle.paper.proofs.Steps.{failure_of, of_steps, of_failure}
use Rattle.paper.proofs.Turns.{one_over, over_one, one_chart, turn_of, fails_chart, terminates_of, blocked_of}
use Rattle.paper.proofs.Turns.{terminates_fails, blocked_fails}

-- the machine's tests, and time that passes
module _ (C : Chart) where
  full_is : (f : ℕ → Bool) → Full C f → So (full C f)
  unfolding Full full
  full_is f F = all_of C.regions f F

  full_is_not : (f : ℕ → Bool) → ¬ Full C f → full C f ≡ false
  full_is_not f h = elim (split (full C f)) [ inl t ↦ absurd (h (full_true C f t)) | inr t ↦ t ]

  -- time that passes changes no reset moment
  wait_config : (t u : ℕ) (p : Place) → ((c : ℕ) → p.clocks c ≤ t) → t ≤ u
      → wait C (config_at C t p) (u - t) ≡ config_at C u p
  unfolding config_at
  wait_config t u p h l =
      ap {B = Config} (λ (v : ℕ → ℕ). record { cut = p.fired; valuation = v }) (shift_values C t u p.clocks h l)

-- the machine finds no region
unfoldable pub unplaceable : Move → Bool
unplaceable stuck = true
unplaceable (fails i term p) = false
unplaceable (rests p) = false

-- the number of the case, by the answer
unfoldable pub case_for : Bool → Answer → ℕ
case_for b (refused k) = 0
case_for b quiet = 0
case_for b moved = 1
case_for b entered = 2
case_for b kept_now = 3
case_for b (dropped_now x) = cond b 6 4
case_for b (broken_at n k x) = cond b 7 5

-- the status and the answer of a step
abbrev pub Is : Chart → Step → Status → Answer → Type 0
Is C s y a = (y ≡ status_of C s.next) × (a ≡ s.answer)

-- a monitor to which the record can be offered
pub record Offerable (C : Chart) (m : Monitor) (e : LogRecord) : Type 0 where
  pub moments : (c : ℕ) → m.place.clocks c ≤ m.tally.now
  pub forward : m.tally.now ≤ e.time
  pub at_rest : AtRest C m.place.fired

module _ (C : Chart) (A : Accepted C) (m : Monitor) (e : LogRecord) (P : Offerable C m e) where
  abbrev before : Status
  before = status_of C m

  abbrev start : Config
  start = config_at C m.tally.now m.place

  pub waited : wait C start (e.time - m.tally.now) ≡ config_at C e.time m.place
  waited = wait_config C m.tally.now e.time m.place P.moments P.forward

  -- the machine's step is one of the cases
  abbrev IsOffered : Step → Type 0
  IsOffered s = Offered C before e (status_of C s.next) s.answer

  module _ (h : So (chart_message C e)) where
    offered_drop : (x : Cause) → Offered C before e (dropping before e) (dropped_now x) → IsOffered (drop_round C m e x)
    unfolding drop_round
    offered_drop x O = rw (opening_config C e.time) O

    offered_keep : Offered C before e (keeping before e) kept_now → IsOffered (keep_round C m e)
    unfolding keep_round
    offered_keep O = rw (opening_config C e.time) O

    offered_stuck : take_message C m.place e ≡ stuck → IsOffered (conclude C m e stuck)
    unfolding conclude break_round Unmatched config_at
    offered_stuck p = elim (split (prechart_done C m.place.fired)) [
      | inl q ↦ rw q (subst
          (λ (c : Config). Offered C before e (breaking before e no_ready_region no_cause c)
          (broken_at (suc m.tally.records) no_ready_region no_cause)) waited
          (unmatched_main h (stuck_of C A m.place e p) (done_true C m.place.fired q)))
      | inr q ↦
          rw q (offered_drop no_cause
          (unmatched_prechart h (stuck_of C A m.place e p) (done_false C m.place.fired q)))
    ]

    offered_fails : (i term : ℕ) (q : Place) → take_message C m.place e ≡ fails i term q
        → IsOffered (conclude C m e (fails i term q))
    unfolding conclude break_round config_at
    offered_fails i term q p =
        let F : Failure C start (e.time - m.tally.now) e.code i (config_at C e.time q)
        = failure_of C A m.place e m.tally.now P.moments P.forward h i term q p in
        let k = term_of C A m.place e m.tally.now P.moments P.forward h i term q p in
        elim (split (C.hot i)) [
          | inl t ↦
              rw (t, k) (fails_hot i (config_at C e.time q) (turn_of C before e P.at_rest F)
              (blocked_of C before e P.at_rest F t))
          | inr t ↦ rw (t, k)
              (offered_drop _
              (fails_cold i (config_at C e.time q) (turn_of C before e P.at_rest F)
              (terminates_of C before e P.at_rest F t)))
        ]

    offered_rests : (q : Place) → take_message C m.place e ≡ rests q → IsOffered (conclude C m e (rests q))
    unfolding conclude go_on config_at
    offered_rests q p =
        let z : Config = config_at C e.time q in
        let M : Over C start (word_of C before e) z
        = one_over C before e P.at_rest
        (steps_of C A m.place e m.tally.now P.moments P.forward h q P.at_rest p) in
        elim (split (full C q.fired)) [
          | inl t ↦ rw t (offered_keep (keeps z M (full_true C q.fired t)))
          | inr t ↦ elim (split (prechart_done C m.place.fired)) [
            | inl u ↦ rw (t, u) (moves z M (full_false C q.fired t) (λ d. done_true C m.place.fired u))
            | inr u ↦ elim (split (prechart_done C q.fired)) [
              | inl w ↦ rw (t, u, w)
                  (enters z M (full_false C q.fired t) (done_false C m.place.fired u)
                  (done_true C q.fired w))
              | inr w ↦
                  rw (t, u, w) (moves z M (full_false C q.fired t) (λ d. absurd (done_false C q.fired w d)))
            ]
          ]
        ]

    offered_move : (v : Move) → take_message C m.place e ≡ v → IsOffered (conclude C m e v)
    offered_move stuck p = offered_stuck p
    offered_move (fails i term q) p = offered_fails i term q p
    offered_move (rests q) p = offered_rests q p

    pub offer_is : IsOffered (offer C m e)
    unfolding offer
    offer_is = rw h (offered_move (take_message C m.place e) refl)

  -- and each case is the machine's step
  is_keep : Is C (keep_round C m e) (keeping before e) kept_now
  unfolding keep_round
  is_keep = (rw (opening_config C e.time), refl)

  is_drop : (x : Cause) → Is C (drop_round C m e x) (dropping before e) (dropped_now x)
  unfolding drop_round
  is_drop x = (rw (opening_config C e.time), refl)

  pub is_on : (a : Answer) (q : Place) {z : Config} → z ≡ config_at C e.time q
      → Is C (go_on C m e a q) (onward before e z) a
  unfolding go_on
  is_on a q p = (ap {B = Status} (onward before e) p, refl)

  is_break : (k : ℕ) (x : Cause) (q : Place) {z : Config} → z ≡ config_at C e.time q
      → Is C (break_round C m e k x q) (breaking before e k x z) (broken_at (suc m.tally.records) k x)
  unfolding break_round
  is_break k x q p = (ap {B = Status} (breaking before e k x) p, refl)

  -- what the machine concludes from a place at rest, by its fired regions
  concludes_moved : (q : Place) → ¬ Full C q.fired → (PrechartDone C q.fired → PrechartDone C m.place.fired)
      → conclude C m e (rests q) ≡ go_on C m e moved q
  unfolding conclude
  concludes_moved q nf k = elim (split (prechart_done C m.place.fired)) [
    | inl u ↦ rw (full_is_not C q.fired nf, u)
    | inr u ↦
        rw (full_is_not C q.fired nf, u, done_is_not C q.fired (λ d. done_false C m.place.fired u (k d)))
  ]

  concludes_entered : (q : Place) → ¬ Full C q.fired → ¬ PrechartDone C m.place.fired
      → PrechartDone C q.fired
      → conclude C m e (rests q) ≡ go_on C m e entered q
  unfolding conclude
  concludes_entered q nf k d =
      rw (full_is_not C q.fired nf, done_is_not C m.place.fired k, done_is C q.fired d)

  concludes_kept : (q : Place) → Full C q.fired → conclude C m e (rests q) ≡ keep_round C m e
  unfolding conclude
  concludes_kept q f = rw (full_is C q.fired f)

  offer_as : So (chart_message C e) → {v : Move} → take_message C m.place e ≡ v → offer C m e ≡ conclude C m e v
  unfolding offer
  offer_as h p = rw (h, p)

  -- where a prompt run leads, the machine comes to rest
  record Rests (z : Config) : Type 0 where
    place : Place
    is_conclude : offer C m e ≡ conclude C m e (rests place)
    same_config : z ≡ config_at C e.time place
    same_cut : z.cut ≡ place.fired

  rests_at_lem : (z : Config) → Over C start (word_of C before e) z → Rests z
  unfolding config_at
  rests_at_lem z M =
      let O = over_one C before e P.at_rest M in
      let h = one_chart C before e P.at_rest O in
      let W = of_steps C A m.place e m.tally.now P.moments P.forward h z O in
      record {
        place = W.0;
        is_conclude = offer_as h W.1;
        same_config = W.2;
        same_cut = ap {B = ℕ → Bool} (λ (c : Config). c.cut) W.2;
      }

  -- where a condition fails in the source, it does in the machine
  record Fails (i : ℕ) (y : Config) : Type 0 where
    place : Place
    is_fails : take_message C m.place e ≡ fails i (C.failing i y.valuation) place
    is_conclude : offer C m e ≡ conclude C m e (fails i (C.failing i y.valuation) place)
    same_config : y ≡ config_at C e.time place

  fails_at_lem : (i : ℕ) {y : Config} → Failure C start (e.time - m.tally.now) e.code i y → Fails i y
  unfolding config_at
  fails_at_lem i {y} F =
      let h = fails_chart C before e P.at_rest F in
      let W = of_failure C A m.place e m.tally.now P.moments P.forward h i F in
      let f : take_message C m.place e ≡ fails i (C.failing i y.valuation) W.0
      = W.1 ∙ ap {B = Move} (λ (c : Config). fails i (C.failing i c.valuation) W.0) (sym W.2) in
      record { place = W.0; is_fails = f; is_conclude = offer_as h f; same_config = W.2 }

  pub is_offer : {y : Status} {a : Answer} → Offered C before e y a → Is C (offer C m e) y a
  unfolding conclude config_at Unmatched
  is_offer (moves z M nf k) =
      let W : Rests z = rests_at_lem z M in
      rw (W.is_conclude ∙ concludes_moved W.place (rw W.same_cut at nf) (rw W.same_cut at k))
      (is_on moved W.place W.same_config)
  is_offer (enters z M nf k d) =
      let W : Rests z = rests_at_lem z M in
      rw (W.is_conclude ∙ concludes_entered W.place (rw W.same_cut at nf) k (rw W.same_cut at d))
      (is_on entered W.place W.same_config)
  is_offer (keeps z M f) =
      let W : Rests z = rests_at_lem z M in
      rw (W.is_conclude ∙ concludes_kept W.place (rw W.same_cut at f)) is_keep
  is_offer (fails_cold i y T t) =
      let F = terminates_fails C before e P.at_rest T t in
      rw ((fails_at_lem i F.0).is_conclude, F.1) (is_drop (cause_of i (C.failing i y.valuation)))
  is_offer (fails_hot i y T b) =
      let F = blocked_fails C before e P.at_rest T b in
      let W : Fails i y = fails_at_lem i F.0 in
      rw (W.is_conclude, F.1)
      (is_break condition_fails (cause_of i (C.failing i y.valuation)) W.place W.same_config)
  is_offer (unmatched_prechart h U n) =
      rw (offer_as h (of_unmatched C A m.place e U), done_is_not C m.place.fired n)
      (is_drop no_cause)
  is_offer (unmatched_main h U d) = rw (offer_as h (of_unmatched C A m.place e U), done_is C m.place.fired d)
      (is_break no_ready_region no_cause m.place waited)

  -- the answer says which case it is, with whether the machine found a region
  pub numbered_offer : {y : Status} {a : Answer} (O : Offered C before e y a)
      → case_offered C O ≡ case_for (unplaceable (take_message C m.place e)) a
  unfolding case_for unplaceable Unmatched config_at
  numbered_offer (moves z M nf k) = refl
  numbered_offer (enters z M nf k d) = refl
  numbered_offer (keeps z M f) = refl
  numbered_offer (fails_cold i y T t) = rw (fails_at_lem i (terminates_fails C before e P.at_rest T t).0).is_fails
  numbered_offer (fails_hot i y T b) = rw (fails_at_lem i (blocked_fails C before e P.at_rest T b).0).is_fails
  numbered_offer (unmatched_prechart h U n) = rw (of_unmatched C A m.place e U)
  numbered_offer (unmatched_main h U d) = rw (of_unmatched C A m.place e U)
