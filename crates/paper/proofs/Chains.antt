-- A lawful row is a chain of the source's steps over the stretch's chart messages, and every such chain is a lawful
-- row: record by record, through the machine's move. Assumes nothing.
use mathlib.Core.Path.{◌≡◌, refl, sym, ap, ◌∙◌}
use mathlib.Core.Logic.{inl, inr}
use mathlib.Core.Bool.{So}
use Prim.Native.Nat.{ℕ, suc, ◌-◌, ◌≤◌}
use native.Mathlib.Omega.{arith}
use lib.Dec.{eqb, ltb}
use Rattle.base.specs.Lists.{Snoc, ε, ◌▸◌, size}
use Rattle.model.specs.Monitor.{cause_of}
use Rattle.rounds.specs.Chart.{Chart, Accepted}
use Rattle.rounds.specs.Rows.{LogRecord, Row, stands, moment_at, chart_message, chart_messages, message_regions, moment_of}
use Rattle.rounds.specs.Rows.{opened, reset_moment, Lawful}
use Rattle.rounds.specs.Rows.{LawfulBy, NoRowBy}
use Rattle.rounds.specs.Machine.{Place, Move, rests, take_message, opening}
use Rattle.base.proofs.Bools.{split}
use Rattle.rounds.proofs.Machine.{plain_none, opening_settled}
use Rattle.rounds.proofs.Moments.{holds, chart_messages_take, chart_messages_skip, retest}
use Rattle.rounds.proofs.Settling.{LastMessage, last_message}
use Rattle.rounds.proofs.Rows.{codes, as_many, lawful_before, lawful_after, Early, strict_early, lawful_empty, one_row}
use Rattle.rounds.proofs.Rounds.{place_of, Means, unplaced, failed, grown, move_means}
use Rattle.rounds.proofs.Endings.{none_placed, none_holds}
use Rattle.rounds.proofs.Offers.{opens as opens-lawful}
use Rattle.paper.specs.Runs.{Config, initial, AtRest, Over, config_at, config_of, last_of, Rising, spelled}
use Rattle.paper.proofs.Parts.{OneMessage, Chain, opens, next}
use Rattle.paper.proofs.Prompts.{chain_prompt, prompt_chain}
use Rattle.paper.proofs.Steps.{opening_config, steps_of, of_steps}

module _ (C : Chart) (o : ℕ) where
  -- no reset moment of a row lies after the last chart message
  from_opening : (l : Snoc LogRecord) → Rising o l → o ≤ last_of o l
  from_opening ε R = omega arith
  from_opening (l ▸ e) R = omega (arith, from_opening l R.0, R.1)

  moment_at_bound : (l : Snoc LogRecord) (k : ℕ) → Rising o l → moment_at o l k ≤ last_of o l
  unfolding moment_at
  moment_at_bound ε k R = omega arith
  moment_at_bound (l ▸ e) k R = elim (split (eqb k (suc (size l)))) [
    | inl h ↦ rw h (omega arith)
    | inr h ↦ rw h (omega (arith, moment_at_bound l k R.0, R.1))
  ]

  reset_bound : (l : Snoc LogRecord) (r : Row) (c : ℕ) → Rising o l → reset_moment C o l r c ≤ last_of o l
  unfolding reset_moment opened moment_of
  reset_bound l ε c R =
      elim (split (ltb c C.clocks)) [ inl h ↦ rw h (from_opening l R) | inr h ↦ rw h (omega arith) ]
  reset_bound l (r ▸ i) c R = elim (split (C.resets i c)) [
    | inl h ↦ rw h (moment_at_bound l (size (message_regions C (r ▸ i))) R)
    | inr h ↦ rw h (reset_bound l r c R)
  ]

  pub past : (l : Snoc LogRecord) (r : Row) → Rising o l → (c : ℕ) → (place_of C o l r).clocks c ≤ last_of o l
  unfolding place_of
  past l r R c = reset_bound l r c R

  config_of_place : (t : ℕ) (l : Snoc LogRecord) (r : Row) → config_at C t (place_of C o l r) ≡ config_of C t o l r
  unfolding config_at config_of place_of
  config_of_place t l r = refl

  -- the configuration after the row r of stretch s, at its last chart message
  abbrev pub shown : Snoc LogRecord → Row → Config
  shown s r = config_of C (last_of o (chart_messages C s)) o (chart_messages C s) r

  empty_shown : shown ε ε ≡ initial
  unfolding chart_messages
  empty_shown = sym (config_of_place o ε ε) ∙ ap (config_at C o) empty_place ∙ opening_config C o
    where
      empty_place : place_of C o ε ε ≡ opening C o
      empty_place = unfold place_of opening reset_moment in refl

  -- the machine's move, from the rows
  rests_row : {s : Snoc LogRecord} {e : LogRecord} {q : Row} {v : Move} → Accepted C → Means C o s q e v → (r : Row)
      → Lawful C o (s ▸ e) r
      → v ≡ rests (place_of C o (chart_messages C (s ▸ e)) r)
  unfolding NoRowBy
  rests_row {s} {e} A (unplaced W) r L = absurd (none_placed C A o s e W r L)
  rests_row {s} {e} A (failed p i term b W f) r L = absurd (none_holds C A o s e b (cause_of i term) W f r L)
  rests_row {s} {e} A (grown b M lt) r L =
      ap (λ (k : Row). rests (place_of C o (chart_messages C (s ▸ e)) k)) (one_row C A o (s ▸ e) b r M L)

  row_rests : {s : Snoc LogRecord} {e : LogRecord} {q : Row} {v : Move} → Means C o s q e v
      → (t : ℕ) (p : Place) (z : Config) → v ≡ rests p
      → z ≡ config_at C t p → (r : Row) × Lawful C o (s ▸ e) r × (z ≡ config_of C t o (chart_messages C (s ▸ e)) r)
  row_rests (unplaced W) t p z h c = absurd (let z : ◌≡◌ {A = ℕ} 0 1 = cc in omega arith)
  row_rests (failed b i term r W f) t p z h c = absurd (let z : ◌≡◌ {A = ℕ} 0 1 = cc in omega arith)
  row_rests {s} {e} (grown b M lt) t p z h c =
      (b, M, c ∙ ap (config_at C t) (same_place h) ∙ config_of_place t (chart_messages C (s ▸ e)) b)
    where
      same_place : {x : Place} → rests x ≡ rests p → p ≡ x
      same_place u = cc

module _ (C : Chart) (A : Accepted C) (o : ℕ) where
  -- before its last message region, a lawful row for s ▸ e is one for s
  row_before : (s : Snoc LogRecord) (e : LogRecord) (r : Row) → So (chart_message C e) → Lawful C o (s ▸ e) r → (q : Row)
      × Lawful C o s q
  unfolding LawfulBy Early
  row_before s e r h L =
      let K : LastMessage C (holds C o (chart_messages C (s ▸ e))) (codes (chart_messages C s)) e.code r
      = last_message C A (holds C o (chart_messages C (s ▸ e))) (codes (chart_messages C s)) e.code r L.placed
      (rw (chart_messages_take C s e h) at L.one_for_one) in (
        K.before,
        record {
          one_for_one = K.codes;
          placed = retest C (holds C o (chart_messages C (s ▸ e))) (holds C o (chart_messages C s))
              (size (chart_messages C s))
              (strict_early C o s e h) K.before (omega (arith, as_many C (chart_messages C s) K.before K.codes))
              K.placed;
          settled = plain_none C A (stands K.before) K.rests;
        },
      )

  at_rest : (s : Snoc LogRecord) (q : Row) → Lawful C o s q → AtRest C (place_of C o (chart_messages C s) q).fired
  unfolding place_of AtRest LawfulBy
  at_rest s q M = λ j p R. absurd (M.settled j p R)

  -- one more chart message leads from the one row to the other
  pub row_step : (s : Snoc LogRecord) (e : LogRecord) (q r : Row) → So (chart_message C e)
      → Rising o (chart_messages C s ▸ e)
      → Lawful C o s q → Lawful C o (s ▸ e) r
      → OneMessage C (shown C o s q) (e.time - last_of o (chart_messages C s)) e.code
      (config_of C e.time o (chart_messages C (s ▸ e)) r)
  row_step s e q r h R M L =
      let l : Snoc LogRecord = chart_messages C s in
      let l' : Snoc LogRecord = chart_messages C (s ▸ e) in
      let v : take_message C (place_of C o l q) e ≡ rests (place_of C o l' r) = rests_row C o A
      (move_means C A o s e h q M) r L in
      rw (← (config_of_place C o (last_of o l) l q), ← (config_of_place C o e.time l' r))
      (steps_of C A (place_of C o l q) e (last_of o l) (past C o l q R.0) R.1 h (place_of C o l' r)
      (at_rest s q M) v)

  row_is_chain : (s : Snoc LogRecord) (r : Row) → Rising o (chart_messages C s) → Lawful C o s r
      → Chain C initial o (chart_messages C s) (shown C o s r)
  row_is_chain ε r R L = rw (lawful_empty C A o r L, empty_shown C o) (unfold chart_messages in opens)
  row_is_chain (s ▸ e) r R L = elim (split (chart_message C e)) [
    | inl h ↦
        let R' : Rising o (chart_messages C s ▸ e) = rw (chart_messages_take C s e h) at R in
        let q = row_before s e r h L in
        rw (chart_messages_take C s e h)
        (next (row_is_chain s q.0 R'.0 q.1)
        (rw (chart_messages_take C s e h) at (row_step s e q.0 r h R' q.1 L)))
    | inr h ↦
        rw (chart_messages_skip C s e h)
        (row_is_chain s r (rw (chart_messages_skip C s e h) at R) (lawful_before C o s e r h L))
  ]

  -- and where it leads there is a row
  step_row : (s : Snoc LogRecord) (e : LogRecord) (q : Row) (z : Config) → So (chart_message C e)
      → Rising o (chart_messages C s ▸ e)
      → Lawful C o s q → OneMessage C (shown C o s q) (e.time - last_of o (chart_messages C s)) e.code z
      → (r : Row) × Lawful C o (s ▸ e) r × (z ≡ config_of C e.time o (chart_messages C (s ▸ e)) r)
  step_row s e q z h R M N =
      let l : Snoc LogRecord = chart_messages C s in
      let S = of_steps C A (place_of C o l q) e (last_of o l) (past C o l q R.0) R.1 h z
      (rw (config_of_place C o (last_of o l) l q) N) in
      row_rests C o (move_means C A o s e h q M) e.time S.0 z S.1 S.2

  chain_empty : {z : Config} → Chain C initial o ε z → z ≡ initial
  chain_empty opens = refl

  chain_last : {l : Snoc LogRecord} {e : LogRecord} {z : Config} → Chain C initial o (l ▸ e) z
      → (x : Config) × Chain C initial o l x × OneMessage C x (e.time - last_of o l) e.code z
  chain_last (next {y} K M) = (y, K, M)

  chain_is_row : (s : Snoc LogRecord) (z : Config) → Rising o (chart_messages C s)
      → Chain C initial o (chart_messages C s) z
      → (r : Row) × Lawful C o s r × (z ≡ shown C o s r)
  chain_is_row ε z R K = (ε, opens-lawful C A o, chain_empty (unfold chart_messages in K) ∙ sym (empty_shown C o))
  chain_is_row (s ▸ e) z R K = elim (split (chart_message C e)) [
    | inl h ↦
        let R' : Rising o (chart_messages C s ▸ e) = rw (chart_messages_take C s e h) at R in
        let T = chain_last (rw (chart_messages_take C s e h) at K) in
        let I : (r : Row) × Lawful C o s r × (T.0 ≡ shown C o s r) = chain_is_row s T.0 R'.0 T.1 in
        let W = step_row s e I.0 z h R' I.1 (rw I.2 at T.2) in
        (W.0, W.1, rw (ap (last_of o) (chart_messages_take C s e h)) W.2)
    | inr h ↦
        let I : (r : Row) × Lawful C o s r × (z ≡ shown C o s r)
        = chain_is_row s z (rw (chart_messages_skip C s e h) at R) (rw (chart_messages_skip C s e h) at K) in
        (I.0, lawful_after C o s e I.0 h I.1, rw (chart_messages_skip C s e h) I.2)
  ]

  pub opening_rests : AtRest C initial.cut
  unfolding AtRest
  opening_rests = λ j p R. absurd (opening_settled C A j p R)

  pub row_is_prompt : (s : Snoc LogRecord) (r : Row) → Rising o (chart_messages C s) → Lawful C o s r
      → Over C initial (spelled o (chart_messages C s)) (shown C o s r)
  row_is_prompt s r R L = chain_prompt C opening_rests (row_is_chain s r R L)

  pub prompt_is_row : (s : Snoc LogRecord) (z : Config) → Rising o (chart_messages C s)
      → Over C initial (spelled o (chart_messages C s)) z
      → (r : Row) × Lawful C o s r × (z ≡ shown C o s r)
  prompt_is_row s z R P = chain_is_row s z R (prompt_chain C initial o opening_rests (chart_messages C s) P)
