-- One more record of a stretch with its row: the prompt runs over the round's word decide its answer (S17, S18), since
-- they are the rows; and where it is entered, the word completes the prechart. Assumes nothing.
use mathlib.Core.Path.{◌≡◌, refl, sym, ap, ◌∙◌}
use mathlib.Core.Logic.{◌↔◌, inl, inr}
use mathlib.Core.Bool.{Bool}
use Prim.Native.Nat.{ℕ, ◌-◌}
use native.Mathlib.Omega.{arith}
use Rattle.base.specs.Lists.{Snoc, ◌▸◌}
use Rattle.rounds.specs.Chart.{Chart, Accepted}
use Rattle.rounds.specs.Rows.{LogRecord, Row, stands, chart_message, chart_messages, Lawful, Full, PrechartDone}
use Rattle.rounds.specs.Rows.{NoRowBy, NoRow}
use Rattle.rounds.specs.Feeds.{Answer, entered, Onward, completes_prechart, fires, stays}
use Rattle.rounds.specs.Machine.{Place, Monitor, Step, go_on, keep_round, drop_round, break_round}
use Rattle.base.proofs.Bools.{split}
use Rattle.rounds.proofs.Moments.{chart_messages_take, chart_messages_skip}
use Rattle.rounds.proofs.Rows.{lawful_before, one_row}
use Rattle.rounds.proofs.Rounds.{place_of}
use Rattle.rounds.proofs.Endings.{Exactly, ended, Comes, on, keeps, drops, breaks}
use Rattle.paper.specs.Runs.{Config, Letter, delay, message, initial, Maximal, Over, config_at, config_of, last_of}
use Rattle.paper.specs.Runs.{Rising, spelled}
use Rattle.paper.specs.Demand2.{CompletedBy, Reaches, Decided}
use Rattle.paper.proofs.Prompts.{prompt_run}
use Rattle.paper.proofs.Words.{run_is_cut, message_completes}
use Rattle.paper.proofs.Chains.{shown, row_step, row_is_prompt, prompt_is_row}

module _ (C : Chart) where
  -- a prompt run's cut is maximal if it has every region
  maximal_of : {w : Snoc Letter} {z : Config} → Over C initial w z → Full C z.cut → Maximal C C.regions z.cut
  unfolding Full Maximal
  maximal_of P F = λ i. ((run_is_cut C (prompt_run C P.run)).within i, F i)

  pub full_of : (z : Config) → Maximal C C.regions z.cut → Full C z.cut
  unfolding Full Maximal
  full_of z M = λ i. (M i).1

-- the stretch s with its lawful row q, and one more record e
module _ (C : Chart) (A : Accepted C) (o : ℕ) (s : Snoc LogRecord) (e : LogRecord) (q : Row) (lawful : Lawful C o s q)
    (rising : Rising o (chart_messages C (s ▸ e))) where
  -- a prompt run over the round's word leads to place p, and its last message completes the prechart
  abbrev Enters : Place → Type 0
  Enters p = (P : Reaches C o (s ▸ e) (config_at C e.time p)) × CompletedBy C C.prechart P.letters

  rows_enter : (r : Row) → Lawful C o (s ▸ e) r → ¬ PrechartDone C (stands q) → PrechartDone C (stands r)
      → Enters (place_of C o (chart_messages C (s ▸ e)) r)
  unfolding config_of config_at place_of
  rows_enter r L undone done = elim (split (chart_message C e)) [
    | inl h ↦
        let R : Rising o (chart_messages C s ▸ e) = rw (chart_messages_take C s e h) at rising in
        let K = row_is_prompt C A o s q R.0 lawful in
        let d : ℕ = e.time - last_of o (chart_messages C s) in
        let M = row_step C A o s e q r h R lawful L in
        let W = message_completes C A d e.code K.run undone M done in (
          record {
            letters = W.0;
            spells = W.1 ∙ ap {B = Snoc Letter} (λ (v : Snoc Letter). v ▸ delay d ▸ message e.code) K.spells
                ∙ sym (ap (spelled o) (chart_messages_take C s e h));
            run = W.2;
            rests = M.rests;
          },
          W.3,
        )
    | inr h ↦ absurd (undone (rw (← (one_row C A o s q r lawful (lawful_before C o s e r h L))) at done))
  ]

  onward_enters : (r : Row) (a : Answer) → Lawful C o (s ▸ e) r → Onward C q r a → a ≡ entered
      → Enters (place_of C o (chart_messages C (s ▸ e)) r)
  onward_enters r a L (completes_prechart undone done) p = rows_enter r L undone done
  onward_enters r a L (fires lt f) p = absurd (let z : ◌≡◌ {A = ℕ} 0 1 = cc in omega arith)
  onward_enters r a L (stays h) p = absurd (let z : ◌≡◌ {A = ℕ} 0 1 = cc in omega arith)

  pub comes_enter : (m : Monitor) {v : Step} → Comes C A o s e q lawful m v → v.answer ≡ entered
      → Enters v.next.place
  unfolding go_on keep_round drop_round break_round
  comes_enter m (on r a L nf O) p = onward_enters r a L O p
  comes_enter m (keeps E) p = absurd (let z : ◌≡◌ {A = ℕ} 0 1 = cc in omega arith)
  comes_enter m (drops x E) p = absurd (let z : ◌≡◌ {A = ℕ} 0 1 = cc in omega arith)
  comes_enter m (breaks k x d E) p = absurd (let z : ◌≡◌ {A = ℕ} 0 1 = cc in omega arith)

  -- entered, by the rows
  abbrev EntersRow : Type 0
  EntersRow =
      (r : Row) × Lawful C o (s ▸ e) r × (¬ Full C (stands r)) × PrechartDone C (stands r)
      × (¬ PrechartDone C (stands q))

  onward_entered : (r : Row) (a : Answer) → Lawful C o (s ▸ e) r → ¬ Full C (stands r) → Onward C q r a
      → (a ≡ entered) ↔ EntersRow
  onward_entered r a L nf (completes_prechart undone done) = (λ p. (r, L, nf, done, undone), λ t. refl)
  onward_entered r a L nf (fires lt f) = (
    λ p. absurd (let z : ◌≡◌ {A = ℕ} 0 1 = cc in omega arith),
    λ t. absurd (t.4 (f (rw (one_row C A o (s ▸ e) t.0 r t.1 L) at t.3))),
  )
  onward_entered r a L nf (stays h) = (
    λ p. absurd (let z : ◌≡◌ {A = ℕ} 0 1 = cc in omega arith),
    λ t. absurd (t.4 (rw (one_row C A o (s ▸ e) t.0 r t.1 L ∙ sym h) at t.3)),
  )

  comes_entered : (m : Monitor) {v : Step} → Comes C A o s e q lawful m v → (v.answer ≡ entered) ↔ EntersRow
  unfolding go_on keep_round drop_round break_round
  comes_entered m (on r a L nf O) = onward_entered r a L nf O
  comes_entered m (keeps E) = (
    λ p. absurd (let z : ◌≡◌ {A = ℕ} 0 1 = cc in omega arith),
    λ t. ended C A o s e q lawful E t.0 t.1 t.2,
  )
  comes_entered m (drops x E) = (
    λ p. absurd (let z : ◌≡◌ {A = ℕ} 0 1 = cc in omega arith),
    λ t. ended C A o s e q lawful E t.0 t.1 t.2,
  )
  comes_entered m (breaks k x d E) = (
    λ p. absurd (let z : ◌≡◌ {A = ℕ} 0 1 = cc in omega arith),
    λ t. ended C A o s e q lawful E t.0 t.1 t.2,
  )

  -- rows and prompt runs of this stretch
  rising_before : Rising o (chart_messages C s)
  rising_before = elim (split (chart_message C e)) [
    | inl h ↦
        let R : Rising o (chart_messages C s ▸ e) = rw (chart_messages_take C s e h) at rising in
        R.0
    | inr h ↦ rw (chart_messages_skip C s e h) at rising
  ]

  to_run : (r : Row) → Lawful C o (s ▸ e) r → Reaches C o (s ▸ e) (shown C o (s ▸ e) r)
  to_run r L = row_is_prompt C A o (s ▸ e) r rising L

  to_row : (z : Config) → Reaches C o (s ▸ e) z → (r : Row) × Lawful C o (s ▸ e) r × (z.cut ≡ stands r)
  unfolding config_of
  to_row z P =
      let W = prompt_is_row C A o (s ▸ e) z rising P in
      (W.0, W.1, ap {B = ℕ → Bool} (λ (x : Config). x.cut) W.2)

  before_run : Reaches C o s (shown C o s q)
  before_run = row_is_prompt C A o s q rising_before lawful

  before_row : (y : Config) → Reaches C o s y → y.cut ≡ stands q
  unfolding config_of
  before_row y P =
      let W = prompt_is_row C A o s y rising_before P in
      ap {B = ℕ → Bool} (λ (x : Config). x.cut) W.2 ∙ ap stands (one_row C A o s W.0 q W.1 lawful)

  pub no_run : NoRow C o (s ▸ e) → (z : Config) → ¬ Reaches C o (s ▸ e) z
  unfolding NoRowBy
  no_run n z P = let W = to_row z P in n W.0 W.1

  pub decided_by : (m : Monitor) {v : Step} → Comes C A o s e q lawful m v → Exactly C o s e v.answer
      → Decided C o s e v.answer
  unfolding NoRowBy config_of
  decided_by m K X =
      let Y = comes_entered m K in
      record {
        kept_exactly = (
          λ p. let E = X.kept_exactly.0 p in
              (shown C o (s ▸ e) E.0, to_run E.0 E.1, maximal_of C (to_run E.0 E.1) E.2),
          λ t. let W = to_row t.0 t.1 in
              X.kept_exactly.1 (W.0, W.1, rw W.2 at (full_of C t.0 t.2)),
        );
        runs_on_exactly = (
          λ p.
              let E = X.runs_on_exactly.0 p in
              let z : Config = shown C o (s ▸ e) E.0 in
              (z, to_run E.0 E.1, λ M. E.2 (full_of C z M)),
          λ t.
              let W = to_row t.0 t.1 in
              X.runs_on_exactly.1 (W.0, W.1, λ f. t.2 (maximal_of C t.1 (rw (← W.2) at f))),
        );
        entered_exactly = (
          λ p.
              let E = Y.0 p in
              let z : Config = shown C o (s ▸ e) E.0 in
              (z, to_run E.0 E.1, λ M. E.2 (full_of C z M), E.3, shown C o s q, before_run, E.4),
          λ t.
              let W = to_row t.0 t.1 in
              let b = before_row t.4 t.5 in
              Y.1 (
                W.0,
                W.1,
                λ f. t.2 (maximal_of C t.1 (rw (← W.2) at f)),
                rw W.2 at t.3,
                rw b at t.6,
              ),
        );
        dropped_or_broken_exactly = (
          λ p. no_run (X.dropped_or_broken_exactly.0 p),
          λ n. X.dropped_or_broken_exactly.1 (λ r L. n (shown C o (s ▸ e) r) (to_run r L)),
        );
      }
