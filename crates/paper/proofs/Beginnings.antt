-- Beginnings of a round's word over which a prompt run completes the prechart. With one, and if no prompt run takes the
-- whole word, the round violates the chart (S19). Where the last message was missed there is none: before it the run's
-- cut has no region that the round's has not, and no run takes the message. Assumes nothing.
use mathlib.Core.Path.{◌≡◌, sym, ap, subst, ◌∙◌}
use mathlib.Core.Bool.{So}
use Prim.Native.Nat.{ℕ}
use Rattle.base.specs.Lists.{Snoc, ε, ◌▸◌}
use Rattle.rounds.specs.Chart.{Chart, Accepted}
use Rattle.rounds.specs.Rows.{LogRecord, chart_message, chart_messages, Ready, PrechartDone}
use Rattle.base.proofs.Facts.{snoc_same_init}
use Rattle.rounds.proofs.Moments.{chart_messages_take}
use Rattle.paper.specs.Runs.{Config, Letter, initial, ◌·◌, strip, Prompt, spelled}
use Rattle.paper.specs.Taken.{Unmatched, MissedIn}
use Rattle.paper.specs.Demand2.{word, Reaches, Violated}
use Rattle.paper.proofs.Prompts.{prompt_run, prompt_waits, prompt_meets}
use Rattle.paper.proofs.Words.{done_satisfies}
use Rattle.paper.proofs.Satisfying.{satisfied_exactly}
use Rattle.paper.proofs.Unique.{one_prompt, cuts_grow}
use Rattle.paper.proofs.Chains.{opening_rests}

module _ (C : Chart) (A : Accepted C) (o : ℕ) where
  -- a prompt run over a beginning of the round's word has every prechart region
  abbrev pub Begun : Snoc LogRecord → Type 0
  Begun s = (u v : Snoc Letter) × (z : Config) × (word C o s ≡ strip u · v) × Prompt C initial u z
      × PrechartDone C z.cut

  pub violates : {s : Snoc LogRecord} → Begun s → ((z : Config) → ¬ Reaches C o s z) → Violated C o s
  violates B n = record {
    beginning = B.0;
    rest = B.1;
    parts = B.3;
    end = B.2;
    run = B.4;
    prechart = done_satisfies C A (prompt_run C B.4) B.5;
    none_whole = n;
  }

  pub begun_of : {s : Snoc LogRecord} → Violated C o s → Begun s
  begun_of x = (
    x.beginning,
    x.rest,
    x.end,
    x.parts,
    x.run,
    (satisfied_exactly C A x.run).prechart.0 x.prechart,
  )

  -- the round is in configuration y, where record e is missed
  module _ (s : Snoc LogRecord) (e : LogRecord) {y : Config} (P : Reaches C o s y) (M : MissedIn C y e) where
    abbrev l : Snoc LogRecord
    l = chart_messages C s

    undone : (u v : Snoc Letter) (z : Config) → spelled o (l ▸ e) ≡ strip u · v → Prompt C initial u z
        → ¬ PrechartDone C z.cut
    unfolding Unmatched PrechartDone
    -- the message is taken
    undone u ε z q R D =
        let T = prompt_meets C initial o (opening_rests C A o) l e (sym q) R in
        M.unmatched T.2 (subst (λ (c : Config). Ready C c.cut T.2) (one_prompt C A T.1 P).1 T.3) T.4
    -- only the delay before it
    undone u (ε ▸ a) z q R D =
        let T = prompt_waits C initial o (opening_rests C A o) l _ (sym (snoc_same_init q)) R in
        M.in_prechart_case (λ i h. cuts_grow C A ε i T.1.run P (sym T.1.spells) (rw T.2 at (D i h)))
    -- neither
    undone u (v ▸ a ▸ b) z q R D =
        M.in_prechart_case (λ i h. cuts_grow C A v i R P (snoc_same_init (snoc_same_init q)) (D i h))

    pub never_begun : So (chart_message C e) → ¬ Begun (s ▸ e)
    never_begun c B =
        undone B.0 B.1 B.2 (sym (ap (spelled o) (chart_messages_take C s e c)) ∙ B.3) B.4 B.5
