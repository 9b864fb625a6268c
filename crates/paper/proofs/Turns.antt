-- One record: its prompt run is the delay, the synchronization and the silent advancements of `Parts`; a region whose
-- turn it is and that terminates or is blocked is one whose condition fails, cold or hot. Assumes nothing.
use mathlib.Core.Path.{◌≡◌, refl, sym, ap, subst, ◌∙◌}
use mathlib.Core.Logic.{◌≢◌, inl, inr}
use mathlib.Core.Bool.{false, So}
use mathlib.Core.Option.{some}
use Prim.Native.Nat.{ℕ, ◌-◌}
use native.Mathlib.Omega.{arith}
use Rattle.base.specs.Lists.{Snoc, ε, ◌▸◌}
use Rattle.rounds.specs.Chart.{Chart, condition_of}
use Rattle.rounds.specs.Rows.{LogRecord, chart_message, plain, Ready}
use Rattle.base.proofs.Bools.{split, clash}
use Rattle.rounds.proofs.Machine.{is_chart}
use Rattle.paper.specs.Runs.{Config, Letter, message, delay, Advance, synchronization, silent_advancement}
use Rattle.paper.specs.Runs.{premature_termination, time_delay, by, Next, AtRest, begins, Over}
use Rattle.paper.specs.Taken.{Status, ticks, word_of, Turn, of_message, of_plain, Terminates, Blocked}
use Rattle.paper.proofs.Parts.{OneMessage, Failure, at_once, later, Chain, opens, next}
use Rattle.paper.proofs.Prompts.{synchronizes, advances, terminates, goes_on, silents_prompt, chain_prompt, Mid}
use Rattle.paper.proofs.Prompts.{moving, prompt_mid, prompt_chain}
use Rattle.paper.proofs.Words.{some_one, terminated}

module _ (C : Chart) where
  chain_empty : {x z : Config} {o : ℕ} → Chain C x o ε z → x ≡ z
  chain_empty opens = refl

  chain_one : {x z : Config} {o : ℕ} {e : LogRecord} → Chain C x o (ε ▸ e) z → OneMessage C x (e.time - o) e.code z
  chain_one {z} {o} {e} (next K M) =
      subst (λ (y : Config). OneMessage C y (e.time - o) e.code z) (sym (chain_empty K)) M

  -- a region whose condition fails does not advance; a hot one does not terminate
  no_step_by : {y z : Config} {u : Letter} (i : ℕ) → condition_of C i y.valuation ≡ false → So (C.hot i)
      → (a : Advance C y u z)
      → by C a ≢ some i
  no_step_by {y} i f t (synchronization s R p h) q =
      clash (subst (λ (n : ℕ). So (condition_of C n y.valuation)) (some_one C q) h) f
  no_step_by {y} i f t (silent_advancement s R p h) q =
      clash (subst (λ (n : ℕ). So (condition_of C n y.valuation)) (some_one C q) h) f
  no_step_by i f t (premature_termination s R k h) q = clash t (subst (λ (n : ℕ). C.hot n ≡ false) (some_one C q) k)
  no_step_by i f t (time_delay d s R h) q = absurd (let z : ◌≡◌ {A = ℕ} 0 1 = cc in omega arith)

  module _ (x : Status) (e : LogRecord) (rest : AtRest C x.config.cut) where
    pub one_over : {z : Config} → OneMessage C x.config (ticks C x e) e.code z
        → Over C x.config (word_of C x e) z
    one_over M = chain_prompt C rest (next opens M)

    pub over_one : {z : Config} → Over C x.config (word_of C x e) z
        → OneMessage C x.config (ticks C x e) e.code z
    over_one P = chain_one (prompt_chain C x.config x.tally.now rest (ε ▸ e) P)

    -- at rest only regions with a message follow the cut
    follows_heard : (i : ℕ) → Ready C x.config.cut i → plain C i ≡ false
    unfolding AtRest
    follows_heard i R = elim (split (plain C i)) [ inl p ↦ absurd (rest i p R) | inr p ↦ p ]

    -- where a region takes the record, or its condition fails, that is a chart message
    pub one_chart : {z : Config} → OneMessage C x.config (ticks C x e) e.code z → So (chart_message C e)
    one_chart M = is_chart C e M.region M.follows.region M.is_message_case M.fits

    abbrev Fails : ℕ → Config → Type 0
    Fails i y = Failure C x.config (ticks C x e) e.code i y

    pub turn_of : {i : ℕ} {y : Config} → Fails i y → Turn C x e i y
    turn_of (at_once R k f) = of_message R k
    turn_of (later s R p k h y S N f) =
        let P = goes_on C (ticks C x e) s begins rest R p h in
        let T = silents_prompt C P S in
        of_plain (T.1 ∙ ap {B = Snoc Letter} (λ (n : ℕ). ε ▸ delay (ticks C x e) ▸ message n) k) T.2 N

    ready_of : {i : ℕ} {y : Config} → Fails i y → Ready C y.cut i
    ready_of (at_once R k f) = R
    ready_of (later s R p k h y S N f) = N.follows

    failing : {i : ℕ} {y : Config} → Fails i y → condition_of C i y.valuation ≡ false
    failing (at_once R k f) = f
    failing (later s R p k h y S N f) = f

    pub fails_chart : {i : ℕ} {y : Config} → Fails i y → So (chart_message C e)
    fails_chart {i} (at_once R k f) = is_chart C e i R.region (follows_heard i R) k
    fails_chart (later s R p k h y S N f) = is_chart C e s R.region p k

    pub terminates_of : {i : ℕ} {y : Config} → Fails i y → C.hot i ≡ false → Terminates C y i
    unfolding Terminates
    terminates_of {i} F t = terminates C i (ready_of F) t (failing F)

    pub blocked_of : {i : ℕ} {y : Config} → Fails i y → So (C.hot i) → Blocked C y i
    unfolding Blocked
    blocked_of {i} F t = λ u z a. no_step_by i (failing F) t a

    -- and the other way round
    mid_fails : {i : ℕ} {y : Config} → Mid C x.config x.tally.now rest (ε ▸ e) y → Next C y.cut i
        → condition_of C i y.valuation ≡ false
        → Fails i y
    mid_fails {i} {y} (moving K B s r p k h S) N f =
        subst (λ (v : Config). Failure C v (ticks C x e) e.code i y) (sym (chain_empty K)) (later s r p k h y S N f)

    fails_of : {i : ℕ} {y : Config} → Turn C x e i y → condition_of C i y.valuation ≡ false → Fails i y
    fails_of (of_message R k) f = at_once R k f
    fails_of (of_plain q P N) f = mid_fails (prompt_mid C x.config x.tally.now rest (ε ▸ e) q P) N f

    pub terminates_fails : {i : ℕ} {y : Config} → Turn C x e i y → Terminates C y i → Fails i y × (C.hot i ≡ false)
    terminates_fails {i} {y} T t = let E = terminated C y i t in (fails_of T E.fails, E.cold)

    -- a region whose turn it is advances if its condition holds
    moves_on : {i : ℕ} {y : Config} → Turn C x e i y → Blocked C y i → ¬ So (condition_of C i y.valuation)
    unfolding Blocked
    moves_on {i} (of_message R k) b h = let a = synchronizes C i R (follows_heard i R) h in b _ _ a.0 a.1
    moves_on {i} (of_plain q P N) b h = let a = advances C i N.follows N.is_plain h in b _ _ a.0 a.1

    pub blocked_fails : {i : ℕ} {y : Config} → Turn C x e i y → Blocked C y i → Fails i y × So (C.hot i)
    unfolding Blocked
    blocked_fails {i} {y} T b = elim (split (condition_of C i y.valuation)) [
      | inl h ↦ absurd (moves_on T b h)
      | inr f ↦
          let F : Fails i y = fails_of T f in
          elim (split (C.hot i)) [
            | inl t ↦
                (F, t)
            | inr t ↦ let e = terminates C i (ready_of F) t f in absurd (b _ _ e.0 e.1)
          ]
    ]
