-- S2 to S12 over an abstract chart and in whole ticks: cuts, configurations, steps, runs, and what a word satisfies;
-- then the runs that a monitor follows (S14, S15). A simregion is a region; its locations are entered together (S3).
use Rattle.std.specs.Prelude.{◌≡◌, ◌≢◌, ◌↔◌, Bool, false, cond, ◌||◌, ℕ, ◌+◌, ◌-◌, ◌≤◌, ◌<◌, eqb, ltb}
use Rattle.std.proofs.Math.Bool.{So}
use Rattle.std.proofs.Math.Option.{Option, none, some}
use Rattle.base.specs.Lists.{Snoc, ε, ◌▸◌}
use Rattle.rounds.specs.Chart.{Chart, condition_of}
use Rattle.rounds.specs.Rows.{LogRecord, Row, stands, plain, Ready, values, reset_moment}
use Rattle.rounds.specs.Machine.{Place}

-- S6: a configuration is a cut with a value for each clock.
pub record Config : Type 0 where
  pub cut : ℕ → Bool
  pub valuation : ℕ → ℕ

-- S6: the initial one, with no region and every clock at 0
abbrev pub initial : Config
initial = record { cut = λ i. false; valuation = λ x. 0 }

-- what one step consumes: a message, the silent letter, or a delay in ticks
pub data Letter : Type 0 where
  message : ℕ → Letter
  silent : Letter
  delay : ℕ → Letter

infixl 40 ◌·◌
-- one word and then another
abbrev pub ◌·◌ : Snoc Letter → Snoc Letter → Snoc Letter
w · ε = w
w · (l ▸ u) = (w · l) ▸ u

-- the word without its silent letters
abbrev pub strip : Snoc Letter → Snoc Letter
strip ε = ε
strip (w ▸ message k) = strip w ▸ message k
strip (w ▸ silent) = strip w
strip (w ▸ delay d) = strip w ▸ delay d

module _ (C : Chart) where
  -- S3, O7: with each of its regions a cut has those above.
  pub record IsCut (c : ℕ → Bool) : Type 0 where
    pub within : (i : ℕ) → So (c i) → i < C.regions
    pub closed : (i a : ℕ) → So (c i) → So (C.above a i) → So (c a)

  -- S4: the successor of a cut, with region s in addition. That s follows the cut is `Ready`.
  unfoldable pub add : (ℕ → Bool) → ℕ → ℕ → Bool
  add c s j = eqb j s || c j

  -- the valuation after the assignment of region s: its clocks are at 0
  unfoldable pub reset : ℕ → (ℕ → ℕ) → ℕ → ℕ
  reset s v x = cond (C.resets s x) 0 (v x)

  -- the valuation d ticks later, for the chart's own clocks (others: 0)
  unfoldable pub shift : (ℕ → ℕ) → ℕ → ℕ → ℕ
  shift v d x = cond (ltb x C.clocks) (v x + d) 0

  -- S7: the configuration after region s
  abbrev pub successor : Config → ℕ → Config
  successor x s = record { cut = add x.cut s; valuation = reset s x.valuation }

  -- the configuration d ticks later
  abbrev pub wait : Config → ℕ → Config
  wait x d = record { cut = x.cut; valuation = shift x.valuation d }

  -- S7 to S10: the steps from a configuration over a letter to another, each of a region s that follows the cut.
  pub data Advance (x : Config) : Letter → Config → Type 0 where
    -- S7: s has a message and its condition holds: over that message to the successor
    synchronization : (s : ℕ) → Ready C x.cut s → plain C s ≡ false → So (condition_of C s x.valuation)
        → Advance x (message (C.key s)) (successor x s)
    -- S8: s is plain and its condition holds: silently to the successor
    silent_advancement : (s : ℕ) → Ready C x.cut s → So (plain C s) → So (condition_of C s x.valuation)
        → Advance x silent (successor x s)
    -- S9: the condition of s is cold and fails: silently back to the minimal cut (with every clock at 0: S24)
    premature_termination : (s : ℕ) → Ready C x.cut s → C.hot s ≡ false → condition_of C s x.valuation ≡ false
        → Advance x silent initial
    -- S10: d ticks pass, after which the condition of s would hold
    time_delay : (d s : ℕ) → Ready C x.cut s → So (condition_of C s (shift x.valuation d))
        → Advance x (delay d) (wait x d)

  -- the region that is added, or whose condition terminates; none where time passes
  abbrev pub by : {x : Config} {u : Letter} {z : Config} → Advance x u z → Option ℕ
  by (synchronization s r p h) = some s
  by (silent_advancement s r p h) = some s
  by (premature_termination s r c h) = some s
  by (time_delay d s r h) = none

  -- S11: a run is steps one after another, with the word of their letters.
  pub data Run (x : Config) : Snoc Letter → Config → Type 0 where
    here : Run x ε x
    step : {w : Snoc Letter} {y : Config} {u : Letter} {z : Config} → Run x w y → Advance y u z → Run x (w ▸ u) z

  -- S5: the maximal cut has exactly the regions below n, which is `prechart` for the prechart and `regions` for the
  -- whole chart.
  unfoldable pub Maximal : ℕ → (ℕ → Bool) → Type 0
  Maximal n c = (i : ℕ) → So (c i) ↔ (i < n)

  -- S12: the word begins with that of a run from the initial configuration to a maximal cut.
  pub record Satisfies (n : ℕ) (w : Snoc Letter) : Type 0 where
    pub prefix : Snoc Letter
    pub rest : Snoc Letter
    pub parts : w ≡ prefix · rest
    pub end : Config
    pub run : Run initial prefix end
    pub maximal : Maximal n end.cut

  -- of the plain regions that follow the cut, s is the lowest
  pub record Next (c : ℕ → Bool) (s : ℕ) : Type 0 where
    pub is_plain : So (plain C s)
    pub follows : Ready C c s
    pub lowest : (j : ℕ) → So (plain C j) → Ready C c j → s ≤ j

  -- no plain region follows the cut
  unfoldable pub AtRest : (ℕ → Bool) → Type 0
  AtRest c = (j : ℕ) → So (plain C j) → ¬ Ready C c j

  -- S14: a prompt run takes plain regions at once, the lowest first, and nothing else while one follows the cut. It has
  -- advancements and delays, and no termination.
  pub data Prompt (x : Config) : Snoc Letter → Config → Type 0 where
    begins : Prompt x ε x
    -- the silent advancement of the next plain region
    settles : {w : Snoc Letter} {y : Config} → Prompt x w y → (s : ℕ) → Next y.cut s
        → Advance y silent (successor y s) → Prompt x (w ▸ silent) (successor y s)
    -- a delay or a message, at rest
    goes : {w : Snoc Letter} {y : Config} {u : Letter} {z : Config} → Prompt x w y
        → AtRest y.cut → u ≢ silent → Advance y u z → Prompt x (w ▸ u) z

  -- S16: a prompt run over a word, silent letters put in, that comes to rest.
  pub record Over (x : Config) (w : Snoc Letter) (z : Config) : Type 0 where
    pub letters : Snoc Letter
    pub spells : strip letters ≡ w
    pub run : Prompt x letters z
    pub rests : AtRest z.cut

  -- the configuration of a place at moment t: a clock's value is what has passed since its reset moment
  unfoldable pub config_at : ℕ → Place → Config
  config_at t p = record { cut = p.fired; valuation = values C t p.clocks }

  -- the configuration that a row shows at moment t, of a stretch opened at o with the chart messages l
  unfoldable pub config_of : ℕ → ℕ → Snoc LogRecord → Row → Config
  config_of t o l r = record { cut = stands r; valuation = values C t (reset_moment C o l r) }

-- the moment of the last of these records; without a record, the opening
abbrev pub last_of : ℕ → Snoc LogRecord → ℕ
last_of o ε = o
last_of o (l ▸ e) = e.time

-- times never fall, from the opening on
abbrev pub Rising : ℕ → Snoc LogRecord → Type 0
Rising o ε = Unit {0}
Rising o (l ▸ e) = Rising o l × (last_of o l ≤ e.time)

-- S15: the word of a round opened at o with the chart messages l, each with the delay before it.
abbrev pub spelled : ℕ → Snoc LogRecord → Snoc Letter
spelled o ε = ε
spelled o (l ▸ e) = spelled o l ▸ delay (e.time - last_of o l) ▸ message e.code
