-- A prompt run over the words of records, taken apart: silent advancements, one record, and records one after another,
-- with the guards of each step written out. Vocabulary of the proofs; `Prompts` shows that it says the same as
-- `Prompt`. Assumes nothing.
use mathlib.Core.Path.{◌≡◌}
use mathlib.Core.Bool.{false, So}
use Prim.Native.Nat.{ℕ, ◌-◌}
use Rattle.base.specs.Lists.{Snoc, ε, ◌▸◌}
use Rattle.rounds.specs.Chart.{Chart, condition_of}
use Rattle.rounds.specs.Rows.{LogRecord, plain, Ready}
use Rattle.paper.specs.Runs.{Config, shift, successor, wait, Next, AtRest, last_of}

module _ (C : Chart) where
  -- silent advancements, lowest number first
  pub data Silents (x : Config) : Config → Type 0 where
    no_more : Silents x x
    one : {y : Config} → Silents x y → (s : ℕ) → Next C y.cut s → So (condition_of C s y.valuation)
        → Silents x (successor C y s)

  -- one chart message m, d ticks later: the delay, the synchronization, and silent advancements until no plain region
  -- is ready
  pub record OneMessage (x : Config) (d m : ℕ) (z : Config) : Type 0 where
    pub waits : AtRest C x.cut
    pub region : ℕ
    pub follows : Ready C x.cut region
    pub is_message_case : plain C region ≡ false
    pub fits : C.key region ≡ m
    pub holds : So (condition_of C region (shift C x.valuation d))
    pub silents : Silents (successor C (wait C x d) region) z
    pub rests : AtRest C z.cut

  -- the condition of region i fails, d ticks later: that of the message's region, or that of a plain region after
  -- silent advancements
  pub data Failure (x : Config) (d m i : ℕ) : Config → Type 0 where
    at_once : Ready C x.cut i → C.key i ≡ m → condition_of C i (shift C x.valuation d) ≡ false
        → Failure x d m i (wait C x d)
    later : (s : ℕ) → Ready C x.cut s → plain C s ≡ false → C.key s ≡ m
        → So (condition_of C s (shift C x.valuation d))
        → (y : Config) → Silents (successor C (wait C x d) s) y
        → Next C y.cut i → condition_of C i y.valuation ≡ false → Failure x d m i y

  -- one chart message after another, from configuration x at moment o
  pub data Chain (x : Config) (o : ℕ) : Snoc LogRecord → Config → Type 0 where
    opens : Chain x o ε x
    next : {l : Snoc LogRecord} {y : Config} {e : LogRecord} {z : Config}
        → Chain x o l y → OneMessage y (e.time - last_of o l) e.code z → Chain x o (l ▸ e) z
