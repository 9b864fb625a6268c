-- S20: how one record is taken, in the source's steps and with no machine; and so every list of feeds.
use Rattle.std.specs.Prelude.{◌≡◌, ◌≢◌, false, ℕ, suc, ◌+◌, ◌-◌, ◌≤◌, ◌<◌}
use Rattle.std.proofs.Math.Bool.{So}
use Rattle.std.proofs.Math.Option.{some}
use Rattle.base.specs.Lists.{Snoc, ε, ◌▸◌}
use Rattle.model.specs.declared.Cause.{Cause}
use Rattle.model.specs.Monitor.{no_cause, cause_of}
use Rattle.model.specs.Answers.{time_falls, too_many_records, most_records}
use Rattle.rounds.specs.Chart.{Chart}
use Rattle.rounds.specs.Rows.{LogRecord, chart_message, Ready, Full, PrechartDone}
use Rattle.rounds.specs.Tally.{Tally, fresh_tally, counted, counted_kept, counted_dropped, counted_broken, reopened_tally}
use Rattle.rounds.specs.Feeds.{no_ready_region, condition_fails, Answer, refused}
use Rattle.rounds.specs.Feeds.{broken_at, kept_now, dropped_now, entered, moved, quiet}
use Rattle.rounds.specs.Machine.{Monitor, Fit}
use Rattle.paper.specs.Runs.{Config, Letter, silent, initial, strip, wait, Advance, by, Next, Prompt, Over}
use Rattle.paper.specs.Runs.{config_at, spelled}

-- What is known between two records: the configuration, at the tally's moment now, and the tally.
pub record Status : Type 0 where
  pub config : Config
  pub tally : Tally

-- before the first record: the initial configuration, all else zero
abbrev pub beginning : Status
beginning = record { config = initial; tally = fresh_tally }

-- In each of the four that follow the record is counted, and now is its time. The round runs on in configuration z:
abbrev pub onward : Status → LogRecord → Config → Status
onward x e z = record { config = z; tally = counted x.tally e.time }

-- a round that is kept or dropped is counted, and the next one opens
abbrev pub keeping : Status → LogRecord → Status
keeping x e = record { config = initial; tally = counted_kept x.tally e.time }

abbrev pub dropping : Status → LogRecord → Status
dropping x e = record { config = initial; tally = counted_dropped x.tally e.time }

-- T34: between two offers of a record the next round has opened at its time, and the drop is counted
abbrev pub reopening : Status → LogRecord → Status
reopening x e = record { config = initial; tally = reopened_tally x.tally e.time }

-- a break has its record, reason and cause, and z is the configuration
abbrev pub breaking : Status → LogRecord → ℕ → Cause → Config → Status
breaking x e k why z = record { config = z; tally = counted_broken x.tally e.time k why }

module _ (C : Chart) where
  -- the ticks from now to the record
  abbrev pub ticks : Status → LogRecord → ℕ
  ticks x e = e.time - x.tally.now

  -- the record's word: the delay since now and its message
  abbrev pub word_of : Status → LogRecord → Snoc Letter
  word_of x e = spelled x.tally.now (ε ▸ e)

  -- no region that follows the cut has the message
  unfoldable pub Unmatched : Config → LogRecord → Type 0
  Unmatched c e = (s : ℕ) → Ready C c.cut s → C.key s ≢ e.code

  -- It is region i's turn in the configuration given last: it has the message of the record that comes, or it is the
  -- next plain region after a prompt run over the record's word.
  pub data Turn (x : Status) (e : LogRecord) (i : ℕ) : Config → Type 0 where
    of_message : Ready C x.config.cut i → C.key i ≡ e.code → Turn x e i (wait C x.config (ticks x e))
    of_plain : {w : Snoc Letter} {y : Config} → strip w ≡ word_of x e → Prompt C x.config w y
        → Next C y.cut i → Turn x e i y

  -- region i ends the round: a premature termination by its condition
  unfoldable pub Terminates : Config → ℕ → Type 0
  Terminates y i = (a : Advance C y silent initial) × (by C a ≡ some i)

  -- region i neither advances nor terminates
  unfoldable pub Blocked : Config → ℕ → Type 0
  Blocked y i = (u : Letter) (z : Config) (a : Advance C y u z) → by C a ≢ some i

  -- S20: from status x, without a break, one offer of record e leads to this status with this answer. If x is at rest,
  -- e is a chart message in every case: from `moves` to `fails_hot` this follows, since a region has the message.
  pub data Offered (x : Status) (e : LogRecord) : Status → Answer → Type 0 where
    -- a prompt run over the record's word, short of the maximal cut, that does not complete the prechart
    moves : (z : Config) → Over C x.config (word_of x e) z
        → ¬ Full C z.cut → (PrechartDone C z.cut → PrechartDone C x.config.cut)
        → Offered x e (onward x e z) moved
    -- one that completes the prechart
    enters : (z : Config) → Over C x.config (word_of x e) z
        → ¬ Full C z.cut → ¬ PrechartDone C x.config.cut → PrechartDone C z.cut
        → Offered x e (onward x e z) entered
    -- one that ends in the maximal cut
    keeps : (z : Config) → Over C x.config (word_of x e) z
        → Full C z.cut → Offered x e (keeping x e) kept_now
    -- a region terminates in its turn; the cause is that region, with its first failing term
    fails_cold : (i : ℕ) (y : Config) → Turn x e i y
        → Terminates y i → Offered x e (dropping x e) (dropped_now (cause_of i (C.failing i y.valuation)))
    -- a region is blocked in its turn: a hot violation; the configuration is the one just before it
    fails_hot : (i : ℕ) (y : Config) → Turn x e i y
        → Blocked y i → Offered x e (breaking x e condition_fails (cause_of i (C.failing i y.valuation)) y)
        (broken_at (suc x.tally.records) condition_fails (cause_of i (C.failing i y.valuation)))
    -- a chart message that no following region has: the prechart's round is dropped
    unmatched_prechart : So (chart_message C e) → Unmatched x.config e → ¬ PrechartDone C x.config.cut
        → Offered x e (dropping x e) (dropped_now no_cause)
    -- in the main chart it is broken, with the cut and the resets before the record
    unmatched_main : So (chart_message C e) → Unmatched x.config e → PrechartDone C x.config.cut
        → Offered x e (breaking x e no_ready_region no_cause (wait C x.config (ticks x e)))
        (broken_at (suc x.tally.records) no_ready_region no_cause)

  -- T33: a message that no following region has, in a prechart of which a region is in the cut (that it is a chart
  -- message, `Starts` implies),
  pub record MissedIn (c : Config) (e : LogRecord) : Type 0 where
    pub unmatched : Unmatched c e
    pub in_prechart_case : ¬ PrechartDone C c.cut
    pub fired_before : (i : ℕ) × So (c.cut i)

  -- and that a region following the minimal cut has, whatever its condition
  pub record Starts (e : LogRecord) : Type 0 where
    pub region : ℕ
    pub follows : Ready C initial.cut region
    pub has_it : C.key region ≡ e.code

  -- S20: from status x, without a break, record e leads to this status with this answer
  pub data Taken (x : Status) (e : LogRecord) : Status → Answer → Type 0 where
    -- only time passes: the record has no message, or one of no region
    passes : chart_message C e ≡ false → Taken x e (onward x e (wait C x.config (ticks x e))) quiet
    -- a chart message is offered to the round,
    once : {y : Status} {a : Answer} → ¬ (MissedIn x.config e × Starts e) → Offered x e y a → Taken x e y a
    -- or to the round that opens where it is missed
    twice : {y : Status} {a : Answer} → MissedIn x.config e → Starts e → Offered (reopening x e) e y a
        → Taken x e y a

  -- which case it is: time passes, or a case in the order above, of the first offer or of the second
  abbrev pub case_offered : {x : Status} {e : LogRecord} {y : Status} {a : Answer} → Offered x e y a → ℕ
  case_offered (moves z M l p) = 1
  case_offered (enters z M l n p) = 2
  case_offered (keeps z M f) = 3
  case_offered (fails_cold i y F t) = 4
  case_offered (fails_hot i y F b) = 5
  case_offered (unmatched_prechart h U n) = 6
  case_offered (unmatched_main h U d) = 7

  abbrev pub case_of : {x : Status} {e : LogRecord} {y : Status} {a : Answer} → Taken x e y a → ℕ
  case_of (passes h) = 0
  case_of (once n O) = case_offered O
  case_of (twice m f O) = 7 + case_offered O

  -- a monitor's status
  abbrev pub status_of : Monitor → Status
  status_of m = record { config = config_at C m.tally.now m.place; tally = m.tally }

  -- T8: a fit monitor without a break, and a record that feeding does not refuse
  pub record Acceptable (m : Monitor) (e : LogRecord) : Type 0 where
    pub fit : Fit C m
    pub unbroken : m.tally.broken.at ≡ 0
    pub forward : m.tally.now ≤ e.time
    pub room : m.tally.records < most_records

  -- A list of feeds from the beginning: its answers, and the status after it.
  pub data Read : Snoc LogRecord → Snoc Answer → Status → Type 0 where
    nothing : Read ε ε beginning
    -- a record that is taken
    takes : {fs : Snoc LogRecord} {ans : Snoc Answer} {x y : Status} {a : Answer} (e : LogRecord) → Read fs ans x
        → x.tally.broken.at ≡ 0 → x.tally.now ≤ e.time → x.tally.records < most_records → Taken x e y a
        → Read (fs ▸ e) (ans ▸ a) y
    -- refusals 22, a time below now, and 23, a record too many: nothing changes
    falls : {fs : Snoc LogRecord} {ans : Snoc Answer} {x : Status} (e : LogRecord) → Read fs ans x
        → x.tally.broken.at ≡ 0 → e.time < x.tally.now → Read (fs ▸ e) (ans ▸ refused time_falls) x
    overflows : {fs : Snoc LogRecord} {ans : Snoc Answer} {x : Status} (e : LogRecord) → Read fs ans x
        → x.tally.broken.at ≡ 0 → x.tally.now ≤ e.time → most_records ≤ x.tally.records
        → Read (fs ▸ e) (ans ▸ refused too_many_records) x
    -- after a break, the same break again: nothing changes
    stays_broken : {fs : Snoc LogRecord} {ans : Snoc Answer} {x : Status} (e : LogRecord) → Read fs ans x
        → x.tally.broken.at ≢ 0
        → Read (fs ▸ e) (ans ▸ broken_at x.tally.broken.at x.tally.broken.reason x.tally.broken.cause) x
