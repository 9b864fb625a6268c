-- The second demand, of one chart: feeding gives just what the source's steps give (S20), for one record and for every
-- list of feeds; the rounds are its prompt runs, and these decide the answers (S16 to S19).
use Rattle.std.specs.Prelude.{◌≡◌, ◌≢◌, ◌↔◌, ◌⊎◌, Bool, false, ℕ, ◌≤◌}
use Rattle.std.proofs.Math.Bool.{So}
use Rattle.std.proofs.Math.Option.{none, some}
use Rattle.base.specs.Lists.{Snoc, ε, ◌▸◌}
use Rattle.model.specs.declared.Cause.{Cause}
use Rattle.rounds.specs.Chart.{Chart, condition_of}
use Rattle.rounds.specs.Rows.{LogRecord, Row, plain, chart_messages, Ready, Full, PrechartDone, Lawful}
use Rattle.rounds.specs.Feeds.{refusal, unended, Answer, kept_now, dropped_now, broken_at, entered, moved, SaysRunsOn}
use Rattle.rounds.specs.Feeds.{SaysDroppedOrBroken}
use Rattle.rounds.specs.Machine.{Monitor, feed, after, answers, Fit}
use Rattle.rounds.specs.Demand3.{Agrees, Meaning}
use Rattle.paper.specs.Runs.{Config, Letter, message, silent, delay, initial, ◌·◌, strip, IsCut, shift, successor}
use Rattle.paper.specs.Runs.{wait, Advance, by, Run, Maximal, Satisfies, Prompt, Over, config_at, config_of, last_of}
use Rattle.paper.specs.Runs.{Rising, spelled}
use Rattle.paper.specs.Taken.{Status, Unmatched, Terminates, MissedIn, Starts, Taken, case_of, status_of}
use Rattle.paper.specs.Taken.{Acceptable, Read}

module _ (C : Chart) where
  -- S19: the word w satisfies the prechart (n = `prechart`) or the whole chart (n = `regions`), and only silent letters
  -- are left over: its last message completes it
  pub record CompletedBy (n : ℕ) (w : Snoc Letter) : Type 0 where
    pub satisfies : Satisfies C n w
    pub nothing_more : strip satisfies.rest ≡ ε

  -- S12: the word satisfies prechart and chart exactly if the cut has all their regions
  pub record SatisfiesExactly (w : Snoc Letter) (c : ℕ → Bool) : Type 0 where
    pub prechart : Satisfies C C.prechart w ↔ PrechartDone C c
    pub chart : Satisfies C C.regions w ↔ Full C c

  -- S15: the word of the round opened at o, up to the end of stretch s
  abbrev pub word : ℕ → Snoc LogRecord → Snoc Letter
  word o s = spelled o (chart_messages C s)

  -- a prompt run takes the round's whole word, from the opening to configuration z
  abbrev pub Reaches : ℕ → Snoc LogRecord → Config → Type 0
  Reaches o s z = Over C initial (word o s) z

  -- S17, S18: the round opened at o has the records s and then e, and e is answered a. The prompt runs over the round's
  -- word decide a:
  pub record Decided (o : ℕ) (s : Snoc LogRecord) (e : LogRecord) (a : Answer) : Type 0 where
    -- kept exactly if one ends in the maximal cut
    pub kept_exactly : (a ≡ kept_now) ↔ ((z : Config) × Reaches o (s ▸ e) z × Maximal C C.regions z.cut)
    -- running on exactly if one ends short of it
    pub runs_on_exactly : SaysRunsOn a ↔ ((z : Config) × Reaches o (s ▸ e) z × (¬ Maximal C C.regions z.cut))
    -- entered exactly if one ends short of it with all prechart regions, and one over the word before the record ends
    -- without some of them
    pub entered_exactly : (a ≡ entered) ↔ ((z : Config) × Reaches o (s ▸ e) z × (¬ Maximal C C.regions z.cut)
        × PrechartDone C z.cut
        × (y : Config) × Reaches o s y × (¬ PrechartDone C y.cut))
    -- dropped or broken exactly if no prompt run takes the word
    pub dropped_or_broken_exactly : SaysDroppedOrBroken a ↔ ((z : Config) → ¬ Reaches o (s ▸ e) z)

  -- S17, S18 of a record that may be offered twice, by the configuration that a prompt run reaches before it
  pub record DecidedOffered (o : ℕ) (s : Snoc LogRecord) (e : LogRecord) (a : Answer) : Type 0 where
    pub once_decided : ((y : Config) → Reaches o s y → ¬ (MissedIn C y e × Starts C e)) → Decided o s e a
    -- no prompt run takes the word of the round that missed it; the round that starts with it decides
    pub twice_decided : (y : Config) → Reaches o s y → MissedIn C y e → Starts C e
        → ((z : Config) → ¬ Reaches o (s ▸ e) z) × Decided e.time ε e a

  -- S19, after S13: a prompt run over a beginning of the round's word satisfies the prechart, and none takes the whole
  -- word.
  pub record Violated (o : ℕ) (s : Snoc LogRecord) : Type 0 where
    pub beginning : Snoc Letter
    pub rest : Snoc Letter
    pub parts : word o s ≡ strip beginning · rest
    pub end : Config
    pub run : Prompt C initial beginning end
    pub prechart : Satisfies C C.prechart beginning
    pub none_whole : (z : Config) → ¬ Reaches o s z

-- S7 to S10: where there is no step.
pub record Stuck (C : Chart) : Type 0 where
  -- over a message that no following region has, however much time has passed;
  pub unmatched : (c z : Config) (e : LogRecord) (d : ℕ) → Unmatched C c e
      → ¬ Advance C (wait C c d) (message e.code) z
  -- over the message of a following region whose condition fails, by whatever region;
  pub failing_message : (c z : Config) (i : ℕ) → Ready C c.cut i → plain C i ≡ false
      → condition_of C i c.valuation ≡ false
      → ¬ Advance C c (message (C.key i)) z
  -- silently to the successor of a following region whose condition fails, or that has a message;
  pub failing_plain : (c : Config) (i : ℕ) → Ready C c.cut i → condition_of C i c.valuation ≡ false
      → ¬ Advance C c silent (successor C c i)
  pub heard : (c : Config) (i : ℕ) → Ready C c.cut i → plain C i ≡ false → ¬ Advance C c silent (successor C c i)
  -- over the number 0, which is no message: no message advances a plain region;
  pub no_message : (c z : Config) → ¬ Advance C c (message 0) z
  -- by a termination of a region whose condition is hot, or holds;
  pub hot_stays : (c : Config) (i : ℕ) → So (C.hot i) → ¬ Terminates C c i
  pub holding_stays : (c : Config) (i : ℕ) → So (condition_of C i c.valuation) → ¬ Terminates C c i
  -- of a region that does not follow the cut;
  pub not_following : (c z : Config) (u : Letter) (a : Advance C c u z) (i : ℕ) → ¬ Ready C c.cut i → by C a ≢ some i
  -- S10, S21: by a delay after which the condition of each following region fails, although `wait` lets time pass there
  -- too; where the source has a delay step, it leads to what `wait` gives
  pub late : (c z : Config) (d : ℕ)
      → ((s : ℕ) → Ready C c.cut s → condition_of C s (shift C c.valuation d) ≡ false)
      → ¬ Advance C c (delay d) z
  pub delay_is_wait : (c z : Config) (d : ℕ) → Advance C c (delay d) z → z ≡ wait C c d

pub record Demand2 (C : Chart) : Type 0 where
  -- S20: cut, clock values, counts, break and answer after a record are what the steps give
  pub given : (m : Monitor) (e : LogRecord) → Acceptable C m e
      → Taken C (status_of C m) e (status_of C (feed C m e).next) (feed C m e).answer
  -- and the monitor is fit again
  pub stays_fit : (m : Monitor) (e : LogRecord) → Acceptable C m e → Fit C (feed C m e).next
  -- and these give nothing else: exactly one case applies
  pub only : (m : Monitor) (e : LogRecord) (P : Acceptable C m e) (y : Status) (a : Answer)
      (T : Taken C (status_of C m) e y a)
      → (y ≡ status_of C (feed C m e).next) × (a ≡ (feed C m e).answer) × (case_of C T ≡ case_of C (given m e P))
  -- T34: the second offer of a record is answered moved or dropped, and nothing else
  pub second_offer : (m : Monitor) (e : LogRecord) → Acceptable C m e → MissedIn C (status_of C m).config e → Starts C e
      → let a = (feed C m e).answer in (a ≡ moved) ⊎ ((x : Cause) × (a ≡ dropped_now x))
  -- a status fixes its fit monitor: no clock and no fired region is lost
  pub faithful : (m m' : Monitor) → Fit C m → Fit C m' → status_of C m ≡ status_of C m' → m ≡ m'
  -- the same of whole lists, refused feeds included
  pub all_given : (fs : Snoc LogRecord) → Read C fs (answers C fs) (status_of C (after C fs))
  pub all_only : (fs : Snoc LogRecord) (ans : Snoc Answer) (x : Status) → Read C fs ans x
      → (ans ≡ answers C fs) × (x ≡ status_of C (after C fs))
  -- and by the third demand's stretches and rows the list means the same: the status is that of a monitor that agrees
  pub as_rows : {fs : Snoc LogRecord} (M : Meaning C fs) (ans : Snoc Answer) (x : Status) → Read C fs ans x
      → (ans ≡ M.ans)
      × (m : Monitor) × Agrees C M.accepted M.stretches M.last m × (x ≡ status_of C m)
  -- S14: a prompt run is a run (S11)
  pub prompt_is_run : {x z : Config} {w : Snoc Letter} → Prompt C x w z → Run C x w z
  -- S16: over a word at most one comes to rest, from any configuration: the same letters and the same end
  pub one_prompt : {x z z' : Config} {w : Snoc Letter} (P : Over C x w z) (P' : Over C x w z')
      → (P.letters ≡ P'.letters) × (z ≡ z')
  -- S12, of the letters of a prompt run from the opening: its cut decides, whatever other runs take a beginning of them
  pub satisfied_exactly : {w : Snoc Letter} {z : Config} → Prompt C initial w z → SatisfiesExactly C w z.cut
  -- S5: a run that satisfies the prechart ends where the main chart starts
  pub main_starts : {w : Snoc Letter} (S : Satisfies C C.prechart w) (i : ℕ) → C.prechart ≤ i
      → S.end.cut i ≡ false
  -- S16: lawful rows and prompt runs from the opening are one for one, and a row shows the configuration to which its
  -- run leads
  pub row_is_prompt : (o : ℕ) (s : Snoc LogRecord) (r : Row) → Rising o (chart_messages C s) → Lawful C o s r
      → Reaches C o s (config_of C (last_of o (chart_messages C s)) o (chart_messages C s) r)
  pub prompt_is_row : (o : ℕ) (s : Snoc LogRecord) (z : Config) → Rising o (chart_messages C s) → Reaches C o s z
      → (r : Row) × Lawful C o s r × (z ≡ config_of C (last_of o (chart_messages C s)) o (chart_messages C s) r)
  -- S17, S18: after every list of feeds, one more accepted record is answered as its round's prompt runs decide
  pub decided : {fs : Snoc LogRecord} (M : Meaning C fs) (o : ℕ) (s : Snoc LogRecord) (e : LogRecord)
      → M.last ≡ unended o s
      → refusal M.accepted e ≡ none → DecidedOffered C o s e (feed C (after C fs) e).answer
  -- where a message is unmatched or a condition fails, there is no step
  pub stuck : Stuck C
  -- S3: the fired regions are always a cut
  pub monitor_is_cut : (fs : Snoc LogRecord) → IsCut C (after C fs).place.fired
  -- O7, S5: a cut that has a region of the main chart has the whole prechart
  pub main_in_cut : (c : ℕ → Bool) (i : ℕ) → IsCut C c → C.prechart ≤ i → So (c i) → PrechartDone C c
  -- and the running round is a prompt run, to the monitor's configuration at the round's last chart message
  pub round_is_prompt : {fs : Snoc LogRecord} (M : Meaning C fs) (o : ℕ) (s : Snoc LogRecord) → M.last ≡ unended o s
      → Reaches C o s (config_at C (last_of o (chart_messages C s)) (after C fs).place)
  -- S19: where a record is answered entered, the round's word satisfies the prechart
  pub entered_satisfies : {fs : Snoc LogRecord} (M : Meaning C fs) (o : ℕ) (s : Snoc LogRecord) (e : LogRecord)
      → M.last ≡ unended o s
      → (feed C (after C fs) e).answer ≡ entered
      → (P : Reaches C o (s ▸ e) (config_at C e.time (feed C (after C fs) e).next.place))
      × CompletedBy C C.prechart P.letters
  -- where it is answered kept, the whole chart
  pub kept_satisfies : {fs : Snoc LogRecord} (M : Meaning C fs) (o : ℕ) (s : Snoc LogRecord) (e : LogRecord)
      → M.last ≡ unended o s
      → (feed C (after C fs) e).answer ≡ kept_now
      → (z : Config) × (P : Reaches C o (s ▸ e) z) × CompletedBy C C.regions P.letters
  -- the run that completes a word consumes each delay and each message of it
  pub completed_whole : (n : ℕ) (w : Snoc Letter) (K : CompletedBy C n w) → strip K.satisfies.prefix ≡ strip w
  -- and where it is answered broken, the round violates it
  pub broken_violates : {fs : Snoc LogRecord} (M : Meaning C fs) (o : ℕ) (s : Snoc LogRecord) (e : LogRecord)
      → M.last ≡ unended o s
      → (n k : ℕ) (x : Cause) → (feed C (after C fs) e).answer ≡ broken_at n k x → Violated C o (s ▸ e)
  -- which it does exactly if the record is answered dropped or broken after a prompt run over a beginning of the word
  -- has fired the whole prechart: so too where a cold condition of the main chart fails
  pub violated_exactly : {fs : Snoc LogRecord} (M : Meaning C fs) (o : ℕ) (s : Snoc LogRecord) (e : LogRecord)
      → M.last ≡ unended o s
      → refusal M.accepted e ≡ none
      → Violated C o (s ▸ e)
      ↔ (SaysDroppedOrBroken (feed C (after C fs) e).answer
      × (u v : Snoc Letter) × (z : Config) × (word C o (s ▸ e) ≡ strip u · v) × Prompt C initial u z
      × PrechartDone C z.cut)
