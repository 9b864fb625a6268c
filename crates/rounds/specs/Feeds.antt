-- Stretches, how they end, and how feeds are answered (W11 to W26, W30, W31).
use Rattle.std.specs.Prelude.{◌≡◌, ◌↔◌, ◌⊎◌, Bool, true, false, cond, ℕ, suc, ◌<◌, ltb, leb}
use Rattle.std.proofs.Math.Bool.{So}
use Rattle.std.proofs.Math.Option.{Option, none, some}
use Rattle.base.specs.Lists.{Snoc, ε, ◌▸◌, size, keep}
use Rattle.model.specs.declared.Cause.{Cause}
use Rattle.model.specs.Monitor.{no_cause, cause_of}
use Rattle.model.specs.Answers.{time_falls, too_many_records, most_records}
use Rattle.rounds.specs.Chart.{Chart}
use Rattle.rounds.specs.Rows.{LogRecord, Row, Test, stands, chart_message, chart_messages, Full, PrechartDone}
use Rattle.rounds.specs.Rows.{clock_test}
use Rattle.rounds.specs.Rows.{LawfulBy, NoRowBy, LawfulButLastBy, first_failing_by}

-- T19, T21: the reasons of a break
abbrev pub no_ready_region : ℕ
no_ready_region = 1

abbrev pub condition_fails : ℕ
condition_fails = 2

-- the last record's time, 0 before the first
abbrev pub last_moment : Snoc LogRecord → ℕ
last_moment ε = 0
last_moment (l ▸ e) = e.time

-- W11, W12: whether a record is refused, given those that were accepted before it
unfoldable pub refusal : Snoc LogRecord → LogRecord → Option ℕ
refusal accepted e = cond (ltb e.time (last_moment accepted)) (some time_falls)
    (cond (leb most_records (size accepted)) (some too_many_records) none)

-- how a stretch ends; a dropped one with its cause (W30), a broken one with its reason and its cause
pub data Outcome : Type 0 where
  kept : Outcome
  dropped : Cause → Outcome
  broken : ℕ → Cause → Outcome

-- A stretch that has ended: the moment of its opening, its records, its outcome. Its last record may be the next
-- stretch's first (W31).
pub record Stretch : Type 0 where
  pub opening : ℕ
  pub records : Snoc LogRecord
  pub outcome : Outcome

-- W16: what follows the ended stretches: one that has not ended, with its opening and its records; or, after a broken
-- one, nothing, with the reason and the cause.
pub data Last : Type 0 where
  unended : ℕ → Snoc LogRecord → Last
  after_break : ℕ → Cause → Last

-- W15: what follows a stretch that ends at moment t
abbrev pub last_after : Outcome → ℕ → Last
last_after kept t = unended t ε
last_after (dropped x) t = unended t ε
last_after (broken k x) t = after_break k x

module _ (C : Chart) (T : Test) where
  -- W14: the stretch of s and then e ends with e, with this outcome.
  pub data EndsBy (o : ℕ) (s : Snoc LogRecord) (e : LogRecord) : Outcome → Type 0 where
    -- W17: some lawful row has all regions
    complete : (r : Row) → LawfulBy C T o (s ▸ e) r → Full C (stands r) → EndsBy o s e kept
    -- W19: there is no row even with the last conditions waived; the row q without the record says which phase it was
    unplaced_main : (q : Row) → ((r : Row) → ¬ LawfulButLastBy C T o s e r)
        → LawfulBy C T o s q → PrechartDone C (stands q) → EndsBy o s e (broken no_ready_region no_cause)
    unplaced_prechart : (q : Row) → ((r : Row) → ¬ LawfulButLastBy C T o s e r)
        → LawfulBy C T o s q → ¬ PrechartDone C (stands q) → EndsBy o s e (dropped no_cause)
    -- W20: there is a row with those waived, and the leftmost condition that fails in it is hot, or cold. In all four
    -- cases no row is lawful: that follows, and `ExactlyBy.dropped_or_broken_exactly` claims it.
    fails_hot : (r : Row) (i term : ℕ) → LawfulButLastBy C T o s e r
        → first_failing_by C T o (chart_messages C (s ▸ e)) r ≡ some (cause_of i term) → So (C.hot i)
        → EndsBy o s e (broken condition_fails (cause_of i term))
    fails_cold : (r : Row) (i term : ℕ) → LawfulButLastBy C T o s e r
        → first_failing_by C T o (chart_messages C (s ▸ e)) r ≡ some (cause_of i term) → C.hot i ≡ false
        → EndsBy o s e (dropped (cause_of i term))

-- N9, T27, T31: the answers to a feed
pub data Answer : Type 0 where
  refused : ℕ → Answer
  broken_at : ℕ → ℕ → Cause → Answer
  dropped_now : Cause → Answer
  kept_now entered moved quiet : Answer

-- W22: the answer where a stretch ends, at the n-th accepted record
abbrev pub ending : Outcome → ℕ → Answer
ending kept n = kept_now
ending (dropped x) n = dropped_now x
ending (broken k x) n = broken_at n k x

module _ (C : Chart) where
  -- W23: the answer where the round runs on, from row q to row r
  pub data Onward (q r : Row) : Answer → Type 0 where
    completes_prechart : ¬ PrechartDone C (stands q) → PrechartDone C (stands r) → Onward q r entered
    fires : size q < size r → (PrechartDone C (stands r) → PrechartDone C (stands q)) → Onward q r moved
    stays : q ≡ r → Onward q r quiet

module _ (C : Chart) (T : Test) where
  -- How the stretch that opened at o and has the records s goes on with record e, the n-th that is accepted, after the
  -- ended stretches es: the answer, the ended stretches then, and what follows them.
  pub data GoesBy (o : ℕ) (s : Snoc LogRecord) (e : LogRecord) (n : ℕ) (es : Snoc Stretch)
      : Answer → Snoc Stretch → Last → Type 0 where
    -- W14: it has a row that lacks a region; or it ends
    runs_on : (q r : Row) (a : Answer) → LawfulBy C T o s q → LawfulBy C T o (s ▸ e) r → ¬ Full C (stands r)
        → Onward C q r a → GoesBy o s e n es a es (unended o (s ▸ e))
    ends : (x : Outcome) → EndsBy C T o s e x
        → GoesBy o s e n es (ending x n) (es ▸ record { opening = o; records = s ▸ e; outcome = x })
        (last_after x e.time)

  -- W31: record e drops the stretch s by W19, and the row without e has a region
  pub record MissedBy (o : ℕ) (s : Snoc LogRecord) (e : LogRecord) : Type 0 where
    pub row : Row
    pub lawful : LawfulBy C T o s row
    pub fired_before : 0 < size row
    pub in_prechart_case : ¬ PrechartDone C (stands row)
    pub unplaced : (r : Row) → ¬ LawfulButLastBy C T o s e r

  -- W31: a chart message that could start a stretch: opened at its time, with its conditions waived, it has a row
  pub record FitsBy (e : LogRecord) : Type 0 where
    pub is_message_case : So (chart_message C e)
    pub row : Row
    pub lawful : LawfulButLastBy C T e.time ε e row

  -- One feed, of record e: the accepted records, the ended stretches and what follows them, before it; its answer; and
  -- the same three after it.
  pub data FedOneBy (rs : Snoc LogRecord) (es : Snoc Stretch) (e : LogRecord)
      : Last → Answer → Snoc LogRecord → Snoc Stretch → Last → Type 0 where
    -- W25: refused, and nothing changes
    refuses : {o : ℕ} {s : Snoc LogRecord} (k : ℕ) → refusal rs e ≡ some k
        → FedOneBy rs es e (unended o s) (refused k) rs es (unended o s)
    -- accepted, and of the last stretch alone
    once : {o : ℕ} {s : Snoc LogRecord} {a : Answer} {es' : Snoc Stretch} {last : Last} → refusal rs e ≡ none
        → ¬ (MissedBy o s e × FitsBy e) → GoesBy o s e (suc (size rs)) es a es' last
        → FedOneBy rs es e (unended o s) a (rs ▸ e) es' last
    -- W31: accepted, and of two stretches: one ends with it, dropped; the next, opened at its time, starts with it and
    -- gives the answer
    twice : {o : ℕ} {s : Snoc LogRecord} {a : Answer} {es' : Snoc Stretch} {last : Last} → refusal rs e ≡ none
        → MissedBy o s e → FitsBy e
        → GoesBy e.time ε e (suc (size rs)) (es ▸ record { opening = o; records = s ▸ e; outcome = dropped no_cause })
        a es' last
        → FedOneBy rs es e (unended o s) a (rs ▸ e) es' last
    -- W25: after a break the answer is the same again
    again : {k : ℕ} {x : Cause} → FedOneBy rs es e (after_break k x) (broken_at (size rs) k x) rs es (after_break k x)

  -- W10, W13: a whole list of feeds, with its answers, the accepted records, the ended stretches and what follows them.
  pub data FedBy : Snoc LogRecord → Snoc Answer → Snoc LogRecord → Snoc Stretch → Last → Type 0 where
    none_yet : FedBy ε ε ε ε (unended 0 ε)
    one_more : {fs : Snoc LogRecord} {ans : Snoc Answer} {rs rs' : Snoc LogRecord} {es es' : Snoc Stretch}
        {last last' : Last}
        {e : LogRecord} {a : Answer} → FedBy fs ans rs es last → FedOneBy rs es e last a rs' es' last'
        → FedBy (fs ▸ e) (ans ▸ a) rs' es' last'

module _ (C : Chart) where
  abbrev pub Ends : ℕ → Snoc LogRecord → LogRecord → Outcome → Type 0
  Ends = EndsBy C (clock_test C)

  abbrev pub Missed : ℕ → Snoc LogRecord → LogRecord → Type 0
  Missed = MissedBy C (clock_test C)

  abbrev pub Fits : LogRecord → Type 0
  Fits = FitsBy C (clock_test C)

  abbrev pub Fed : Snoc LogRecord → Snoc Answer → Snoc LogRecord → Snoc Stretch → Last → Type 0
  Fed = FedBy C (clock_test C)

abbrev pub is_kept : Outcome → Bool
is_kept kept = true
is_kept (dropped x) = false
is_kept (broken k x) = false

abbrev pub is_dropped : Outcome → Bool
is_dropped kept = false
is_dropped (dropped x) = true
is_dropped (broken k x) = false

-- W26: how many stretches ended so
abbrev pub kept_among : Snoc Stretch → ℕ
kept_among es = size (keep (λ x. is_kept x.outcome) es)

abbrev pub dropped_among : Snoc Stretch → ℕ
dropped_among es = size (keep (λ x. is_dropped x.outcome) es)

-- W24: the answers with which the round runs on, and those with which it is dropped or broken
abbrev pub SaysRunsOn : Answer → Type 0
SaysRunsOn a = (a ≡ entered) ⊎ (a ≡ moved) ⊎ (a ≡ quiet)

abbrev pub SaysDroppedOrBroken : Answer → Type 0
SaysDroppedOrBroken a = ((x : Cause) × (a ≡ dropped_now x)) ⊎ ((n k : ℕ) × (x : Cause) × (a ≡ broken_at n k x))

-- W24, of the answer to record e after the stretch s
pub record ExactlyBy (C : Chart) (T : Test) (o : ℕ) (s : Snoc LogRecord) (e : LogRecord) (a : Answer) : Type 0 where
  -- kept: some lawful row is complete
  pub kept_exactly : (a ≡ kept_now) ↔ ((r : Row) × LawfulBy C T o (s ▸ e) r × Full C (stands r))
  -- running on: some lawful row is not
  pub runs_on_exactly : SaysRunsOn a ↔ ((r : Row) × LawfulBy C T o (s ▸ e) r × (¬ Full C (stands r)))
  -- dropped or broken: no row is lawful
  pub dropped_or_broken_exactly : SaysDroppedOrBroken a ↔ NoRowBy C T o (s ▸ e)

-- W24 and W31, of a record that two stretches may share
pub record ExactlyOfferedBy (C : Chart) (T : Test) (o : ℕ) (s : Snoc LogRecord) (e : LogRecord) (a : Answer)
    : Type 0 where
  pub once_exactly : ¬ (MissedBy C T o s e × FitsBy C T e) → ExactlyBy C T o s e a
  -- the stretch before has no lawful row any more, and the answer is that of the stretch which starts with e
  pub twice_exactly : MissedBy C T o s e → FitsBy C T e → NoRowBy C T o (s ▸ e) × ExactlyBy C T e.time ε e a

abbrev pub ExactlyOffered : Chart → ℕ → Snoc LogRecord → LogRecord → Answer → Type 0
ExactlyOffered C = ExactlyOfferedBy C (clock_test C)
