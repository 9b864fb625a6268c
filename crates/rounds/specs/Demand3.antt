-- The third demand, of one chart: the rules on lists of feeds, rows and stretches (W9 to W31).
use Rattle.std.specs.Prelude.{◌≡◌, ◌⊎◌, ℕ, ◌+◌, ◌≤◌}
use Rattle.std.proofs.Math.Option.{none}
use Rattle.base.specs.Lists.{Snoc, ◌▸◌, size, EachIn, Beginning}
use Rattle.model.specs.declared.Cause.{Cause}
use Rattle.model.specs.Monitor.{no_cause}
use Rattle.rounds.specs.Chart.{Chart}
use Rattle.rounds.specs.Rows.{LogRecord, Row, Test, stands, chart_messages, reset_moment, clock_test, Full}
use Rattle.rounds.specs.Rows.{Lawful, LawfulButLast}
use Rattle.rounds.specs.Feeds.{last_moment, refusal, Stretch, Last, unended, after_break, Ends, Answer, FedBy}
use Rattle.rounds.specs.Feeds.{moved, dropped_now, Missed, Fits, kept_among, dropped_among, ExactlyOffered}
use Rattle.rounds.specs.Machine.{Monitor, feed, after, answers, Fit}

-- W27, after a broken stretch: how many records were accepted, its reason and its cause
pub record Broken (k : ℕ) (x : Cause) (rs : Snoc LogRecord) (m : Monitor) : Type 0 where
  pub at_last_accepted : m.tally.broken.at ≡ size rs
  pub of_stretch : m.tally.broken.reason ≡ k
  pub has_cause : m.tally.broken.cause ≡ x

module _ (C : Chart) where
  -- W27, W28, without a broken stretch: no break, and the monitor has the fired regions and the reset moments that the
  -- last stretch's row gives
  pub record Unbroken (o : ℕ) (s : Snoc LogRecord) (m : Monitor) : Type 0 where
    pub row : Row
    pub lawful : Lawful C o s row
    pub has_fired : m.place.fired ≡ stands row
    pub has_clocks : m.place.clocks ≡ reset_moment C o (chart_messages C s) row
    pub no_break_case : m.tally.broken.at ≡ 0
    pub no_reason : m.tally.broken.reason ≡ 0
    pub no_cause_case : m.tally.broken.cause ≡ no_cause

  -- what the monitor holds of the last stretch
  unfoldable pub AtLast : Last → Snoc LogRecord → Monitor → Type 0
  AtLast (unended o s) rs m = Unbroken o s m
  AtLast (after_break k x) rs m = Broken k x rs m

  -- W26: counts and time, each as the accepted records and the stretches have it; the rest by W27 and W28
  pub record Agrees (rs : Snoc LogRecord) (es : Snoc Stretch) (last : Last) (m : Monitor) : Type 0 where
    pub now : m.tally.now ≡ last_moment rs
    pub records : m.tally.records ≡ size rs
    pub kept : m.tally.kept ≡ kept_among es
    pub dropped : m.tally.dropped ≡ dropped_among es
    pub at_last : AtLast last rs m

  -- W14: after each of these records there is a lawful row that lacks a region, so that the round runs on
  unfoldable pub RunsOn : ℕ → Snoc LogRecord → Type 0
  RunsOn o s = (p : Snoc LogRecord) → Beginning p s → (r : Row) × Lawful C o p r × (¬ Full C (stands r))

  -- W14: before its last record the round ran on each time, and with that record it ends as its outcome says
  pub record Ended (x : Stretch) : Type 0 where
    pub before : Snoc LogRecord
    pub last : LogRecord
    pub parts : x.records ≡ before ▸ last
    pub ran_on : RunsOn x.opening before
    pub ends : Ends C x.opening before last x.outcome

-- What a list of feeds means: its answers, the accepted records, the ended stretches and what follows them.
pub record MeaningBy (C : Chart) (T : Test) (fs : Snoc LogRecord) : Type 0 where
  pub ans : Snoc Answer
  pub accepted : Snoc LogRecord
  pub stretches : Snoc Stretch
  pub last : Last
  pub fed : FedBy C T fs ans accepted stretches last

abbrev pub Meaning : Chart → Snoc LogRecord → Type 0
Meaning C = MeaningBy C (clock_test C)

pub record Same {C : Chart} {T : Test} {fs : Snoc LogRecord} (M M' : MeaningBy C T fs) : Type 0 where
  pub same_answers : M.ans ≡ M'.ans
  pub same_accepted : M.accepted ≡ M'.accepted
  pub same_stretches : M.stretches ≡ M'.stretches
  pub same_last : M.last ≡ M'.last

pub record Demand3 (C : Chart) : Type 0 where
  -- W11 to W23: each list of feeds has a meaning, and only one
  pub cut_exists : (fs : Snoc LogRecord) → Meaning C fs
  pub cut_unique : {fs : Snoc LogRecord} (M M' : Meaning C fs) → Same M M'
  -- W24, W31: the answer to one more accepted record, after the list fs
  pub exactly : {fs : Snoc LogRecord} (M : Meaning C fs) (o : ℕ) (s : Snoc LogRecord) (e : LogRecord)
      → M.last ≡ unended o s
      → refusal M.accepted e ≡ none → ExactlyOffered C o s e (feed C (after C fs) e).answer
  -- W31: if two stretches share it, no other answer than moved or dropped
  pub second_offer : {fs : Snoc LogRecord} (M : Meaning C fs) (o : ℕ) (s : Snoc LogRecord) (e : LogRecord)
      → M.last ≡ unended o s
      → refusal M.accepted e ≡ none → Missed C o s e → Fits C e
      → let a = (feed C (after C fs) e).answer in (a ≡ moved) ⊎ ((x : Cause) × (a ≡ dropped_now x))
  -- W24, of the stretches themselves: of each that has ended, and of the last one at each of its records
  pub each_stretch : {fs : Snoc LogRecord} (M : Meaning C fs) → EachIn (λ before x. Ended C x) M.stretches
  pub last_stretch : {fs : Snoc LogRecord} (M : Meaning C fs) (o : ℕ) (s : Snoc LogRecord)
      → M.last ≡ unended o s → RunsOn C o s
  -- W14: no stretch ends twice: of two from one opening, the one a beginning of the other, both are one
  pub ends_once : (x y : Stretch) → Ended C x → Ended C y → x.opening ≡ y.opening
      → Beginning x.records y.records → x ≡ y
  -- W9: a stretch has one lawful row at most
  pub one_row : (o : ℕ) (s : Snoc LogRecord) (r r' : Row) → Lawful C o s r → Lawful C o s r' → r ≡ r'
  -- W18: and at most one if the conditions of its last record are waived
  pub one_row_waived : (o : ℕ) (s : Snoc LogRecord) (e : LogRecord) (r r' : Row)
      → LawfulButLast C o s e r → LawfulButLast C o s e r' → r ≡ r'
  -- W22 to W28: every answer, and the monitor after the last feed
  pub monitor_agrees : {fs : Snoc LogRecord} (M : Meaning C fs)
      → (answers C fs ≡ M.ans) × Agrees C M.accepted M.stretches M.last (after C fs)
  -- no other tally agrees, and if the last stretch has no end, no other monitor
  pub agrees_only : {fs : Snoc LogRecord} (M : Meaning C fs) (m : Monitor)
      → Agrees C M.accepted M.stretches M.last m
      → (m.tally ≡ (after C fs).tally) × ((o : ℕ) (s : Snoc LogRecord) → M.last ≡ unended o s → m ≡ after C fs)
  -- W29: the monitor is always fit, so that refusal 21 never occurs
  pub stays_fit : (fs : Snoc LogRecord) → Fit C (after C fs)
  -- W31: a record starts one stretch at most; so no more stretches have ended than records came
  pub few_rounds : (fs : Snoc LogRecord) → let x = (after C fs).tally in x.kept + x.dropped ≤ x.records
