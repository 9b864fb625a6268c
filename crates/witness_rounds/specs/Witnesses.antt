-- The witnesses, on one page: the rounds, and an example of every case of the theory's definitions.
use Rattle.std.specs.Prelude.{◌≡◌, true, false, [], ◌∷◌, ℕ}
use Rattle.std.proofs.Math.Option.{some}
use Rattle.model.specs.declared.Record.{Record}
use Rattle.model.specs.Monitor.{no_cause, cause_of}
use Rattle.model.specs.Answers.{time_falls, verdict_from}
use Rattle.base.specs.Lists.{Snoc, ε, ◌▸◌}
use Rattle.rounds.specs.Chart.{Chart}
use Rattle.rounds.specs.Rows.{Row, plain, NoRow, LawfulButLast}
use Rattle.rounds.specs.Feeds.{no_ready_region, Outcome, kept, dropped, broken, unended, after_break, Ends}
use Rattle.rounds.specs.Feeds.{refused, kept_now, dropped_now, broken_at, entered, moved, quiet, Onward, Missed, Fits, Fed}
use Rattle.rounds.specs.Machine.{after}
use Rattle.paper.specs.Runs.{Config, Letter, message, silent, delay, initial, Advance, by, Prompt, Over, spelled}
use Rattle.paper.specs.Taken.{Turn, MissedIn, Starts, status_of}
use Rattle.chart_value.specs.Records.{log_record, logged}
use Rattle.witnesses.specs.Feeds.{passes as passed, undo, headings, references}
use Rattle.witnesses.specs.Offers.{cold_second}
use Rattle.witness_rounds.specs.Charts.{chart_a, ask, pass, answer, press, done}
use Rattle.witness_rounds.specs.Rounds.{U, A, D, Judged, config_of, status_as, TakenBy, RoundShown}
use Rattle.witness_rounds.specs.Rounds.{round_u, kept_a, dropped_a, broken_a, kept_b, dropped_b, broken_b}

-- the stretch of s and then e has no row, not even with the conditions at e waived, and ends so
abbrev pub Unplaced : Chart → Snoc Record → Record → Outcome → Type 0
Unplaced C s e x =
    NoRow C 0 (logged s ▸ log_record e) × ((r : Row) → ¬ LawfulButLast C 0 (logged s) (log_record e) r)
    × Ends C 0 (logged s) (log_record e) x

-- S7 to S9: a step over this letter, by this region
abbrev pub StepBy : Chart → ℕ → Config → Letter → Config → Type 0
StepBy C i x u z = (a : Advance C x u z) × (by C a ≡ some i)

-- after the records s, when record e comes, it is region i's turn in configuration z
abbrev pub TurnOf : Chart → Snoc Record → Record → ℕ → Config → Type 0
TurnOf C s e i z = Turn C (status_of C (after C (logged s))) (log_record e) i z

-- five records fed: a stretch ends, one runs on, a record is refused, that stretch breaks, and its answer comes again
abbrev pub FiveFed : Type 0
FiveFed = Fed U
    (logged (ε ▸ headings 5 ▸ undo 100 ▸ headings 99 ▸ undo 110 ▸ references 120))
    (ε ▸ dropped_now no_cause ▸ entered ▸ refused time_falls ▸ broken_at 3 no_ready_region no_cause
    ▸ broken_at 3 no_ready_region no_cause)
    (logged (ε ▸ headings 5 ▸ undo 100 ▸ undo 110))
    (ε ▸ record { opening = 0; records = logged (ε ▸ headings 5); outcome = dropped no_cause }
    ▸ record { opening = 5; records = logged (ε ▸ undo 100 ▸ undo 110); outcome = broken no_ready_region no_cause })
    (after_break no_ready_region no_cause)

-- ask 15 is of two stretches: it drops one, and starts the next, which opens at 15 and is kept
abbrev pub SharedFed : Type 0
SharedFed = Fed A
    (logged (ε ▸ ask 10 ▸ ask 15 ▸ pass 20 ▸ answer 40))
    (ε ▸ moved ▸ moved ▸ entered ▸ kept_now)
    (logged (ε ▸ ask 10 ▸ ask 15 ▸ pass 20 ▸ answer 40))
    (ε ▸ record { opening = 0; records = logged (ε ▸ ask 10 ▸ ask 15); outcome = dropped no_cause }
    ▸ record { opening = 15; records = logged (ε ▸ ask 15 ▸ pass 20 ▸ answer 40); outcome = kept })
    (unended 40 ε)

-- press 10 is of two stretches, both dropped, the second by region 1; done 20 drops one and starts none
abbrev pub DroppedTwice : Type 0
DroppedTwice = Fed D
    (logged (ε ▸ press 3 ▸ press 10 ▸ press 14 ▸ done 20))
    (ε ▸ moved ▸ dropped_now (cause_of 1 1) ▸ moved ▸ dropped_now no_cause)
    (logged (ε ▸ press 3 ▸ press 10 ▸ press 14 ▸ done 20))
    (ε ▸ record { opening = 0; records = logged (ε ▸ press 3 ▸ press 10); outcome = dropped no_cause }
    ▸ record { opening = 10; records = logged (ε ▸ press 10); outcome = dropped (cause_of 1 1) }
    ▸ record { opening = 10; records = logged (ε ▸ press 14 ▸ done 20); outcome = dropped no_cause })
    (unended 20 ε)

-- W31 by rows, S20 by the configuration: after the records s record e is missed, or is not
abbrev pub Misses : Chart → Snoc Record → Record → Type 0
Misses C s e =
    Missed C 0 (logged s) (log_record e) × MissedIn C (status_of C (after C (logged s))).config (log_record e)

abbrev pub MissesNot : Chart → Snoc Record → Record → Type 0
MissesNot C s e =
    (¬ Missed C 0 (logged s) (log_record e)) × (¬ MissedIn C (status_of C (after C (logged s))).config (log_record e))

-- likewise: a stretch and a round can start with record e, or cannot
abbrev pub CanStart : Chart → Record → Type 0
CanStart C e = Fits C (log_record e) × Starts C (log_record e)

abbrev pub CannotStart : Chart → Record → Type 0
CannotStart C e = (¬ Fits C (log_record e)) × (¬ Starts C (log_record e))

pub record Witnesses : Type 0 where
  -- seven rounds, from bytes to rows; `Ends` by `complete`, `fails_cold` and `fails_hot`; `Taken` by cases 3, 4 and 5
  pub round_u_shown : RoundShown round_u
  pub kept_a_shown : RoundShown kept_a
  pub dropped_a_shown : RoundShown dropped_a
  pub broken_a_shown : RoundShown broken_a
  pub kept_b_shown : RoundShown kept_b
  pub dropped_b_shown : RoundShown dropped_b
  pub broken_b_shown : RoundShown broken_b
  -- `Ends`: no region has the message, in the prechart and in the main chart
  pub unplaced_in_prechart : Unplaced U ε (headings 5) (dropped no_cause)
  pub unplaced_in_main : Unplaced U (ε ▸ undo 100) (undo 110) (broken no_ready_region no_cause)
  -- `Onward`: the three ways in which a round runs on
  pub row_entered : Onward U ε (ε ▸ 0) entered
  pub row_moved : Onward U (ε ▸ 0) (ε ▸ 0 ▸ 2) moved
  pub row_quiet : Onward U (ε ▸ 0) (ε ▸ 0) quiet
  -- `Fed`, `FedOne` and `Goes`: by one offer and by two, a stretch runs on, and one ends
  pub five_fed : FiveFed
  pub shared_fed : SharedFed
  pub dropped_twice : DroppedTwice
  -- the last two from bytes: 4 records each; kept 1 and dropped 1, and dropped 3
  pub shared_judged : Judged chart_a (ε ▸ ask 10 ▸ ask 15 ▸ pass 20 ▸ answer 40) (verdict_from 0 1 1 4 0 0 0 0)
  pub twice_judged : Judged cold_second (ε ▸ press 3 ▸ press 10 ▸ press 14 ▸ done 20) (verdict_from 0 0 3 4 0 0 0 0)
  -- `Missed` with `Fits`, `MissedIn` with `Starts`: both true; both, though a condition fails; the first alone
  pub missed_starts : Misses A (ε ▸ ask 10) (ask 15) × CanStart A (ask 15)
  pub missed_fails : Misses D (ε ▸ press 3) (press 10) × CanStart D (press 10) × NoRow D 10 (logged (ε ▸ press 10))
  pub missed_ends : Misses D (ε ▸ press 14) (done 20) × CannotStart D (done 20)
  -- neither `Missed` nor `MissedIn`: nothing was fired; a region has the message and fails; the prechart is done
  pub nothing_fired_case : MissesNot U ε (headings 5)
  pub condition_failed : MissesNot A (ε ▸ ask 10) (pass 10)
  pub prechart_done_case : MissesNot U (ε ▸ undo 100) (undo 110)
  -- `Advance`: time passes, region 0 has its message, region 2 advances, or terminates where its condition fails
  pub delays_by : Advance A initial (delay 10) (config_of ε (10 ∷ 10 ∷ []))
  pub synchronizes_by : StepBy A 0 (config_of ε (10 ∷ 10 ∷ [])) (message (A.key 0)) (config_of (ε ▸ 0) (0 ∷ 10 ∷ []))
  pub advances_by : StepBy A 2 (config_of (ε ▸ 0 ▸ 1) (10 ∷ 0 ∷ [])) silent (config_of (ε ▸ 0 ▸ 1 ▸ 2) (10 ∷ 0 ∷ []))
  pub terminates_by : StepBy A 2 (config_of (ε ▸ 0 ▸ 1) (11 ∷ 0 ∷ [])) silent initial
  -- `Prompt` and `Over`: from the opening over chart A's first two messages
  pub run_begins : Prompt A initial ε initial
  pub run_goes : Prompt A initial (ε ▸ delay 10 ▸ message (A.key 0)) (config_of (ε ▸ 0) (0 ∷ 10 ∷ []))
  pub run_settles : Prompt A initial (ε ▸ delay 10 ▸ message (A.key 0) ▸ delay 10 ▸ message (A.key 1) ▸ silent)
      (config_of (ε ▸ 0 ▸ 1 ▸ 2) (10 ∷ 0 ∷ []))
  pub run_over : Over A initial (spelled 0 (logged (ε ▸ ask 10 ▸ pass 20))) (config_of (ε ▸ 0 ▸ 1 ▸ 2) (10 ∷ 0 ∷ []))
  -- `Turn`: of a region with the record's message, and of a plain one after it
  pub turn_heard : (plain U 1 ≡ false)
      × TurnOf U (ε ▸ undo 100 ▸ references 120) (headings 141) 1 (config_of (ε ▸ 0 ▸ 2) (41 ∷ []))
  pub turn_plain : (plain A 4 ≡ true)
      × TurnOf A (ε ▸ ask 10 ▸ pass 20) (answer 41) 4 (config_of (ε ▸ 0 ▸ 1 ▸ 2 ▸ 3) (31 ∷ 21 ∷ []))
  -- `Taken` by the other cases: passes, moves, enters, unmatched in the prechart and in the main chart
  pub passes_by : TakenBy 0 U (ε ▸ undo 100) (passed 110)
      (status_as (config_of (ε ▸ 0) (10 ∷ [])) 110 2 0 0 0 0 no_cause) quiet
  pub moves_by : TakenBy 1 U (ε ▸ undo 100) (references 120)
      (status_as (config_of (ε ▸ 0 ▸ 2) (20 ∷ [])) 120 2 0 0 0 0 no_cause) moved
  pub enters_by : TakenBy 2 U ε (undo 100) (status_as (config_of (ε ▸ 0) (0 ∷ [])) 100 1 0 0 0 0 no_cause) entered
  pub unmatched_in_prechart : TakenBy 6 U ε (headings 5) (status_as initial 5 1 0 1 0 0 no_cause)
      (dropped_now no_cause)
  pub unmatched_in_main : TakenBy 7 U (ε ▸ undo 100) (undo 110)
      (status_as (config_of (ε ▸ 0) (10 ∷ [])) 110 2 0 0 2 no_ready_region no_cause) (broken_at 2 no_ready_region no_cause)
  -- by the second offer: moves, with both clocks at 0, and fails cold; by the first, though missed: it starts no round
  pub twice_moves : TakenBy 8 A (ε ▸ ask 10) (ask 15)
      (status_as (config_of (ε ▸ 0) (0 ∷ 0 ∷ [])) 15 2 0 1 0 0 no_cause) moved
  pub twice_fails : TakenBy 11 D (ε ▸ press 3) (press 10) (status_as initial 10 2 0 2 0 0 no_cause)
      (dropped_now (cause_of 1 1))
  pub unmatched_once : TakenBy 6 D (ε ▸ press 14) (done 20) (status_as initial 20 2 0 1 0 0 no_cause)
      (dropped_now no_cause)
