-- Records of two stretches, and records that might be: what is missed, what can start a stretch, the lists fed, and how
-- each is taken. Assumes nothing.
use mathlib.Core.Path.{refl}
use mathlib.Core.Bool.{So}
use mathlib.Core.List.{[], ◌∷◌}
use Prim.Native.Nat.{ℕ}
use native.Mathlib.Omega.{arith}
use Rattle.base.specs.Lists.{Snoc, ε, ◌▸◌}
use Rattle.model.specs.Monitor.{no_cause, cause_of}
use Rattle.model.specs.Answers.{verdict_from}
use Rattle.rounds.specs.Rows.{LogRecord, Row, stands, chart_messages, Lawful, NoRow, LawfulButLast, PrechartDone}
use Rattle.rounds.specs.Feeds.{kept, dropped, Ends, complete, unplaced_prechart, fails_cold, dropped_now}
use Rattle.rounds.specs.Feeds.{entered, moved, Onward, completes_prechart, fires, runs_on, ends, once, twice}
use Rattle.rounds.specs.Feeds.{none_yet, one_more}
use Rattle.rounds.proofs.Endings.{unlawful}
use Rattle.rounds.proofs.Offers.{opens}
use Rattle.rounds.proofs.Rounds.{unready}
use Rattle.rounds.proofs.Tested.{row_test, lawful_tested, waived_tested}
use Rattle.rounds.proofs.Moments.{holds}
use Rattle.rounds.proofs.Machine.{full_true, full_false, done_true, done_false}
use Rattle.paper.specs.Runs.{initial}
use Rattle.paper.specs.Taken.{Unmatched}
use Rattle.chart_value.specs.Records.{log_record, logged}
use Rattle.witnesses.specs.Offers.{cold_second}
use Rattle.witness_rounds.specs.Charts.{chart_a, ask, pass, answer, press, done}
use Rattle.witness_rounds.specs.Rounds.{A, D, Judged, config_of, status_as, TakenBy}
use Rattle.witness_rounds.specs.Witnesses.{SharedFed, DroppedTwice, Misses, MissesNot, CanStart, CannotStart}
use Rattle.witness_rounds.proofs.Computing.{computing}
use Rattle.witness_rounds.proofs.Laws.{ready_at, accepts, taken_anew, taken_at_lem, misses_at, starts_by, starts_not}
use Rattle.witness_rounds.proofs.Laws.{placed_not, fed_on}
use Rattle.witness_rounds.proofs.Logs.{accepted_a, accepted_d}

-- chart A: ask at time t
abbrev asked : ℕ → LogRecord
asked t = log_record (ask t)

row_asked : (o t : ℕ) → Lawful A o (ε ▸ asked t) (ε ▸ 0)
unfolding computing
row_asked o t = lawful_tested A accepted_a o (ε ▸ asked t) (ε ▸ 0) refl refl refl

asked_not_done : ¬ PrechartDone A (stands (ε ▸ 0))
unfolding computing
asked_not_done = done_false A (stands (ε ▸ 0)) refl

asked_moves : Onward A ε (ε ▸ 0) moved
asked_moves = fires (omega arith) (λ h. absurd (asked_not_done h))

pub missed_starts : Misses A (ε ▸ ask 10) (ask 15) × CanStart A (ask 15)
unfolding computing
missed_starts = (
  misses_at A accepted_a (ε ▸ asked 10) (asked 15) ε 0 (row_asked 0 10) refl refl refl refl,
  starts_by A accepted_a (asked 15) (ε ▸ 0) 0
      (waived_tested A accepted_a 15 ε (asked 15) (ε ▸ 0) refl refl refl) refl refl refl,
)

-- pass and answer, in the stretch that ask 15 starts
abbrev passed : Snoc LogRecord
passed = logged (ε ▸ ask 15 ▸ pass 20)

row_passed : Lawful A 15 passed (ε ▸ 0 ▸ 1 ▸ 2)
unfolding computing
row_passed = lawful_tested A accepted_a 15 passed (ε ▸ 0 ▸ 1 ▸ 2) refl refl refl

row_answered : Lawful A 15 (passed ▸ log_record (answer 40)) (ε ▸ 0 ▸ 1 ▸ 2 ▸ 3 ▸ 4 ▸ 5)
unfolding computing
row_answered =
    lawful_tested A accepted_a 15 (passed ▸ log_record (answer 40)) (ε ▸ 0 ▸ 1 ▸ 2 ▸ 3 ▸ 4 ▸ 5) refl refl refl

pub shared_fed : SharedFed
unfolding computing
shared_fed =
    let whole : Row = ε ▸ 0 ▸ 1 ▸ 2 ▸ 3 ▸ 4 ▸ 5 in
    one_more (one_more (one_more (one_more none_yet
    (fed_on A 0 ε (asked 10) ε (ε ▸ 0) moved refl (opens A accepted_a 0) (row_asked 0 10) refl asked_moves))
    (twice refl missed_starts.0.0 missed_starts.1.0
    (runs_on ε (ε ▸ 0) moved (opens A accepted_a 15) (row_asked 15 15) (full_false A (stands (ε ▸ 0)) refl)
    asked_moves)))
    (fed_on A 15 (ε ▸ asked 15) (log_record (pass 20)) (ε ▸ 0) (ε ▸ 0 ▸ 1 ▸ 2) entered refl (row_asked 15 15)
    row_passed refl (completes_prechart asked_not_done (done_true A (stands (ε ▸ 0 ▸ 1 ▸ 2)) refl))))
    (once refl (λ X. placed_not A 15 passed (log_record (answer 40)) whole row_answered X.0)
    (ends kept (complete whole row_answered (full_true A (stands whole) refl))))

-- chart D: press at time t; regions 0 and 1 fire if clock 0 is 3 or more
abbrev pressed : ℕ → LogRecord
pressed t = log_record (press t)

abbrev ended : LogRecord
ended = log_record (done 20)

row_pressed : (o t : ℕ) → So (row_test D (holds D o (chart_messages D (ε ▸ pressed t))) (ε ▸ 0 ▸ 1))
    → Lawful D o (ε ▸ pressed t) (ε ▸ 0 ▸ 1)
unfolding computing
row_pressed o t h = lawful_tested D accepted_d o (ε ▸ pressed t) (ε ▸ 0 ▸ 1) refl h refl

pressed_not_done : ¬ PrechartDone D (stands (ε ▸ 0 ▸ 1))
unfolding computing
pressed_not_done = done_false D (stands (ε ▸ 0 ▸ 1)) refl

pressed_moves : Onward D ε (ε ▸ 0 ▸ 1) moved
pressed_moves = fires (omega arith) (λ h. absurd (pressed_not_done h))

-- at the opening clock 0 is 0, and region 1's condition fails
waived_pressed : LawfulButLast D 10 ε (pressed 10) (ε ▸ 0 ▸ 1)
unfolding computing
waived_pressed = waived_tested D accepted_d 10 ε (pressed 10) (ε ▸ 0 ▸ 1) refl refl refl

pressed_fails : Ends D 10 ε (pressed 10) (dropped (cause_of 1 1))
unfolding computing
pressed_fails = fails_cold (ε ▸ 0 ▸ 1) 1 1 waived_pressed refl refl

pub missed_fails : Misses D (ε ▸ press 3) (press 10) × CanStart D (press 10) × NoRow D 10 (logged (ε ▸ press 10))
unfolding computing
missed_fails = (
  misses_at D accepted_d (ε ▸ pressed 3) (pressed 10) (ε ▸ 0) 1 (row_pressed 0 3 refl) refl refl refl refl,
  starts_by D accepted_d (pressed 10) (ε ▸ 0 ▸ 1) 0 waived_pressed refl refl refl,
  unlawful D accepted_d 10 ε (pressed 10) pressed_fails refl,
)

pub missed_ends : Misses D (ε ▸ press 14) (done 20) × CannotStart D (done 20)
unfolding computing
missed_ends = (
  misses_at D accepted_d (ε ▸ pressed 14) ended (ε ▸ 0) 1 (row_pressed 0 14 refl) refl refl refl refl,
  starts_not D accepted_d ended refl,
)

pub dropped_twice : DroppedTwice
unfolding computing
dropped_twice =
    let L : Lawful D 10 (ε ▸ pressed 14) (ε ▸ 0 ▸ 1) = row_pressed 10 14 refl in
    one_more (one_more (one_more (one_more none_yet
    (fed_on D 0 ε (pressed 3) ε (ε ▸ 0 ▸ 1) moved refl (opens D accepted_d 0) (row_pressed 0 3 refl) refl
    pressed_moves))
    (twice refl missed_fails.0.0 missed_fails.1.0 (ends (dropped (cause_of 1 1)) pressed_fails)))
    (fed_on D 10 ε (pressed 14) ε (ε ▸ 0 ▸ 1) moved refl (opens D accepted_d 10) L refl pressed_moves))
    (once refl (λ X. missed_ends.1.0 X.1)
    (ends (dropped no_cause) (unplaced_prechart (ε ▸ 0 ▸ 1)
    (unready D accepted_d 10 (ε ▸ pressed 14) ended refl (ε ▸ 0 ▸ 1) L refl) L pressed_not_done)))

pub shared_judged : Judged chart_a (ε ▸ ask 10 ▸ ask 15 ▸ pass 20 ▸ answer 40) (verdict_from 0 1 1 4 0 0 0 0)
unfolding computing
shared_judged = refl

pub twice_judged : Judged cold_second (ε ▸ press 3 ▸ press 10 ▸ press 14 ▸ done 20) (verdict_from 0 0 3 4 0 0 0 0)
unfolding computing
twice_judged = refl

pub condition_failed : MissesNot A (ε ▸ ask 10) (pass 10)
unfolding computing Unmatched
condition_failed =
    let W : LawfulButLast A 0 (ε ▸ asked 10) (log_record (pass 10)) (ε ▸ 0 ▸ 1 ▸ 2)
    = waived_tested A accepted_a 0 (ε ▸ asked 10) (log_record (pass 10)) (ε ▸ 0 ▸ 1 ▸ 2) refl refl refl in
    (λ M. M.unplaced (ε ▸ 0 ▸ 1 ▸ 2) W, λ M. M.unmatched 1 (ready_at A accepted_a (ε ▸ 0) 1 refl) refl)

pub twice_moves : TakenBy 8 A (ε ▸ ask 10) (ask 15)
    (status_as (config_of (ε ▸ 0) (0 ∷ 0 ∷ [])) 15 2 0 1 0 0 no_cause) moved
unfolding computing accepts
twice_moves =
    taken_at_lem A accepted_a (ε ▸ asked 10) (asked 15) 8 (ε ▸ 0) (0 ∷ 0 ∷ []) moved refl refl refl refl refl

pub twice_fails : TakenBy 11 D (ε ▸ press 3) (press 10) (status_as initial 10 2 0 2 0 0 no_cause)
    (dropped_now (cause_of 1 1))
unfolding computing accepts
twice_fails =
    taken_anew D accepted_d (ε ▸ pressed 3) (pressed 10) 11 (dropped_now (cause_of 1 1)) refl refl refl refl

pub unmatched_once : TakenBy 6 D (ε ▸ press 14) (done 20) (status_as initial 20 2 0 1 0 0 no_cause)
    (dropped_now no_cause)
unfolding computing accepts
unmatched_once = taken_anew D accepted_d (ε ▸ pressed 14) ended 6 (dropped_now no_cause) refl refl refl refl
