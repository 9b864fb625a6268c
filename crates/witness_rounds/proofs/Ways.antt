-- The other ways to end, to run on, to be fed and to be taken, and the steps of S7 to S10: each by its constructor or
-- by the laws. Assumes nothing.
use mathlib.Core.Path.{◌≡◌, refl, ap, subst, ◌∙◌}
use mathlib.Core.Bool.{true, false, false≢true}
use mathlib.Core.List.{[], ◌∷◌}
use Prim.Native.Nat.{ℕ}
use native.Mathlib.Omega.{arith}
use Rattle.base.specs.Lists.{Snoc, ε, ◌▸◌}
use Rattle.model.specs.Monitor.{no_cause}
use Rattle.model.specs.Answers.{time_falls}
use Rattle.rounds.specs.Rows.{LogRecord, Row, stands, plain, Lawful, LawfulButLast, PrechartDone}
use Rattle.rounds.specs.Feeds.{no_ready_region, dropped, broken, Ends, unplaced_main, unplaced_prechart, dropped_now}
use Rattle.rounds.specs.Feeds.{broken_at, entered, moved, quiet, Onward, completes_prechart, fires, stays, refuses}
use Rattle.rounds.specs.Feeds.{ends, Missed, once, again, none_yet, one_more}
use Rattle.rounds.specs.Machine.{after}
use Rattle.rounds.proofs.Endings.{unlawful}
use Rattle.rounds.proofs.Tested.{lawful_tested, no_region}
use Rattle.rounds.proofs.Machine.{done_true, done_false}
use Rattle.paper.specs.Runs.{Config, Letter, message, silent, delay, initial, Advance, wait, successor, Prompt, begins}
use Rattle.paper.specs.Runs.{settles, Over, spelled}
use Rattle.paper.proofs.Prompts.{synchronizes, advances, terminates, delays, goes_on}
use Rattle.chart_value.specs.Records.{log_record, logged}
use Rattle.witnesses.specs.Feeds.{passes as passed, undo, headings, references}
use Rattle.witness_rounds.specs.Charts.{ask, pass, answer}
use Rattle.witness_rounds.specs.Rounds.{U, A, config_of, status_as, TakenBy}
use Rattle.witness_rounds.specs.Witnesses.{Unplaced, StepBy, TurnOf, FiveFed, MissesNot}
use Rattle.witness_rounds.proofs.Computing.{computing}
use Rattle.witness_rounds.proofs.Laws.{wait_is, successor_is, ready_at, rests_at_lem, next_at_lem, accepts, taken_anew}
use Rattle.witness_rounds.proofs.Laws.{taken_at_lem, turn_at, done_not, fed_on, none_not}
use Rattle.witness_rounds.proofs.Logs.{accepted_u, accepted_a}

-- after an opening of chart U: nothing, undo at 100, and undo again at 110
abbrev undone : Snoc LogRecord
undone = logged (ε ▸ undo 100)

abbrev second : LogRecord
second = log_record (undo 110)

module _ (o : ℕ) where
  row_empty : Lawful U o ε ε
  unfolding computing
  row_empty = lawful_tested U accepted_u o ε ε refl refl refl

  row_undo : Lawful U o undone (ε ▸ 0)
  unfolding computing
  row_undo = lawful_tested U accepted_u o undone (ε ▸ 0) refl refl refl

  no_second : (r : Row) → ¬ LawfulButLast U o undone second r
  unfolding computing
  no_second = no_region U accepted_u o undone second (ε ▸ 0) row_undo refl refl

-- the prechart's one region
not_done : ¬ PrechartDone U (stands ε)
unfolding computing
not_done = done_false U (stands ε) refl

done : PrechartDone U (stands (ε ▸ 0))
unfolding computing
done = done_true U (stands (ε ▸ 0)) refl

second_not : (o : ℕ) → ¬ Missed U o undone second
second_not o = done_not U o undone second accepted_u (ε ▸ 0) (row_undo o) done

breaks : (o : ℕ) → Ends U o undone second (broken no_ready_region no_cause)
breaks o = unplaced_main (ε ▸ 0) (no_second o) (row_undo o) done

pub unplaced_in_prechart : Unplaced U ε (headings 5) (dropped no_cause)
unfolding computing
unplaced_in_prechart =
    let e : LogRecord = log_record (headings 5) in
    let W : (r : Row) → ¬ LawfulButLast U 0 ε e r = no_region U accepted_u 0 ε e ε (row_empty 0) refl refl in
    let E : Ends U 0 ε e (dropped no_cause) = unplaced_prechart ε W (row_empty 0) not_done in
    (unlawful U accepted_u 0 ε e E refl, W, E)

pub unplaced_in_main : Unplaced U (ε ▸ undo 100) (undo 110) (broken no_ready_region no_cause)
unplaced_in_main = (unlawful U accepted_u 0 undone second (breaks 0) refl, no_second 0, breaks 0)

pub nothing_fired_case : MissesNot U ε (headings 5)
unfolding computing
nothing_fired_case = (none_not U accepted_u 0 (log_record (headings 5)), λ M. false≢true M.fired_before.1)

pub prechart_done_case : MissesNot U (ε ▸ undo 100) (undo 110)
unfolding computing
prechart_done_case = (second_not 0, λ M. M.in_prechart_case done)

pub row_entered : Onward U ε (ε ▸ 0) entered
row_entered = completes_prechart not_done done

pub row_moved : Onward U (ε ▸ 0) (ε ▸ 0 ▸ 2) moved
row_moved = fires (omega arith) (λ h. done)

pub row_quiet : Onward U (ε ▸ 0) (ε ▸ 0) quiet
row_quiet = stays refl

pub five_fed : FiveFed
unfolding computing
five_fed =
    one_more (one_more (one_more (one_more (one_more none_yet
    (once refl (λ X. nothing_fired_case.0 X.0) (ends (dropped no_cause) unplaced_in_prechart.2)))
    (fed_on U 5 ε (log_record (undo 100)) ε (ε ▸ 0) entered refl (row_empty 5) (row_undo 5) refl row_entered))
    (refuses time_falls refl))
    (once refl (λ X. second_not 5 X.0) (ends (broken no_ready_region no_cause) (breaks 5))))
    again

-- chart A's configurations: 10 ticks after the opening; after ask; 10 ticks later, after pass; and after region 2
abbrev x₁ : Config
x₁ = config_of ε (10 ∷ 10 ∷ [])

abbrev x₂ : Config
x₂ = config_of (ε ▸ 0) (0 ∷ 10 ∷ [])

abbrev x₃ : Config
x₃ = config_of (ε ▸ 0 ▸ 1) (10 ∷ 0 ∷ [])

abbrev x₄ : Config
x₄ = config_of (ε ▸ 0 ▸ 1 ▸ 2) (10 ∷ 0 ∷ [])

-- the letters to x₂ and to x₃
abbrev w₂ : Snoc Letter
w₂ = ε ▸ delay 10 ▸ message (A.key 0)

abbrev w₃ : Snoc Letter
w₃ = w₂ ▸ delay 10 ▸ message (A.key 1)

to_x₁ : wait A initial 10 ≡ x₁
unfolding computing
to_x₁ = wait_is A initial 10 ε (10 ∷ 10 ∷ []) refl refl

to_x₂ : successor A x₁ 0 ≡ x₂
unfolding computing
to_x₂ = successor_is A ε (10 ∷ 10 ∷ []) 0 (0 ∷ 10 ∷ []) refl refl

to_x₃ : successor A (wait A x₂ 10) 1 ≡ x₃
unfolding computing
to_x₃ = ap {B = Config} (λ (x : Config). successor A x 1) (wait_is A x₂ 10 (ε ▸ 0) (10 ∷ 20 ∷ []) refl refl)
    ∙ successor_is A (ε ▸ 0) (10 ∷ 20 ∷ []) 1 (10 ∷ 0 ∷ []) refl refl

to_x₄ : successor A x₃ 2 ≡ x₄
unfolding computing
to_x₄ = successor_is A (ε ▸ 0 ▸ 1) (10 ∷ 0 ∷ []) 2 (10 ∷ 0 ∷ []) refl refl

pub delays_by : Advance A initial (delay 10) x₁
unfolding computing
delays_by = subst (λ (z : Config). Advance A initial (delay 10) z) to_x₁
    (delays A {x = initial} 10 0 (ready_at A accepted_a ε 0 refl) refl)

pub synchronizes_by : StepBy A 0 x₁ (message (A.key 0)) x₂
unfolding computing
synchronizes_by = subst (StepBy A 0 x₁ (message (A.key 0))) to_x₂
    (synchronizes A {x = x₁} 0 (ready_at A accepted_a ε 0 refl) refl refl)

two_advances : StepBy A 2 x₃ silent (successor A x₃ 2)
unfolding computing
two_advances = advances A {x = x₃} 2 (ready_at A accepted_a (ε ▸ 0 ▸ 1) 2 refl) refl refl

pub advances_by : StepBy A 2 x₃ silent x₄
advances_by = subst (StepBy A 2 x₃ silent) to_x₄ two_advances

pub terminates_by : StepBy A 2 (config_of (ε ▸ 0 ▸ 1) (11 ∷ 0 ∷ [])) silent initial
unfolding computing
terminates_by =
    terminates A {x = config_of (ε ▸ 0 ▸ 1) (11 ∷ 0 ∷ [])} 2 (ready_at A accepted_a (ε ▸ 0 ▸ 1) 2 refl) refl refl

pub run_goes : Prompt A initial w₂ x₂
unfolding computing
run_goes = subst (λ (z : Config). Prompt A initial w₂ z)
    (ap {B = Config} (λ (x : Config). successor A x 0) to_x₁ ∙ to_x₂)
    (goes_on A 10 0 begins (rests_at_lem A accepted_a ε refl) (ready_at A accepted_a ε 0 refl) refl refl)

run_goes_on : Prompt A initial w₃ x₃
unfolding computing
run_goes_on = subst (λ (z : Config). Prompt A initial w₃ z) to_x₃
    (goes_on A 10 1 run_goes (rests_at_lem A accepted_a (ε ▸ 0) refl) (ready_at A accepted_a (ε ▸ 0) 1 refl) refl refl)

pub run_settles : Prompt A initial (w₃ ▸ silent) x₄
unfolding computing
run_settles = subst (λ (z : Config). Prompt A initial (w₃ ▸ silent) z) to_x₄
    (settles run_goes_on 2 (next_at_lem A accepted_a (ε ▸ 0 ▸ 1) 2 refl) two_advances.0)

pub run_over : Over A initial (spelled 0 (logged (ε ▸ ask 10 ▸ pass 20))) x₄
unfolding computing
run_over = record {
  letters = w₃ ▸ silent;
  spells = refl;
  run = run_settles;
  rests = rests_at_lem A accepted_a (ε ▸ 0 ▸ 1 ▸ 2) refl;
}

pub turn_heard : (plain U 1 ≡ false)
    × TurnOf U (ε ▸ undo 100 ▸ references 120) (headings 141) 1 (config_of (ε ▸ 0 ▸ 2) (41 ∷ []))
unfolding computing accepts
turn_heard =
    let s : Snoc LogRecord = logged (ε ▸ undo 100 ▸ references 120) in
    let e : LogRecord = log_record (headings 141) in
    (refl, turn_at U accepted_u s e 1 1 (after U s).place (ε ▸ 0 ▸ 2) (41 ∷ []) refl refl refl refl refl)

pub turn_plain : (plain A 4 ≡ true)
    × TurnOf A (ε ▸ ask 10 ▸ pass 20) (answer 41) 4 (config_of (ε ▸ 0 ▸ 1 ▸ 2 ▸ 3) (31 ∷ 21 ∷ []))
unfolding computing accepts
turn_plain =
    let s : Snoc LogRecord = logged (ε ▸ ask 10 ▸ pass 20) in
    let e : LogRecord = log_record (answer 41) in (
      refl,
      turn_at A accepted_a s e 4 1 (after A (s ▸ e)).place (ε ▸ 0 ▸ 1 ▸ 2 ▸ 3)
          (31 ∷ 21 ∷ []) refl refl refl refl refl,
    )

pub passes_by : TakenBy 0 U (ε ▸ undo 100) (passed 110)
    (status_as (config_of (ε ▸ 0) (10 ∷ [])) 110 2 0 0 0 0 no_cause) quiet
unfolding computing accepts
passes_by = taken_at_lem U accepted_u undone (log_record (passed 110)) 0 (ε ▸ 0) (10 ∷ []) quiet refl refl refl refl refl

pub moves_by : TakenBy 1 U (ε ▸ undo 100) (references 120)
    (status_as (config_of (ε ▸ 0 ▸ 2) (20 ∷ [])) 120 2 0 0 0 0 no_cause) moved
unfolding computing accepts
moves_by =
    taken_at_lem U accepted_u undone (log_record (references 120)) 1 (ε ▸ 0 ▸ 2) (20 ∷ []) moved refl refl refl refl refl

pub enters_by : TakenBy 2 U ε (undo 100) (status_as (config_of (ε ▸ 0) (0 ∷ [])) 100 1 0 0 0 0 no_cause) entered
unfolding computing accepts
enters_by = taken_at_lem U accepted_u ε (log_record (undo 100)) 2 (ε ▸ 0) (0 ∷ []) entered refl refl refl refl refl

pub unmatched_in_prechart : TakenBy 6 U ε (headings 5) (status_as initial 5 1 0 1 0 0 no_cause) (dropped_now no_cause)
unfolding computing accepts
unmatched_in_prechart = taken_anew U accepted_u ε (log_record (headings 5)) 6 (dropped_now no_cause) refl refl refl refl

pub unmatched_in_main : TakenBy 7 U (ε ▸ undo 100) (undo 110)
    (status_as (config_of (ε ▸ 0) (10 ∷ [])) 110 2 0 0 2 no_ready_region no_cause) (broken_at 2 no_ready_region no_cause)
unfolding computing accepts
unmatched_in_main =
    taken_at_lem U accepted_u undone second 7 (ε ▸ 0) (10 ∷ []) (broken_at 2 no_ready_region no_cause) refl refl refl refl refl
