-- `witness_rounds::rounds` carries the page. Assumes nothing.
use Rattle.paper.specs.Runs.{begins}
use Rattle.witness_rounds.proofs.Logs.{round_u_shown, kept_a_shown, dropped_a_shown, broken_a_shown, kept_b_shown, dropped_b_shown, broken_b_shown}
use Rattle.witness_rounds.proofs.Ways.{unplaced_in_prechart, unplaced_in_main, row_entered, row_moved, row_quiet}
use Rattle.witness_rounds.proofs.Ways.{five_fed, delays_by, synchronizes_by, advances_by, terminates_by}
use Rattle.witness_rounds.proofs.Ways.{run_goes, run_settles, run_over, turn_heard, turn_plain, passes_by}
use Rattle.witness_rounds.proofs.Ways.{moves_by, enters_by, unmatched_in_prechart, unmatched_in_main}
use Rattle.witness_rounds.proofs.Ways.{nothing_fired_case, prechart_done_case}
use Rattle.witness_rounds.proofs.Shared.{shared_fed, dropped_twice, shared_judged, twice_judged, missed_starts}
use Rattle.witness_rounds.proofs.Shared.{missed_fails, missed_ends, condition_failed, twice_moves}
use Rattle.witness_rounds.proofs.Shared.{twice_fails, unmatched_once}
use Rattle.witness_rounds.proofs.rounds.Goals as goal

pub returns : goal.returns
returns c = record {
  round_u_shown = round_u_shown;
  kept_a_shown = kept_a_shown;
  dropped_a_shown = dropped_a_shown;
  broken_a_shown = broken_a_shown;
  kept_b_shown = kept_b_shown;
  dropped_b_shown = dropped_b_shown;
  broken_b_shown = broken_b_shown;
  unplaced_in_prechart = unplaced_in_prechart;
  unplaced_in_main = unplaced_in_main;
  row_entered = row_entered;
  row_moved = row_moved;
  row_quiet = row_quiet;
  five_fed = five_fed;
  shared_fed = shared_fed;
  dropped_twice = dropped_twice;
  shared_judged = shared_judged;
  twice_judged = twice_judged;
  missed_starts = missed_starts;
  missed_fails = missed_fails;
  missed_ends = missed_ends;
  nothing_fired_case = nothing_fired_case;
  condition_failed = condition_failed;
  prechart_done_case = prechart_done_case;
  delays_by = delays_by;
  synchronizes_by = synchronizes_by;
  advances_by = advances_by;
  terminates_by = terminates_by;
  run_begins = begins;
  run_goes = run_goes;
  run_settles = run_settles;
  run_over = run_over;
  turn_heard = turn_heard;
  turn_plain = turn_plain;
  passes_by = passes_by;
  moves_by = moves_by;
  enters_by = enters_by;
  unmatched_in_prechart = unmatched_in_prechart;
  unmatched_in_main = unmatched_in_main;
  twice_moves = twice_moves;
  twice_fails = twice_fails;
  unmatched_once = unmatched_once;
}
