-- The second demand, of every accepted chart: each part is proved in the file named. Assumes nothing.
use Rattle.rounds.specs.Chart.{Chart, Accepted}
use Rattle.rounds.proofs.Fitness.{feed_fit}
use Rattle.paper.specs.Demand2.{Demand2}
use Rattle.paper.proofs.Prompts.{prompt_run}
use Rattle.paper.proofs.Unique.{one_prompt}
use Rattle.paper.proofs.Words.{delay_shifts, no_delay, no_step, no_advancement, not_silent, no_message}
use Rattle.paper.proofs.Words.{no_synchronization, step_follows, hot_stays, holding_stays, main_in_cut}
use Rattle.paper.proofs.Satisfying.{satisfied_exactly, completed_whole, main_starts}
use Rattle.paper.proofs.Taking.{same_monitor, given, only, second_answered}
use Rattle.paper.proofs.Reading.{all_given, all_only, as_rows}
use Rattle.paper.proofs.Chains.{row_is_prompt, prompt_is_row}
use Rattle.paper.proofs.Wholes.{monitor_is_cut, round_is_prompt, kept_satisfies, entered_satisfies, decided}
use Rattle.paper.proofs.Wholes.{broken_violates, violated_exactly}

pub demand_2 : (C : Chart) → Accepted C → Demand2 C
demand_2 C A = record {
  given = given C A;
  stays_fit = λ m e P. feed_fit C A m e P.fit;
  only = only C A;
  second_offer = second_answered C A;
  faithful = same_monitor C;
  all_given = all_given C A;
  all_only = all_only C A;
  as_rows = as_rows C A;
  prompt_is_run = prompt_run C;
  satisfied_exactly = satisfied_exactly C A;
  one_prompt = one_prompt C A;
  main_starts = main_starts C;
  row_is_prompt = row_is_prompt C A;
  prompt_is_row = prompt_is_row C A;
  decided = λ M o s e h. decided C A (rw h at M.fed) e;
  stuck = record {
    unmatched = no_step C;
    failing_message = no_synchronization C A;
    failing_plain = no_advancement C;
    heard = not_silent C;
    no_message = no_message C;
    hot_stays = hot_stays C;
    holding_stays = holding_stays C;
    not_following = step_follows C;
    late = no_delay C;
    delay_is_wait = delay_shifts C;
  };
  monitor_is_cut = monitor_is_cut C A;
  main_in_cut = main_in_cut C A;
  round_is_prompt = λ M o s h. round_is_prompt C A (rw h at M.fed);
  entered_satisfies = λ M o s e h. entered_satisfies C A (rw h at M.fed) e;
  kept_satisfies = λ M o s e h. kept_satisfies C A (rw h at M.fed) e;
  completed_whole = completed_whole C;
  broken_violates = λ M o s e h. broken_violates C A (rw h at M.fed) e;
  violated_exactly = λ M o s e h. violated_exactly C A (rw h at M.fed) e;
}
