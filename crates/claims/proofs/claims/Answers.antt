-- Each claim, by the work that proves it; the examples by computation. Assumes nothing.
use mathlib.Core.Path.{refl}
use Rattle.condition.proofs.Failing.{tells}
use Rattle.condition.proofs.Table.{table_rule}
use Rattle.chart_value.specs.View.{region_of}
use Rattle.chart_value.proofs.Shown.{shown, codes_tell}
use Rattle.chart_value.proofs.Marks.{marks_apart}
use Rattle.chart_value.proofs.Guards.{never_fire}
use Rattle.monitor.proofs.History.{view_tells}
use Rattle.log_clock.proofs.Times.{true_times}
use Rattle.claims.proofs.Answers.{answers_tell}
use Rattle.examples.proofs.Examples.{examples_said}
use Rattle.claims.proofs.Watching.{demands_read, judged_walk}
use Rattle.claims.proofs.Standing.{standing_row, standing_after_break}
use Rattle.log_claims.proofs.Logs.{walk_records, true_walk}
use Rattle.chart_faults.proofs.Reading.{faults}
use Rattle.claims.proofs.claims.Goals as goal

pub returns : goal.returns
returns c =
    record {
      answers_tell = answers_tell;
      faults = faults;
      shown = shown;
      marks_apart = marks_apart;
      codes_tell = codes_tell;
      relations = table_rule;
      which_term = λ c i value k. tells (region_of c i) value k;
      guards = never_fire;
      demands = demands_read;
      judged = judged_walk;
      stands = λ c g. standing_row c (shown c g).accepted;
      stands_broken = λ c g. standing_after_break c (shown c g).accepted;
      walked = walk_records;
      true_times = true_times;
      true_walk = true_walk;
      views = λ m. record {
        fired = λ i. refl;
        clocks = λ k. refl;
        now = refl;
        records = refl;
        kept = refl;
        dropped = refl;
        break = refl;
        reason = refl;
        cause = refl;
      };
      steps = λ r. (refl, refl);
      view_tells = view_tells;
      examples_said = examples_said;
    }
