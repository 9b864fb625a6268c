-- The examples, by computation. Assumes nothing.
use mathlib.Core.Path.{refl}
use Rattle.bitset.specs.Set.{contains, single, inserted, union, is_subset, within}
use Rattle.order.specs.Order.{is_over, gathered, above_sets}
use Rattle.chart_reader.specs.Read.{read_chart, read_from, advance_of}
use Rattle.chart_value.specs.WellFormed.{is_zero_term, term_placed, terms_fit, region_fits, is_zero_region, touched_before}
use Rattle.chart_value.specs.WellFormed.{region_placed, well_formed}
use Rattle.rounds.specs.Chart.{condition_of}
use Rattle.rounds.specs.Rows.{chart_message, plain, values, opened}
use Rattle.rounds.specs.Machine.{ready, ready_for, ready_plain, fire, unfired, try_region, settle, take_message, opening}
use Rattle.rounds.specs.Machine.{full, prechart_done, go_on, keep_round, drop_round, break_round, conclude, offer, missed}
use Rattle.rounds.specs.Machine.{fits_opening, reopened, accept, feed, after}
use Rattle.log_clock.specs.Dated.{dated_at}
use Rattle.log_clock.specs.Records.{records_from, records_in}
use Rattle.log_check.specs.Check.{step_at, check_from, check_log}
use Rattle.resting.specs.Rest.{rests}
use Rattle.judge.specs.Judge.{judge_of}
use Rattle.verdict.specs.Verdict.{standing_of}
use Rattle.respond.specs.Respond.{parts_report}
use Rattle.examples.specs.Examples.{examples, AllSaid}

pub examples_said : AllSaid examples
unfolding contains single inserted union is_subset within is_over gathered above_sets read_chart read_from advance_of is_zero_term term_placed terms_fit region_fits is_zero_region touched_before region_placed well_formed condition_of chart_message plain values opened ready ready_for ready_plain fire unfired try_region settle take_message opening full prechart_done go_on keep_round drop_round break_round conclude offer missed fits_opening reopened accept feed after dated_at records_from records_in step_at check_from check_log rests standing_of judge_of parts_report
examples_said = (refl, (refl, (refl, (refl, (refl, (refl, (refl, (refl, (refl, (refl, (refl, (refl, tt))))))))))))
