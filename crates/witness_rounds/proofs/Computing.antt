-- One name for what the witnesses compute with: on an `unfolding` line it opens all that its own line names.
-- Assumes nothing.
use Rattle.bitset.specs.Set.{contains, single, inserted, union, is_subset, within}
use Rattle.order.specs.Order.{is_over, gathered, above_sets}
use Rattle.chart_reader.specs.Read.{read_chart, read_from, advance_of}
use Rattle.chart_value.specs.WellFormed.{is_zero_term, term_placed, terms_fit, region_fits, is_zero_region, touched_before}
use Rattle.chart_value.specs.WellFormed.{region_placed, well_formed}
use Rattle.rounds.specs.Chart.{condition_of}
use Rattle.rounds.specs.Rows.{moment_at, chart_message, chart_messages, plain, message_regions, moment_of, values, opened}
use Rattle.rounds.specs.Rows.{reset_moment, clock_test, holds_by, waived_by, first_failing_by}
use Rattle.rounds.specs.Feeds.{refusal}
use Rattle.rounds.specs.Machine.{ready, ready_for, ready_plain, fire, unfired, try_region, settle, take_message, opening}
use Rattle.rounds.specs.Machine.{full, prechart_done, go_on, keep_round, drop_round, break_round, conclude, offer, missed}
use Rattle.rounds.specs.Machine.{fits_opening, reopened, accept, feed, after}
use Rattle.rounds.proofs.Tested.{prompt_test, placed_test, row_test}
use Rattle.rounds.proofs.Rounds.{place_of}
use Rattle.paper.specs.Runs.{add, reset, shift, config_at}
use Rattle.paper.proofs.Offering.{unplaceable, case_for}
use Rattle.paper.proofs.Taking.{number}
use Rattle.log_clock.specs.Dated.{dated_at}
use Rattle.log_clock.specs.Records.{records_from, records_in}
use Rattle.log_check.specs.Check.{step_at, check_from, check_log}
use Rattle.resting.specs.Rest.{rests}
use Rattle.judge.specs.Judge.{judge_of}
use Rattle.verdict.specs.Verdict.{standing_of}

unfoldable pub computing : Unit {0}
unfolding contains single inserted union is_subset within is_over gathered above_sets read_chart read_from advance_of is_zero_term term_placed terms_fit region_fits is_zero_region touched_before region_placed well_formed condition_of moment_at chart_message chart_messages plain message_regions moment_of values opened reset_moment clock_test holds_by waived_by first_failing_by refusal ready ready_for ready_plain fire unfired try_region settle take_message opening full prechart_done go_on keep_round drop_round break_round conclude offer missed fits_opening reopened accept feed after prompt_test placed_test row_test place_of add reset shift config_at unplaceable case_for number dated_at records_from records_in step_at check_from check_log rests standing_of judge_of
computing = tt
