-- The lines, by computation; inputs of any length by the laws of the tests. Assumes nothing.
use mathlib.Core.Path.{◌≡◌, refl}
use mathlib.Core.Bool.{true, false, So}
use mathlib.Core.List.{List, ◌∷◌}
use Prim.Native.Nat.{ℕ, ◌<◌}
use borrow.Author.Tests.{lt-ltb, ltb-true}
use lib.Dec.{ltb}
use lib.ListN.{length, get_or}
use Rattle.base.specs.Lists.{all_below}
use Rattle.base.proofs.Facts.{all_at}
use Rattle.model.specs.declared.Chart.{Chart}
use Rattle.bitset.specs.Set.{contains, single, inserted, union, is_subset, within}
use Rattle.order.specs.Order.{is_over, gathered, above_sets}
use Rattle.chart_reader.specs.Read.{read_chart, read_from, advance_of}
use Rattle.chart_reader.specs.Said.{accepted_as}
use Rattle.chart_value.specs.WellFormed.{is_zero_term, term_placed, terms_fit, region_fits, is_zero_region, touched_before}
use Rattle.chart_value.specs.WellFormed.{region_placed, well_formed}
use Rattle.chart_value.specs.Given.{Given}
use Rattle.chart_value.specs.Marks.{unmarked}
use Rattle.chart_value.proofs.Marks.{marks_apart as marks}
use Rattle.chart_value.specs.Writer.{terms_bytes, region_bytes, regions_bytes, chart_bytes}
use Rattle.rounds.specs.Chart.{condition_of}
use Rattle.rounds.specs.Rows.{chart_message, plain, values, opened}
use Rattle.rounds.specs.Machine.{ready, ready_for, ready_plain, fire, unfired, try_region, settle, take_message, opening}
use Rattle.rounds.specs.Machine.{full, prechart_done, go_on, keep_round, drop_round, break_round, conclude, offer, missed}
use Rattle.rounds.specs.Machine.{fits_opening, reopened, accept, feed, after}
use Rattle.monitor.specs.Fit.{closed_upward, rests_unless_broken, moments_fit, cause_fits, break_fits, counts_fit, place_fits}
use Rattle.monitor.specs.Fit.{fits}
use Rattle.monitor.specs.Feed.{feed_of}
use Rattle.log_clock.specs.Dated.{dated_at}
use Rattle.log_clock.specs.Records.{records_from, records_in}
use Rattle.log_check.specs.Check.{step_at, check_from, check_log}
use Rattle.log_check.specs.Sound.{sound_from, sound_records}
use Rattle.resting.specs.Rest.{rests}
use Rattle.judge.specs.Judge.{judge_of}
use Rattle.verdict.specs.Verdict.{standing_of}
use Rattle.breaks.specs.Breaks.{breaks_of}
use Rattle.preview.specs.Preview.{preview_bytes, preview_of, buffer_of}
use Rattle.text.specs.Text.{bytes_of, digits_of}
use Rattle.listing.specs.Listing.{verdict_lines, refusal_line}
use Rattle.respond.specs.Respond.{parts_report, report_of, text_of}
use Rattle.examples.specs.Examples.{Says}
use Rattle.witnesses.specs.Hex.{hex}
use Rattle.witnesses.specs.Each.{Each}
use Rattle.witnesses.specs.Charts.{refusals, limits}
use Rattle.witnesses.specs.Rounds.{conditions, clocks, causes, orders, logs}
use Rattle.witnesses.specs.Feeds.{Answers, feeds, fitness, Stores, breaks}
use Rattle.witnesses.specs.Offers.{offers, offered, counts, Leads, leads}
use Rattle.witnesses.specs.Raw.{Reads, readings, raws}
use Rattle.witnesses.specs.Asked.{Asks, asks}
use Rattle.witnesses.specs.Foreseen.{Previews, previews}
use Rattle.witnesses.specs.Rested.{misplaced, stands, value_of, Marks, Sets, Apart}
use Rattle.witnesses.specs.Saved.{Saves, saves, LongestSaved}
use Rattle.witnesses.specs.Formats.{Prints, texts, Checks, checks, LogNumbers, Formats}

-- every definition that the lines look into
computed : Unit {0}
unfolding contains single inserted union is_subset within is_over gathered above_sets read_chart read_from advance_of is_zero_term term_placed terms_fit region_fits is_zero_region touched_before region_placed well_formed condition_of chart_message plain values opened ready ready_for ready_plain fire unfired try_region settle take_message opening full prechart_done go_on keep_round drop_round break_round conclude offer missed fits_opening reopened accept feed after closed_upward rests_unless_broken moments_fit cause_fits break_fits counts_fit place_fits fits feed_of dated_at records_from records_in step_at check_from check_log sound_from sound_records rests unmarked standing_of judge_of breaks_of preview_bytes preview_of buffer_of terms_bytes region_bytes regions_bytes chart_bytes bytes_of digits_of verdict_lines refusal_line parts_report report_of
computed = tt

refusals_said : Each Says refusals
unfolding computed
refusals_said = (
  refl,
  (
    refl,
    (
      refl,
      (
        refl,
        (
          refl,
          (
            refl,
            (
              refl,
              (
                refl,
                (
                  refl,
                  (
                    refl,
                    (
                      refl,
                      (
                        refl,
                        (
                          refl,
                          (
                            refl,
                            (
                              refl,
                              (
                                refl,
                                (
                                  refl,
                                  (
                                    refl,
                                    (
                                      refl,
                                      (
                                        refl,
                                        (
                                          refl,
                                          (
                                            refl,
                                            (refl, (refl, (refl, (refl, (refl, (refl, (refl, (refl, (refl, (refl, (refl, tt))))))))))),
                                          ),
                                        ),
                                      ),
                                    ),
                                  ),
                                ),
                              ),
                            ),
                          ),
                        ),
                      ),
                    ),
                  ),
                ),
              ),
            ),
          ),
        ),
      ),
    ),
  ),
)

limits_said : Each Says limits
unfolding computed
limits_said = (refl, (refl, (refl, (refl, (refl, (refl, (refl, (refl, (refl, tt)))))))))

conditions_said : Each Says conditions
unfolding computed
conditions_said = (
  refl,
  (
    refl,
    (
      refl,
      (
        refl,
        (
          refl,
          (
            refl,
            (
              refl,
              (
                refl,
                (
                  refl,
                  (
                    refl,
                    (
                      refl,
                      (
                        refl,
                        (
                          refl,
                          (
                            refl,
                            (
                              refl,
                              (
                                refl,
                                (
                                  refl,
                                  (
                                    refl,
                                    (
                                      refl,
                                      (
                                        refl,
                                        (
                                          refl,
                                          (
                                            refl,
                                            (
                                              refl,
                                              (
                                                refl,
                                                (refl, (refl, (refl, (refl, (refl, (refl, (refl, (refl, (refl, (refl, (refl, (refl, (refl, (refl, (refl, (refl, (refl, tt))))))))))))))))),
                                              ),
                                            ),
                                          ),
                                        ),
                                      ),
                                    ),
                                  ),
                                ),
                              ),
                            ),
                          ),
                        ),
                      ),
                    ),
                  ),
                ),
              ),
            ),
          ),
        ),
      ),
    ),
  ),
)

clocks_said : Each Says clocks
unfolding computed
clocks_said = (refl, (refl, (refl, (refl, (refl, (refl, (refl, (refl, (refl, (refl, tt))))))))))

causes_said : Each Says causes
unfolding computed
causes_said = (refl, (refl, (refl, (refl, (refl, (refl, (refl, (refl, (refl, tt)))))))))

orders_said : Each Says orders
unfolding computed
orders_said = (refl, (refl, (refl, (refl, (refl, (refl, (refl, (refl, tt))))))))

logs_said : Each Says logs
unfolding computed
logs_said =
    (refl, (refl, (refl, (refl, (refl, (refl, (refl, (refl, (refl, (refl, (refl, (refl, (refl, (refl, (refl, tt)))))))))))))))

feeds_answered : Each Answers feeds
unfolding computed
feeds_answered = ((refl, refl), ((refl, refl), ((refl, refl), ((refl, refl), ((refl, refl), ((refl, refl), ((refl, refl), ((refl, refl), ((refl, refl), ((refl, refl), ((refl, refl), ((refl, refl), ((refl, refl), ((refl, refl), ((refl, refl), ((refl, refl), ((refl, refl), ((refl, refl), ((refl, refl), ((refl, refl), ((refl, refl), ((refl, refl), ((refl, refl), ((refl, refl), ((refl, refl), ((refl, refl), ((refl, refl), ((refl, refl), ((refl, refl), ((refl, refl), tt))))))))))))))))))))))))))))))

fitness_answered : Each Answers fitness
unfolding computed
fitness_answered = ((refl, refl), ((refl, refl), ((refl, refl), ((refl, refl), ((refl, refl), ((refl, refl), ((refl, refl), ((refl, refl), ((refl, refl), ((refl, refl), ((refl, refl), ((refl, refl), ((refl, refl), ((refl, refl), ((refl, refl), ((refl, refl), ((refl, refl), ((refl, refl), tt))))))))))))))))))

breaks_stored : Each Stores breaks
unfolding computed
breaks_stored = (refl, (refl, (refl, (refl, (refl, tt)))))

offers_said : Each Says offers
unfolding computed
offers_said = (refl, (refl, (refl, (refl, (refl, (refl, (refl, (refl, (refl, (refl, tt))))))))))

offers_answered : Each Answers offered
unfolding computed
offers_answered = ((refl, refl), ((refl, refl), ((refl, refl), ((refl, refl), ((refl, refl), ((refl, refl), tt))))))

counts_answered : Each Answers counts
unfolding computed
counts_answered = ((refl, refl), ((refl, refl), ((refl, refl), ((refl, refl), ((refl, refl), ((refl, refl), ((refl, refl), ((refl, refl), ((refl, refl), ((refl, refl), tt))))))))))

offers_lead : Each Leads leads
unfolding computed
offers_lead = ((refl, refl, refl), ((refl, refl, refl), ((refl, refl, refl), ((refl, refl, refl), ((refl, refl, refl), ((refl, refl, refl), tt))))))

texts_printed : Each Prints texts
unfolding computed
texts_printed = (refl, (refl, (refl, (refl, (refl, (refl, (refl, (refl, (refl, (refl, (refl, (refl, tt))))))))))))

input_40 : (s : List ℕ) → 65536 < length s → text_of s ≡ bytes_of "refused input 40 at 0\n"
unfolding computed
input_40 s h = rw (lt-ltb 65536 (length s) h) refl

input_41 : (s : List ℕ) → length s ≡ 65534 → text_of (0xff ∷ 0xff ∷ s) ≡ bytes_of "refused input 41 at 0\n"
unfolding computed
input_41 s h = rw h refl

raws_said : Each Says raws
unfolding computed
raws_said =
    (refl, (refl, (refl, (refl, (refl, (refl, (refl, (refl, (refl, (refl, (refl, (refl, (refl, (refl, (refl, (refl, (refl, (refl, (refl, (refl, (refl, (refl, (refl, (refl, (refl, (refl, (refl, tt)))))))))))))))))))))))))))

records_read : Each Reads readings
records_read =
    (refl, (refl, (refl, (refl, (refl, (refl, (refl, (refl, (refl, (refl, (refl, (refl, (refl, (refl, (refl, (refl, (refl, (refl, (refl, (refl, tt))))))))))))))))))))

records_checked : Each Checks checks
unfolding computed
records_checked = (refl, (refl, (refl, (refl, (refl, (refl, (refl, (refl, (refl, (refl, (refl, (refl, tt))))))))))))

log_numbers_case : LogNumbers
log_numbers_case = record { most = refl; too_many = refl; mixed = refl; falls = refl; too_late_case = refl }

breaks_asked : Each Asks asks
unfolding computed
breaks_asked = (refl, (refl, (refl, (refl, (refl, (refl, (refl, (refl, (refl, (refl, (refl, (refl, (refl, (refl, (refl, (refl, (refl, (refl, (refl, (refl, (refl, (refl, (refl, (refl, (refl, (refl, (refl, (refl, (refl, (refl, (refl, (refl, (refl, (refl, (refl, tt)))))))))))))))))))))))))))))))))))

previews_shown : Each Previews previews
unfolding computed
previews_shown = ((refl, refl), ((refl, refl), ((refl, refl), ((refl, refl), ((refl, refl), ((refl, refl), ((refl, refl), ((refl, refl), ((refl, refl), ((refl, refl), ((refl, refl), ((refl, refl), ((refl, refl), ((refl, refl), ((refl, refl), ((refl, refl), ((refl, refl), ((refl, refl), ((refl, refl), ((refl, refl), ((refl, refl), ((refl, refl), ((refl, refl), ((refl, refl), ((refl, refl), ((refl, refl), ((refl, refl), ((refl, refl), ((refl, refl), ((refl, refl), ((refl, refl), ((refl, refl), ((refl, refl), ((refl, refl), ((refl, refl), ((refl, refl), ((refl, refl), ((refl, refl), ((refl, refl), ((refl, refl), tt))))))))))))))))))))))))))))))))))))))))

marks_placed : Each Says misplaced
unfolding computed
marks_placed =
    (refl, (refl, (refl, (refl, (refl, (refl, (refl, (refl, (refl, (refl, (refl, (refl, (refl, (refl, tt))))))))))))))

rests_said : Each Says stands
unfolding computed
rests_said =
    (refl, (refl, (refl, (refl, (refl, (refl, (refl, (refl, (refl, (refl, (refl, (refl, (refl, (refl, (refl, (refl, (refl, (refl, (refl, (refl, (refl, (refl, (refl, (refl, (refl, (refl, tt))))))))))))))))))))))))))

marks_tested : Marks
unfolding computed
marks_tested = record { none = refl; main = refl; prechart = refl; spare_place = refl }

rests_tested : Sets
unfolding computed
rests_tested = record {
  empty = refl;
  first = refl;
  second = refl;
  third = refl;
  second_third = refl;
  fourth = refl;
  all_but_third = refl;
  all = refl;
}

-- bytes that are read as a chart
given : (s : List ℕ) (c : Chart) → So (all_below (length s) (λ i. ltb (get_or s i 0) 256)) → read_chart s ≡ accepted_as c
    → Given c
given s c h e =
    record { bytes = s; small = λ i l. ltb-true _ _ (all_at (length s) _ h i l); accepted = e }

marks_apart : Apart
unfolding computed
marks_apart = record {
  with_mark = given (hex "10 02 00 20 00 01 00 01 50 20 00 01 00 01 33 20 00 01 00 01 7F") _ refl refl;
  without = given (hex "10 02 00 20 00 01 00 01 50 20 00 01 00 01 20 00 01 00 01 7F") _ refl refl;
  alike = marks.without (value_of false true false);
  rests_by_it = refl;
  owes_without = refl;
}

charts_saved : Each Saves saves
unfolding computed
charts_saved = ((refl, refl, refl), ((refl, refl, refl), ((refl, refl, refl), ((refl, refl, refl), ((refl, refl, refl), ((refl, refl, refl), ((refl, refl, refl), ((refl, refl, refl), ((refl, refl, refl), ((refl, refl, refl), ((refl, refl, refl), ((refl, refl, refl), ((refl, refl, refl), ((refl, refl, refl), ((refl, refl, refl), ((refl, refl, refl), ((refl, refl, refl), ((refl, refl, refl), ((refl, refl, refl), ((refl, refl, refl), ((refl, refl, refl), ((refl, refl, refl), ((refl, refl, refl), tt)))))))))))))))))))))))

longest_saved : LongestSaved
unfolding computed
longest_saved = (refl, refl)

pub formats_hold : Formats
formats_hold =
    record {
      refusals_said = refusals_said;
      limits_said = limits_said;
      conditions_said = conditions_said;
      clocks_said = clocks_said;
      causes_said = causes_said;
      orders_said = orders_said;
      logs_said = logs_said;
      feeds_answered = feeds_answered;
      fitness_answered = fitness_answered;
      breaks_stored = breaks_stored;
      offers_said = offers_said;
      offers_answered = offers_answered;
      counts_answered = counts_answered;
      offers_lead = offers_lead;
      texts_printed = texts_printed;
      raws_said = raws_said;
      records_read = records_read;
      records_checked = records_checked;
      breaks_asked = breaks_asked;
      previews_shown = previews_shown;
      marks_placed = marks_placed;
      rests_said = rests_said;
      marks_tested = marks_tested;
      rests_tested = rests_tested;
      marks_apart = marks_apart;
      charts_saved = charts_saved;
      longest_saved = longest_saved;
      log_numbers_case = log_numbers_case;
      input_40 = input_40;
      input_41 = input_41;
    }
