-- What is returned and written, by the tests in their order. Assumes nothing.
use mathlib.Core.Path.{◌≡◌, refl, sym, ap, ◌∙◌}
use mathlib.Core.Bool.{true}
use mathlib.Core.List.{List}
use Prim.Native.Nat.{ℕ, ◌≤◌, ◌<◌}
use borrow.Author.Tests.{lt-ltb, le-ltb, le-leb, ne_eqb}
use lib.ListN.{length}
use Rattle.wire.specs.Writing.{starting_with}
use Rattle.wire.proofs.Writing.{written}
use Rattle.model.specs.declared.Chart.{Chart}
use Rattle.model.specs.Answers.{too_short, zero_verdict}
use Rattle.model.specs.Numbers.{places}
use Rattle.chart_step.specs.Refusal.{refusal_number, most_refusal}
use Rattle.chart_step.proofs.Numbers.{refusal_nonzero, refusal_most}
use Rattle.chart_reader.specs.Said.{Said}
use Rattle.chart_value.specs.WellFormed.{well_formed}
use Rattle.log_reader.specs.declared.RecordRefusal.TheVariants.{CutShort, UnknownByte}
use Rattle.log_clock.specs.declared.MomentRefusal.TheVariants.{Mixed, Falls, TooLate}
use Rattle.log_check.specs.declared.LogRefusal.TheVariants.{NoRecord, NoMoment, TooManyRecords}
use Rattle.std.specs.Prelude.{Ok, Err}
use Rattle.log_check.specs.declared.LogRefusal.{LogRefusal}
use Rattle.log_check.specs.Refusal.{log_refusal_number, Checked}
use Rattle.log_check.specs.Check.{check_log}
use Rattle.judge.specs.Judge.{by_check, judge_of}
use Rattle.respond.specs.Respond.{log_report, chart_report, parts_report}
use Rattle.chart_reader.proofs.Ends.{Reads, accepts, refuses, reads}
use Rattle.chart_value.proofs.Exact.{accepted_whole}
use Rattle.listing.specs.Listing.{Report}
use Rattle.lsc.specs.Lsc.{report_numbers, report_number, judged_number, judged_out, is_judged_number}

pub judged_short : (r : Report) (out : List ℕ) → length out < places → (too_short ≡ judged_number r out)
    × (out ≡ judged_out r out)
judged_short r out h = let e = lt-ltb (length out) places h in (rw e, rw e)

pub judged_room : (q r : Report) (out m : List ℕ) (n : ℕ) → places ≤ length out → q ≡ r → n ≡ report_number q
    → m ≡ starting_with (report_numbers q) out
    → (n ≡ judged_number r out) × (m ≡ judged_out r out)
judged_room q r out m n h p a b =
    let e = le-ltb (length out) places h in
    (rw e (a ∙ ap report_number p), rw e (written report_numbers out (sym p) b))

-- a chart that was read is never refused with 20
refusal_listed : (log : List ℕ) (k : LogRefusal) (offset : ℕ) → is_judged_number (report_number
    (log_report (record { number = log_refusal_number k; offset = offset; verdict = zero_verdict }))) ≡ true
refusal_listed log (NoRecord CutShort) offset = refl
refusal_listed log (NoRecord UnknownByte) offset = refl
refusal_listed log (NoMoment Mixed) offset = refl
refusal_listed log (NoMoment Falls) offset = refl
refusal_listed log (NoMoment TooLate) offset = refl
refusal_listed log TooManyRecords offset = refl

log_listed : (c : Chart) (log : List ℕ) (k : Checked)
    → is_judged_number (report_number (log_report (by_check c log k))) ≡ true
log_listed c log (Ok n) = refl
log_listed c log (Err f) = refusal_listed log f.why f.at

chart_listed : (log : List ℕ) {x : Said} → Reads x → (x.number ≡ 0 → well_formed x.chart ≡ true)
    → is_judged_number (report_number (chart_report x log)) ≡ true
unfolding judge_of
chart_listed log (accepts c) w = rw (w refl) (log_listed c log (check_log log))
chart_listed log (refuses f offset) w =
    rw (ne_eqb (refusal_number f) 0 (refusal_nonzero f), le-leb (refusal_number f) most_refusal (refusal_most f)) refl

pub parts_listed : (chart log : List ℕ) → is_judged_number (report_number (parts_report chart log)) ≡ true
unfolding parts_report
parts_listed chart log = chart_listed log (reads chart) (accepted_whole chart)
