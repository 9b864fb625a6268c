use mathlib.Core.Path.{sym, ap, ◌∙◌}
use Prim.Native.Nat.{ℕ}
use Rattle.chart_reader.specs.Said as read
use Rattle.listing.specs.declared.Part.TheVariants as part
use Rattle.listing.specs.Listing.{refused}
use Rattle.respond.specs.Respond.{log_report, chart_report, parts_report}
use Rattle.respond.proofs.Laws.{of_read, chart_refused}
use Rattle.respond.proofs.report_parts.Goals as goal

pub returns-in-Err : goal.returns-in-Err
unfolding parts_report
returns-in-Err c =
    let r = c.read-read in
    let s = c.args.log.now in
    ap (λ (n : ℕ). refused part.Chart n c.in-Err.fault.offset) c.from.ensures
    ∙ sym (ap (of_read r.result.chart s) c.in-Err.is ∙ chart_refused r.result.chart s c.in-Err.fault)
    ∙ ap (λ (x : read.Said). chart_report x s) r.ensures.answer

pub returns-in-Ok : goal.returns-in-Ok
unfolding parts_report
returns-in-Ok c =
    let r = c.read-read in
    let s = c.args.log.now in
    c.report_log.ensures
    ∙ ap log_report c.judge.ensures.verdict
    ∙ sym (ap (of_read r.result.chart s) c.in-Ok.is)
    ∙ ap (λ (x : read.Said). chart_report x s) r.ensures.answer
