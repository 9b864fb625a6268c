-- `respond::report_log` meets its contract: the verdict, or the refusal with its offset. Assumes nothing.
use mathlib.Core.Path.{sym, ap, ap₂, ◌∙◌}
use Prim.Native.Nat.{ℕ}
use Rattle.listing.specs.declared.Part.TheVariants as part
use Rattle.listing.specs.Listing.{refused}
use Rattle.respond.proofs.Laws.{of_answer, log_refused}
use Rattle.respond.proofs.report_log.Goals as goal

pub returns-in-Ok : goal.returns-in-Ok
returns-in-Ok c = sym (ap (of_answer c.args.j.verdict) c.in-Ok.is)

pub returns-in-Err : goal.returns-in-Err
returns-in-Err c =
    let v = c.args.j.verdict in
    ap₂ (λ (n k : ℕ). refused part.Log n k) c.from.ensures c.offset.ensures
    ∙ sym (ap (of_answer v) c.in-Err.is ∙ log_refused v c.in-Err.refusal)
