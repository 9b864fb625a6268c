-- `claims::watch` meets its contract: by what reading the chart said. Assumes nothing.
use mathlib.Core.Path.{refl, sym, ap, ◌∙◌}
use Rattle.chart_reader.specs.Said.{Said, number_of}
use Rattle.chart_step.proofs.Numbers.{refusal_nonzero}
use Rattle.claims.proofs.Watching.{watched}
use Rattle.claims.proofs.watch.Goals as goal

pub returns-in-Ok : goal.returns-in-Ok
returns-in-Ok c =
    let x = c.read-read in record {
      watches = watched _ _ x.result _ x.ensures.answer refl
          (λ n. absurd
          (n (sym (ap (λ (s : Said). s.number) x.ensures.answer) ∙ ap number_of c.in-Ok.is)))
          (λ z. c.feed_all-monitor.ensures);
      unchanged = (refl, refl);
    }

pub returns-in-Err : goal.returns-in-Err
returns-in-Err c =
    let x = c.read-read in record {
      watches = watched _ _ x.result _ x.ensures.answer (sym c.in-Err.is)
          (λ n. c.new-made.ensures.monitor)
          (λ z. absurd
          (refusal_nonzero c.in-Err.fault.refusal (sym (ap number_of c.in-Err.is) ∙ z)));
      unchanged = (refl, refl);
    }
