-- `lsc_test::lsc_test_breaks` meets its contract: the answer for the image's chart. Assumes nothing.
use mathlib.Core.Path.{refl, ap, ◌∙◌}
use Rattle.model.specs.declared.Chart.{Chart}
use Rattle.breaks.specs.Breaks.{breaks_of}
use Rattle.lsc_test.specs.Checks.{asked_code}
use Rattle.lsc_test.proofs.lsc_test_breaks.Goals as goal

pub returns : goal.returns
returns c =
    let a = c.args in record {
      number = c.asked_code.ensures
          ∙ ap asked_code c.breaks.ensures.answer
          ∙ ap (λ (x : Chart). asked_code (breaks_of x a.log.now)) c.chart_at.ensures.value;
      unchanged = (refl, refl);
    }
