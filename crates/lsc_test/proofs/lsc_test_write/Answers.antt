-- `lsc_test::lsc_test_write` meets its contract: what saving the chart in the image answers. Assumes nothing.
use mathlib.Core.Path.{refl, ap, ◌∙◌}
use Rattle.chart_writer.specs.Save.{saved_answer, saved_buffer, saved_number, saved_size}
use Rattle.lsc_test.proofs.lsc_test_write.Goals as goal

pub returns : goal.returns
returns c =
    let a = c.args in
    let e = c.chart_at.ensures.value in
    let w = c.write-saved.ensures.answer ∙ ap (λ x. saved_answer x a.out.now) e in record {
      number = c.number.ensures ∙ ap saved_number w;
      at = c.size.ensures ∙ ap saved_size w;
      bytes = c.write-saved.ensures.buffer ∙ ap (λ x. saved_buffer x a.out.now) e;
      unchanged = refl;
    }
