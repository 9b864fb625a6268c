-- `lsc::lsc_judge` meets its contract: too few places, or the report's numbers. Assumes nothing.
use Rattle.lsc.specs.Lsc.{report_number, is_judged_number}
use Rattle.respond.specs.Respond.{parts_report}
use Rattle.lsc.proofs.Laws.{judged_short, judged_room, parts_listed}
use mathlib.Core.Path.{refl, ap, ◌∙◌}
use Rattle.lsc.proofs.lsc_judge.Goals as goal

pub returns-then-out-lt-PLACES : goal.returns-then-out-lt-PLACES
returns-then-out-lt-PLACES c = let a = c.args in
    let s = judged_short (parts_report a.chart.now a.log.now) a.out.now c.if-out-lt-PLACES.true in record {
      number = s.0;
      listed = refl;
      numbers = s.1;
      unchanged = (refl, refl);
    }

pub returns : goal.returns
returns c = let p = c.put_report in
    let a = c.args in
    let r = c.report_parts.ensures in
    let s = judged_room _ _ a.out.now p.new.out p.result
    c.if-out-lt-PLACES.false r p.ensures.number p.ensures.numbers in
    let n = ap is_judged_number (p.ensures.number ∙ ap report_number r) ∙ parts_listed a.chart.now a.log.now in record {
      number = s.0;
      listed = n;
      numbers = s.1;
      unchanged = (refl, refl);
    }
