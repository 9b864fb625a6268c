-- `chart_rewriter::rewrite` meets its contract: the chart's refusal, or what saving answers. Assumes nothing.
use mathlib.Core.Path.{refl}
use Rattle.chart_rewriter.proofs.Saving.{refused, accepted}
use Rattle.chart_rewriter.proofs.rewrite.Goals as goal

pub returns-in-Err : goal.returns-in-Err
returns-in-Err c =
    let a = c.args in
    let w = refused a.chart.now a.out.now c.read-read.result c.read-read.ensures.answer c.in-Err.fault
    c.in-Err.is c.from.ensures refl refl in record {
      number = w.number;
      listed = w.listed;
      at = w.place;
      bytes = w.bytes;
      again = w.again;
      unchanged = refl;
    }

pub returns-in-Ok : goal.returns-in-Ok
returns-in-Ok c =
    let a = c.args in
    let w = accepted a.chart.now a.out.now c.read-read.result c.read-read.ensures.answer
    c.in-Ok.is c.write-saved.ensures.reads _ c.write-saved.ensures.answer
    c.write-saved.ensures.buffer c.number.ensures c.size.ensures in record {
      number = w.number;
      listed = w.listed;
      at = w.place;
      bytes = w.bytes;
      again = w.again;
      unchanged = refl;
    }
