use Rattle.chart_value.proofs.Shown.{shown, codes_tell}
use Rattle.chart_value.proofs.Marks.{marks_apart}
use Rattle.chart_value.proofs.accepted_charts.Goals as goal

pub returns : goal.returns
returns c = record {
  shown = shown;
  codes = codes_tell;
  marks = marks_apart;
}
