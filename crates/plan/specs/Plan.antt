-- What compiling a chart gives.
use Rattle.std.specs.Prelude.{◌≡◌}
use Rattle.model.specs.declared.Chart.{Chart}
use Rattle.chart_value.specs.View.{chart_of}
use Rattle.layout.specs.View.{Compiled}
use Rattle.layout.specs.declared.compiled.Plan.{Plan}
use Rattle.layout.specs.Plans.{chart_of_plan}

pub record Compiles (c : Chart) (p : Plan) : Type 0 where
  -- it shows the same abstract chart as the chart's value
  pub shows : chart_of_plan p ≡ chart_of c
  -- and it is as the steps require
  pub compiled : Compiled p.head p.keys p.above p.resets p.terms
