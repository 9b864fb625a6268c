-- The abstract chart of a plan.
use Rattle.rounds.specs.Chart.{Chart}
use Rattle.layout.specs.declared.compiled.Plan.{Plan}
use Rattle.layout.specs.View.{plan_chart}

-- the chart that the plan's numbers stand for
abbrev pub chart_of_plan : Plan → Chart
chart_of_plan p = plan_chart p.head p.keys p.above p.resets p.terms
