use Rattle.chart_step.proofs.Chain.{or_assoc}
use Rattle.chart_step.proofs.fault_of.Goals as goal

pub returns : goal.returns
returns c =
    rw (
      c.or-8.ensures,
      c.or-7.ensures,
      c.or-6.ensures,
      c.or-5.ensures,
      c.or-4.ensures,
      c.or-3.ensures,
      c.or-2.ensures,
      c.or.ensures,
      c.when.ensures,
      c.when-2.ensures,
      c.when-3.ensures,
      c.when-4.ensures,
      c.when-5.ensures,
      c.when-6.ensures,
      c.when-7.ensures,
      c.when-8.ensures,
      c.is_misplaced.ensures,
      c.closes.ensures,
      c.is_outside.ensures,
      c.is_excess.ensures,
      c.is_early.ensures,
      c.is_resting.ensures,
      c.is_unanchored.ensures,
      c.is_mainless.ensures,
      c.is_trailing.ensures,
    )
    (simp or_assoc)
