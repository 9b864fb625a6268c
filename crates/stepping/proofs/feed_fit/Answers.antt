-- By the tests in their order. Assumes nothing.
use borrow.Author.Tests.{eq-eqb, ne_eqb, lt-ltb, le-ltb, le-leb, lt-leb}
use mathlib.Core.Path.{ap}
use Rattle.rounds.specs.Machine.{Step, feed}
use Rattle.stepping.proofs.Back.{taken_back}
use Rattle.stepping.proofs.feed_fit.Goals as goal

pub returns-then-broken-ne0-clause-step : goal.returns-then-broken-ne0-clause-step
unfolding feed
returns-then-broken-ne0-clause-step c = rw (ne_eqb _ _ c.if-broken-ne0.true)

pub returns-then-t-m-clause-step : goal.returns-then-t-m-clause-step
unfolding feed
returns-then-t-m-clause-step c = rw (eq-eqb _ _ c.if-broken-ne0.false, lt-ltb _ _ c.if-t-m.true)

pub returns-then-m-ge-MOST_RECORDS-clause-step : goal.returns-then-m-ge-MOST_RECORDS-clause-step
unfolding feed
returns-then-m-ge-MOST_RECORDS-clause-step c =
    rw (
      eq-eqb _ _ c.if-broken-ne0.false,
      le-ltb _ _ c.if-t-m.false,
      le-leb _ _ c.if-m-ge-MOST_RECORDS.true,
    )

pub returns-clause-step : goal.returns-clause-step
unfolding feed
returns-clause-step c =
    rw (
      eq-eqb _ _ c.if-broken-ne0.false,
      le-ltb _ _ c.if-t-m.false,
      lt-leb _ _ c.if-m-ge-MOST_RECORDS.false,
    )
    c.accept-taken.ensures

pub returns-clause-back : goal.returns-clause-back
returns-clause-back c =
    taken_back _ _ _ _ _ (ap (λ (s : Step). s.answer) c.accept-taken.ensures) c.if-broken-ne0.false
