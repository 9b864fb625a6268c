use mathlib.Core.Path.{◌≡◌, ap}
use mathlib.Core.Bool.{Bool, true, false, ◌&&◌, ◌||◌}
use Prim.Native.Nat.{ℕ}
use native.Mathlib.Omega.{arith}
use lib.Dec.{eqb, leb, ltb}
use lib.ListN.{length, get_or}
use Rattle.std.proofs.Common.{rules, zero-add, ◌∙◌}
use borrow.Author.Tests.{tests}
use Rattle.std.specs.List.{enumerate_from}
use Rattle.std.proofs.lemmas.Iterator.{cases_from_all, YieldsList-from_slice}
use Rattle.std.proofs.lemmas.Iterator.Consumers.{YieldsList-from_enumerate}
use Rattle.std.proofs.lemmas.List.FromFn.{length-enumerate_from, get_or-enumerate_from}
use Rattle.model.specs.declared.Moment.{Moment}
use Rattle.model.specs.Chart.{most_clocks}
use Rattle.monitor.specs.Fit.{moments_fit}
use Rattle.monitor.proofs.Tests.{all_tested}
use Rattle.monitor.proofs.moments_fit.Goals as goal

pub returns-clause-test : goal.returns-clause-test
unfolding moments_fit
returns-clause-test c =
    let a = c.args in
    let p : ℕ × Moment → Bool = λ x. leb x.1.0 a.now.0 && (ltb x.0 a.clocks || eqb x.1.0 0) in
    let z : ℕ × Moment = (0, record { 0 = 0 }) in
    let n : length a.resets ≡ most_clocks = omega arith in
    all_tested p (enumerate_from 0 a.resets) most_clocks _ z _ (length-enumerate_from 0 a.resets ∙ n)
    (λ i l. ap p (get_or-enumerate_from 0 a.resets i z (omega (arith, n, l)) ∙ ap (λ (k : ℕ). (k, get_or a.resets i z.1)) (zero-add i)))
    (cases_from_all _ _ _ (λ x. p x ≡ true) (λ x. p x ≡ false) c.all.ensures.ran
    (YieldsList-from_enumerate (YieldsList-from_slice a.resets cc) cc) (λ x q k. search (rules, tests)) (λ x q k. search (rules, tests)))
