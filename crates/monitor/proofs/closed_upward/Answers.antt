use mathlib.Core.Path.{◌≡◌, refl, ap}
use mathlib.Core.Bool.{Bool, true, false, not, ◌||◌}
use Prim.Native.Nat.{ℕ}
use native.Mathlib.Omega.{arith}
use lib.ListN.{get_or}
use Rattle.std.proofs.Common.{rules}
use borrow.Author.Tests.{tests}
use Rattle.std.specs.List.{range_with_len}
use Rattle.std.proofs.lemmas.Iterator.{cases_from_all, YieldsList-from_range}
use Rattle.std.proofs.lemmas.List.FromFn.{length-range_with_len, get_or-range_with_len}
use Rattle.bitset.specs.Set.{contains, is_subset}
use Rattle.monitor.proofs.Tests.{all_tested}
use Rattle.monitor.proofs.closed_upward.Goals as goal

pub returns : goal.returns
returns c =
    let a = c.args in
    let p : ℕ → Bool = λ i. not (contains a.fired i) || is_subset (get_or a.above.now i 0) a.fired in
    all_tested p (range_with_len 0 a.count) a.count p 0 _ (length-range_with_len 0 a.count)
    (λ i l. ap p (omega (arith, get_or-range_with_len 0 a.count i 0 l)))
    (cases_from_all _ _ _ (λ i. p i ≡ true) (λ i. p i ≡ false) c.all.ensures.ran
    (YieldsList-from_range 0 a.count a.count refl (omega arith)) (λ x q k. search (rules, tests)) (λ x q k. search (rules, tests)))
