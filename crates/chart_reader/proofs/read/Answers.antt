-- Reading on from the offset gives what reading the whole gives. Assumes nothing.
use mathlib.Core.Path.{◌≡◌, refl, ◌∙◌}
use Prim.Native.Nat.{◌+◌, ◌-◌}
use native.Mathlib.Omega.{arith}
use lib.ListN.{length}
use Rattle.chart_reader.specs.Read.{read_from, read_chart}
use Rattle.chart_reader.specs.Said.{said}
use Rattle.chart_reader.proofs.Laws.{goes_on, ends, refuses}
use Rattle.chart_reader.proofs.Count.{any_count}
use Rattle.chart_reader.proofs.read.Goals as goal

pub loop-init : goal.loop-init
unfolding read_chart
loop-init c =
    let s = c.args.bytes.now in
    let n : length s + 1 - 0 ≡ length s + 1 = omega arith in
    (λ i. read_from (n i) s 0 (c.start-r.ensures i))

pub loop-preserved : goal.loop-preserved
loop-preserved c =
    goes_on _ _ _ _ _ _ c.loop-test.true c.advance.ensures _ _ c.in-Ok.is c.in-Some.is ∙ c.loop.invariant

pub returns-in-None : goal.returns-in-None
returns-in-None c =
    let e : said c.accepted.result ≡ read_chart c.args.bytes.now =
    c.accepted.ensures ∙ ends _ _ _ _ _ _ c.loop-test.true c.advance.ensures _ c.in-Ok.is c.in-None.is
    ∙ c.loop.invariant in
    record { answer = e; count = any_count _ _ e; unchanged = refl }

pub returns-in-Err : goal.returns-in-Err
returns-in-Err c =
    let e : said c.refused.result ≡ read_chart c.args.bytes.now =
    c.refused.ensures ∙ refuses _ _ _ _ _ _ c.loop-test.true c.advance.ensures _ c.in-Err.is ∙ c.loop.invariant in
    record { answer = e; count = any_count _ _ e; unchanged = refl }

pub returns : goal.returns
unfolding read_from
returns c =
    let z : length c.args.bytes.now + 1 - c.loop.counter ≡ 0 = omega arith in
    let e : said c.refused-2.result ≡ read_chart c.args.bytes.now =
    c.refused-2.ensures ∙ (rw z at c.loop.invariant) in
    record { answer = e; count = any_count _ _ e; unchanged = refl }
