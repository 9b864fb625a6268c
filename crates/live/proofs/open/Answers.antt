-- `live::open` meets its contract: the tests in their order, then the bytes of a fresh live monitor. Assumes nothing.
use Rattle.live.specs.Live.{head_size, largest}
use Rattle.live.specs.History.{opened}
use lib.ListN.{length}
use native.Mathlib.Omega.{arith}
use Prim.Native.Nat.{◌-◌, ◌≤◌}
use mathlib.Core.Path.{refl}
use Rattle.live.proofs.Opening.{size_sum, opened_refused, opened_short, opened_fresh}
use Rattle.live.proofs.open.Goals as goal

pub returns-in-Err : goal.returns-in-Err
returns-in-Err c = let a = c.args in
    let s = opened_refused a.chart.now a.live.now c.read-read.result
    c.read-read.ensures.answer c.in-Err.fault c.in-Err.is in record {
      answer = s.0;
      bytes = s.1;
      holds = tt;
      history = tt;
      unchanged = refl;
    }

pub returns-then-live-wanted : goal.returns-then-live-wanted
returns-then-live-wanted c = let a = c.args in
    let s = opened_short a.chart.now a.live.now c.read-read.result
    c.read-read.ensures.answer _ c.in_default.is
    c.size-wanted.ensures c.if-live-wanted.true in record {
      answer = s.0;
      bytes = s.1;
      holds = tt;
      history = tt;
      unchanged = refl;
    }

pub put_fresh-requires : goal.put_fresh-requires
put_fresh-requires c =
    let h : length
    c.args.chart.now ≤ largest - head_size =
    omega (arith, c.well_formed.0.1) in
    omega (arith, size_sum _ h, c.size-wanted.ensures, c.if-live-wanted.false)

pub returns : goal.returns
returns c = let a = c.args in
    let h : length a.chart.now ≤ largest - head_size = omega
    (arith, c.well_formed.0.1) in
    let s = opened_fresh a.chart.now a.live.now
    c.read-read.result
    c.read-read.ensures.answer _
    c.in_default.is
    c.size-wanted.ensures c.if-live-wanted.false h
    c.put_fresh.ensures in record {
      answer = s.0;
      bytes = s.1.0;
      holds = s.1.1;
      history = opened s.1.1;
      unchanged = refl;
    }
