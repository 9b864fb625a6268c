-- `lsc_test::lsc_test_new` meets its contract: too few bytes, or a monitor of zeros. Assumes nothing.
use Rattle.lsc_test.proofs.Laws.{new_short, new_made}
use mathlib.Core.Path.{refl}
use Rattle.lsc_test.proofs.lsc_test_new.Goals as goal

pub returns-then-monitor-lt-MONITOR_SIZE : goal.returns-then-monitor-lt-MONITOR_SIZE
returns-then-monitor-lt-MONITOR_SIZE c = let s = new_short _ _ c.if-monitor-lt-MONITOR_SIZE.true in record {
  number = s.0;
  bytes = s.1;
  unchanged = refl;
}

pub returns : goal.returns
returns c = let a = c.args in
    let s = new_made a.chart.now a.monitor.now _ c.new-made.result _ c.if-monitor-lt-MONITOR_SIZE.false
    c.chart_at.ensures.value
    c.new-made.ensures c.made_number.ensures c.put_monitor.ensures.image in record {
      number = s.0;
      bytes = s.1;
      unchanged = refl;
    }
