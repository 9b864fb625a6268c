-- `feed_log::finish` meets its contract: the monitor is written, or nothing was taken. Assumes nothing.
use mathlib.Core.Path.{refl}
use Rattle.feed_log.proofs.Parts.{wrote_after, stayed}
use Rattle.feed_log.proofs.finish.Goals as goal

pub returns-then-taken-ne0 : goal.returns-then-taken-ne0
returns-then-taken-ne0 c =
    record {
      said = refl;
      stop = c.stop_at-stop.ensures;
      bytes = wrote_after c.args.live.now c.args.r.monitor _ c.if-taken-ne0.true c.put_monitor.ensures.image c.requires.monitor_size_in_bounds;
    }

pub returns-else-taken-ne0 : goal.returns-else-taken-ne0
returns-else-taken-ne0 c =
    record {
      said = refl;
      stop = c.stop_at-stop.ensures;
      bytes = stayed c.args.live.now c.args.r.monitor _ c.if-taken-ne0.false;
    }
