-- `monitor_image::put_monitor` meets its contract: the image is read as the monitor. Assumes nothing.
use mathlib.Core.Path.{◌∙◌}
use Rattle.wire.proofs.Writing.{spelled}
use Rattle.monitor_image.proofs.Laws.{monitor_back}
use Rattle.monitor_image.proofs.Owned.{owned}
use Rattle.monitor_image.proofs.put_monitor.Goals as goal

pub returns-clause-back : goal.returns-clause-back
returns-clause-back c =
    monitor_back c.args.m
    (spelled (c.as_slice.ensures.value ∙ c.image_of-image.ensures.items) c.put_bytes.ensures)
    c.requires
    (owned c.args.m _ c.well_formed.1.0)
