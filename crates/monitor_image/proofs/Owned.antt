-- What owning a monitor gives: the ranges of its numbers, eight places for the reset moments. Assumes nothing.
use mathlib.Core.Path.{◌≡◌}
use mathlib.Core.List.{List}
use native.Mathlib.Omega.{arith}
use lib.ListN.{length}
use mir.Val.{Val}
use denote.Laws.{Is}
use denote.Struct.Declared.{row}
use Rattle.model.proofs.Owned.{each_at}
use Rattle.model.specs.contracts.Monitor as monitor
use Rattle.model.specs.contracts.Moment as moment
use Rattle.model.specs.declared.Moment.{Moment}
use Rattle.model.specs.declared.Monitor.{Monitor}
use Rattle.monitor_image.proofs.Laws.{Small}

pub owned : (m : Monitor) (vs : List Val) → Is (row monitor.the_type) m vs → Small m
owned m vs p =
    let place = p.1.1.0 in
    let r = place.1.1.1.0 in
    let tally = p.1.1.1.0 in
    let size : length m.place.resets ≡ 8 = r.1.0.1 in
    record {
      fired = place.1.1.0.1;
      places = size;
      moments =
          λ k h. (each_at Moment (moment.the_row).own_val m.place.resets r.0 k (record { 0 = 0 }) r.1.1
          (omega arith)).1.1.1.0.1;
      now = tally.1.1.0.1.1.0.1;
      records = tally.1.1.1.0.1;
      kept = tally.1.1.1.1.0.1;
      dropped = tally.1.1.1.1.1.0.1;
      break = tally.1.1.1.1.1.1.0.1.1.0.1;
    }
