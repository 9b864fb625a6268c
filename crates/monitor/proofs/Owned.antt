-- What owning a monitor gives: 32 bits for the fired regions, eight places for the reset moments. Assumes nothing.
use mathlib.Core.List.{List}
use mir.Val.{Val}
use denote.Laws.{Is}
use denote.Struct.Declared.{row}
use Rattle.model.specs.contracts.Monitor as monitor
use Rattle.model.specs.declared.Monitor.{Monitor}
use Rattle.stepping.specs.contracts.Step as step
use Rattle.stepping.specs.declared.Step.{Step}
use Rattle.monitor.specs.Stored.{Stored}

pub owned_monitor : (m : Monitor) (vs : List Val) → Is (row monitor.the_type) m vs → Stored m
owned_monitor m vs p =
    let place = p.1.1.0 in
    record { bits = place.1.1.0.1; places = place.1.1.1.0.1.0.1 }

-- and a step, with its monitor
pub owned_step : (r : Step) (vs : List Val) → Is (row step.the_type) r vs → Stored r.next
owned_step r vs p = owned_monitor r.next _ p.1.1.1.0
