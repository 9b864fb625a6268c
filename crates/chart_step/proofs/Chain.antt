-- Checks that are tried one after the other. Assumes nothing.
use mathlib.Core.Path.{◌≡◌, refl}
use Rattle.std.proofs.Common.{Option, Some, None}
use Rattle.chart_step.specs.declared.Fault.{Fault}
use Rattle.chart_step.specs.Reading.{or_else}

pub or_assoc : (f g h : Option Fault) → or_else (or_else f g) h ≡ or_else f (or_else g h)
or_assoc None g h = refl
or_assoc (Some x) g h = refl
