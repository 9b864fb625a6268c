-- The records of a log before its first fault, each with its moment.
use Rattle.std.specs.Prelude.{ℕ, zero, suc, List, length, Some, None, Ok, Err}
use Rattle.model.specs.declared.Moment.{Moment}
use Rattle.model.specs.declared.Record.{Record}
use Rattle.model.specs.Monitor.{time_of}
use Rattle.base.specs.Lists.{Snoc, ε, ◌▸◌}
use Rattle.log_clock.specs.declared.Kind.{Kind}
use Rattle.log_clock.specs.declared.Kind.TheVariants.{Unset}
use Rattle.log_clock.specs.Dated.{DatedRead, dated_at}
use Rattle.log_check.specs.Check.{CheckStep}
use Rattle.log_check.specs.Check.{Over, Going}
use Rattle.log_check.specs.Check.{take_record}

-- a record that the check takes is one more; at a fault those before it are all
abbrev pub on_taken : (ℕ → Kind → Moment → ℕ → Snoc Record) → Snoc Record → CheckStep → Snoc Record
on_taken go es (Over c) = es
on_taken go es (Going past k time n) = go past k time n

abbrev pub on_sound : (ℕ → Kind → Moment → ℕ → Snoc Record → Snoc Record) → Snoc Record → ℕ → Moment → ℕ → DatedRead
    → Snoc Record
on_sound go es at last n (Ok None) = es
on_sound go es at last n (Err f) = es
on_sound go es at last n (Ok (Some d)) =
    on_taken (λ p j t m. go p j t m (es ▸ d.item)) es (take_record d.kind (time_of d.item) d.past at last n)

-- those from an offset on, after the n records es of a kind, the last of them at the moment `last`; at most f
unfoldable pub sound_from : ℕ → List ℕ → ℕ → Kind → Moment → ℕ → Snoc Record → Snoc Record
sound_from zero s at k last n es = es
sound_from (suc f) s at k last n es = on_sound (sound_from f s) es at last n (dated_at s at k last)

unfoldable pub sound_records : List ℕ → Snoc Record
sound_records s = sound_from (length s) s 0 Unset (record { 0 = 0 }) 0 ε
