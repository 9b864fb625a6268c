-- The numbers that a pace may have.
use Rattle.std.specs.Prelude.{ℕ, Bool, ◌&&◌, ◌||◌, ◌==◌}
use Rattle.log_reader.specs.Record.{message_tag, raw_message_tag}

-- those of a plain log, which counts from 0, or of a raw one
abbrev pub is_paced : ℕ → ℕ → ℕ → Bool
is_paced message origin most =
    (message == message_tag && (most == 0xFFFF_FFFF && origin == 0))
    || (message == raw_message_tag && most == 0x7FFF_FFFF)
