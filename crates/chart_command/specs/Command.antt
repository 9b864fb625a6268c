-- B1: one command of a chart's bytes, and what its operands are.
use Rattle.std.specs.Prelude.{ℕ, ◌+◌, ◌-◌, cond, List, get_or, length, eqb, leb, Result, Ok, Err}
use Rattle.wire.specs.Bytes.{word16, word32}
use Rattle.chart_command.specs.Bytes.{heading_byte, message_byte, plain_byte, clock_term_byte, difference_term_byte}
use Rattle.chart_command.specs.Bytes.{hot_byte, rest_byte, resets_byte, main_byte, end_byte}
use Rattle.chart_command.specs.declared.Command.{Command}
use Rattle.chart_command.specs.declared.Command.TheVariants.{Heading, Message, Plain, ClockTerm, DifferenceTerm}
use Rattle.chart_command.specs.declared.Command.TheVariants.{Hot, Rest, Resets, Main, End}
use Rattle.chart_command.specs.declared.Decoded.{Decoded}
use Rattle.chart_command.specs.declared.Undecoded.{Undecoded}
use Rattle.chart_command.specs.declared.Undecoded.TheVariants.{CutShort, Unknown}

-- A command at `at` with n operand bytes, and the offset of the next one; or R4: 1, too few bytes are left
abbrev pub operands : List ℕ → ℕ → ℕ → Command → Result Decoded Undecoded
operands s at n c = cond (leb (length s - at) n) (Err CutShort) (Ok (record { command = c; next = at + 1 + n }))

-- B1: the byte picks the operands and their meaning; or R4: 2, none of the ten bytes
abbrev pub decode_byte : List ℕ → ℕ → ℕ → Result Decoded Undecoded
decode_byte s at b =
    cond (eqb b heading_byte) (operands s at 2 (Heading (get_or s (at + 1) 0) (get_or s (at + 2) 0)))
    (cond (eqb b message_byte) (operands s at 4 (Message (get_or s (at + 1) 0) (get_or s (at + 2) 0) (word16 s (at + 3))))
    (cond (eqb b plain_byte) (operands s at 2 (Plain (word16 s (at + 1))))
    (cond (eqb b clock_term_byte)
    (operands s at 6 (ClockTerm (get_or s (at + 1) 0) (get_or s (at + 2) 0) (word32 s (at + 3))))
    (cond (eqb b difference_term_byte)
    (operands s at 7 (DifferenceTerm (get_or s (at + 1) 0) (get_or s (at + 2) 0) (get_or s (at + 3) 0) (word32 s (at + 4))))
    (cond (eqb b hot_byte) (operands s at 0 Hot)
    (cond (eqb b rest_byte) (operands s at 0 Rest)
    (cond (eqb b resets_byte) (operands s at 1 (Resets (get_or s (at + 1) 0)))
    (cond (eqb b main_byte) (operands s at 0 Main)
    (cond (eqb b end_byte) (operands s at 0 End)
    (Err Unknown))))))))))

-- The command at an offset; or R4: 1, the bytes are used up
abbrev pub decode_at : List ℕ → ℕ → Result Decoded Undecoded
decode_at s at = cond (leb (length s) at) (Err CutShort) (decode_byte s at (get_or s at 0))
