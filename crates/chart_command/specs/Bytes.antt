-- B1: the bytes of the ten commands.
use Rattle.std.specs.Prelude.{ℕ}

abbrev pub heading_byte : ℕ
heading_byte = 0x10

abbrev pub message_byte : ℕ
message_byte = 0x20

abbrev pub plain_byte : ℕ
plain_byte = 0x21

abbrev pub clock_term_byte : ℕ
clock_term_byte = 0x30

abbrev pub difference_term_byte : ℕ
difference_term_byte = 0x31

abbrev pub hot_byte : ℕ
hot_byte = 0x32

abbrev pub rest_byte : ℕ
rest_byte = 0x33

abbrev pub resets_byte : ℕ
resets_byte = 0x40

abbrev pub main_byte : ℕ
main_byte = 0x50

abbrev pub end_byte : ℕ
end_byte = 0x7f
