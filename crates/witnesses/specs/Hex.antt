-- Bytes as text: two hexadecimal digits each, one space between two bytes.
use Rattle.std.specs.Prelude.{cond, List, [], ◌∷◌, ℕ, ◌+◌, ◌*◌, ◌-◌, ltb}
use Prim.Native.Char.{Char, code}
use Prim.Native.String as string
use Prim.Native.String.{String}

-- 0 to 9 are the characters 48 to 57, A to F are 65 to 70
abbrev digit : Char → ℕ
digit c = cond (ltb (code c) 65) (code c - 48) (code c - 55)

abbrev pub hex : String → List ℕ
hex string.[] = []
hex (string.◌∷◌ a string.[]) = []
hex (string.◌∷◌ a (string.◌∷◌ b string.[])) = (digit a * 16 + digit b) ∷ []
hex (string.◌∷◌ a (string.◌∷◌ b (string.◌∷◌ space s))) = (digit a * 16 + digit b) ∷ hex s
