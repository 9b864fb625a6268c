-- Parts of a listing, as the functions put them one after the other.
use Rattle.std.specs.Prelude.{ℕ, List, [], ◌∷◌, ◌++◌}
use Rattle.text.specs.Text.{decimal_of}

-- a number in decimal and one byte after it
abbrev pub field_text : ℕ → ℕ → List ℕ
field_text n end = decimal_of n ++ (end ∷ [])

-- numbers, a space (32) after each
abbrev pub spaced : List ℕ → List ℕ
spaced [] = []
spaced (n ∷ ns) = field_text n 32 ++ spaced ns
