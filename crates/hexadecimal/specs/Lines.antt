-- The lines of a text.
use Rattle.std.specs.Prelude.{ℕ, cond, ◌==◌, List, [], ◌∷◌}
use Rattle.std.specs.List.{onto_first}
use Rattle.hexadecimal.specs.declared.TheConstants.{LINE_FEED}
use Rattle.hexadecimal.specs.declared.TextLines.{TextLines}

-- the lines without their line feeds; behind a line feed at the end there is none
abbrev pub lines_of : List ℕ → List (List ℕ)
lines_of [] = []
lines_of (b ∷ s) = cond (b == LINE_FEED) ([] ∷ lines_of s) (onto_first b (lines_of s))

-- and those that are still to come
abbrev pub lines_left : TextLines → List (List ℕ)
lines_left l = lines_of l.0.now
