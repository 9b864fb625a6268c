-- A region's bytes after its terms.
use Rattle.std.specs.Prelude.{Bool, List, [], ℕ}
use Rattle.chart_command.specs.Bytes.{hot_byte, rest_byte}
use Rattle.chart_value.specs.Writer.{flag_bytes, resets_bytes}

-- D3: 32 if it is hot, then its resets, then 33 if it is marked
abbrev pub marks_bytes : Bool → ℕ → Bool → List ℕ
marks_bytes hot resets rest = flag_bytes hot_byte hot (resets_bytes resets (flag_bytes rest_byte rest []))
