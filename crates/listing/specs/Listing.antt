-- P6 to P10: what the printing program prints, as a list of bytes.
use Rattle.std.specs.Prelude.{ℕ, ◌+◌, ◌*◌, List, [], ◌∷◌, ◌++◌, Result, Ok, Err}
use Rattle.model.specs.declared.Verdict.{Verdict}
use Rattle.text.specs.Text.{bytes_of, decimal_of}
use Rattle.listing.specs.declared.Part.{Part}
use Rattle.listing.specs.declared.Part.TheVariants.{Input, Chart, Log}
use Rattle.listing.specs.declared.Refused.{Refused}

-- a verdict, or a refusal
abbrev pub Report : Type 0
Report = Result Verdict Refused

abbrev pub refused : Part → ℕ → ℕ → Report
refused part number offset = Err (record { part = part; number = number; offset = offset })

-- 1 for the chart, 2 for the log; judging a chart and a log never refuses the input
abbrev pub part_number : Part → ℕ
part_number Input = 0
part_number Chart = 1
part_number Log = 2

-- texts one after the other
abbrev pub joined : List (List ℕ) → List ℕ
joined [] = []
joined (t ∷ ts) = t ++ joined ts

-- P8: the header, then the numbers
unfoldable pub verdict_lines : Verdict → List ℕ
verdict_lines v =
    joined (
    bytes_of "STANDING KEPT DROPPED RECORDS BREAK REASON REGION TERM\n" ∷
    decimal_of v.standing ∷ bytes_of " " ∷ decimal_of v.kept ∷ bytes_of " " ∷ decimal_of v.dropped ∷ bytes_of " " ∷
    decimal_of v.records ∷ bytes_of " " ∷ decimal_of v.broken ∷ bytes_of " " ∷ decimal_of v.reason ∷ bytes_of " " ∷
    decimal_of v.region ∷ bytes_of " " ∷ decimal_of v.term ∷ bytes_of "\n" ∷ [])

abbrev pub part_name : Part → List ℕ
part_name Input = bytes_of "input"
part_name Chart = bytes_of "chart"
part_name Log = bytes_of "log"

-- P6: a refusal
unfoldable pub refusal_line : Part → ℕ → ℕ → List ℕ
refusal_line part number offset =
    joined (
    bytes_of "refused " ∷ part_name part ∷ bytes_of " " ∷ decimal_of number ∷ bytes_of " at " ∷ decimal_of offset ∷
    bytes_of "\n" ∷ [])

abbrev pub listing_of : Report → List ℕ
listing_of (Ok v) = verdict_lines v
listing_of (Err refused) = refusal_line refused.part refused.number refused.offset

-- P12: so many bytes are enough for every listing
abbrev pub room : ℕ
room = 55 + 8 * 21
