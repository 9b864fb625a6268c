-- V1, V2: a monitor's image. Four bytes for each number, one each for the reason, the cause's region and its term; the
-- most significant byte first (N3).
use Rattle.std.specs.Prelude.{ℕ, List, [], ◌∷◌, ◌++◌, get_or}
use Rattle.std.specs.List.{flat_map}
use Rattle.wire.specs.Bytes.{word32}
use Rattle.wire.specs.Writing.{word_bytes}
use Rattle.model.specs.declared.Moment.{Moment}
use Rattle.model.specs.declared.Tally.{Tally}
use Rattle.model.specs.declared.Monitor.{Monitor}
use Rattle.firing.specs.Places.{moments_of}

-- numbers one after the other
abbrev pub words_bytes : List ℕ → List ℕ
words_bytes = flat_map word_bytes

abbrev pub monitor_size : ℕ
monitor_size = 59

-- the eight reset moments
abbrev pub moment_numbers : List Moment → List ℕ
moment_numbers r =
    moments_of r 0 ∷ moments_of r 1 ∷ moments_of r 2 ∷ moments_of r 3
    ∷ moments_of r 4 ∷ moments_of r 5 ∷ moments_of r 6 ∷ moments_of r 7 ∷ []

-- what comes after them
abbrev pub tally_bytes : Tally → List ℕ
tally_bytes x =
    words_bytes (x.now.0 ∷ x.records ∷ x.kept ∷ x.dropped ∷ x.broken.at ∷ [])
    ++ (x.broken.reason ∷ x.broken.cause.region ∷ x.broken.cause.term ∷ [])

unfoldable pub monitor_bytes : Monitor → List ℕ
monitor_bytes m = word_bytes m.place.fired ++ (words_bytes (moment_numbers m.place.resets) ++ tally_bytes m.tally)

abbrev pub moment_in : List ℕ → ℕ → Moment
moment_in s i = record { 0 = word32 s i }

abbrev pub moments_in : List ℕ → List Moment
moments_in s =
    moment_in s 4 ∷ moment_in s 8 ∷ moment_in s 12 ∷ moment_in s 16
    ∷ moment_in s 20 ∷ moment_in s 24 ∷ moment_in s 28 ∷ moment_in s 32 ∷ []

abbrev pub tally_in : List ℕ → Tally
tally_in s =
    record {
      now = moment_in s 36;
      records = word32 s 40;
      kept = word32 s 44;
      dropped = word32 s 48;
      broken = record {
        at = word32 s 52;
        reason = get_or s 56 0;
        cause = record { region = get_or s 57 0; term = get_or s 58 0 };
      };
    }

-- the monitor whose image starts a list of bytes; a byte past the end reads as 0
unfoldable pub monitor_in : List ℕ → Monitor
monitor_in s = record { place = record { fired = word32 s 0; resets = moments_in s }; tally = tally_in s }
