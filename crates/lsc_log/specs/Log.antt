-- V22: what feeding a log's bytes returns and writes.
use Rattle.std.specs.Prelude.{◌≡◌, Bool, true, false, cond, ◌||◌, List, [], ◌∷◌, ℕ, eqb, leb, ltb, length, get_or}
use Rattle.wire.specs.Bytes.{word32}
use Rattle.wire.specs.Writing.{starting_with, word_bytes}
use Rattle.model.specs.Answers.{too_short, not_a_chart, not_fit}
use Rattle.log_clock.specs.declared.Kind.{Kind}
use Rattle.log_clock.specs.declared.Kind.TheVariants.{Unset, Plain, Raw}
use Rattle.live.specs.Live.{is_live}
use Rattle.feed_log.specs.declared.LogFed.{LogFed}
use Rattle.feed_log.specs.Feeds.{number_of, FedLog}

-- the log's kind beside the live monitor: a byte, and the last record's stamp if it is raw
abbrev pub kind_size : ℕ
kind_size = 5

abbrev pub is_kind : List ℕ → Bool
is_kind s = leb (get_or s 0 0) 2

abbrev pub kind_of : List ℕ → Kind
kind_of s = cond (eqb (get_or s 0 0) 0) Unset (cond (eqb (get_or s 0 0) 1) Plain (Raw (record { 0 = word32 s 1 })))

abbrev pub kind_bytes : Kind → List ℕ
kind_bytes Unset = 0 ∷ word_bytes 0
kind_bytes Plain = 1 ∷ word_bytes 0
kind_bytes (Raw s) = 2 ∷ word_bytes s.0

-- the nine numbers: records taken, place, last answer, and a count for each answer
abbrev pub log_places : ℕ
log_places = 9

abbrev pub log_numbers : LogFed → List ℕ
log_numbers r =
    r.taken ∷ r.place ∷ r.last
    ∷ get_or r.counts 0 0 ∷ get_or r.counts 1 0 ∷ get_or r.counts 2 0
    ∷ get_or r.counts 3 0 ∷ get_or r.counts 4 0 ∷ get_or r.counts 5 0 ∷ []

-- 20 and 21 write nothing; the kind is written only if a record was taken
abbrev pub is_refusal : ℕ → Bool
is_refusal n = eqb n not_a_chart || eqb n not_fit

abbrev pub kind_after : LogFed → List ℕ → List ℕ
kind_after r kind =
    cond (is_refusal (number_of r.stop)) kind (cond (eqb r.taken 0) kind (starting_with (kind_bytes r.kind) kind))

abbrev pub numbers_after : LogFed → List ℕ → List ℕ
numbers_after r out = cond (is_refusal (number_of r.stop)) out (starting_with (log_numbers r) out)

-- 12 before all else
abbrev pub is_short : List ℕ → List ℕ → Bool
is_short kind out = ltb (length kind) kind_size || ltb (length out) log_places

-- The number that is returned, and the live bytes, the kind and the numbers after the call.
pub data CallsLog (live kind log out : List ℕ) : ℕ → List ℕ → List ℕ → List ℕ → Type 0 where
  too_few : is_short kind out ≡ true → CallsLog live kind log out too_short live kind out
  no_kind : is_short kind out ≡ false → is_kind kind ≡ false
      → CallsLog live kind log out (cond (is_live live) not_fit not_a_chart) live kind out
  called : {r : LogFed} {n : List ℕ} → is_short kind out ≡ false → is_kind kind ≡ true → FedLog live (kind_of kind) log r n
      → CallsLog live kind log out (number_of r.stop) n (kind_after r kind) (numbers_after r out)

-- what is lent fixes all of it
pub record CallsTell : Type 0 where
  pub tell : {live kind log out l k o m j u : List ℕ} {x y : ℕ} → CallsLog live kind log out x l k o
      → CallsLog live kind log out y m j u → (x ≡ y) × (l ≡ m) × (k ≡ j) × (o ≡ u)
