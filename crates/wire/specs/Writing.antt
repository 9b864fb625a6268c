-- A buffer in which bytes were put, and the bytes of numbers, most significant byte first (N3).
use Rattle.std.specs.Prelude.{ℕ, ◌+◌, ◌/◌, ◌%◌, ◌≡◌, cond, List, [], ◌∷◌, ◌++◌, ltb, length, drop}
use Rattle.std.proofs.lemmas.List.Edits.{sets}

-- a buffer l has become m: the text t stands in it from i on, every other byte is as it was, and j is just after t
pub record Wrote (l : List ℕ) (i : ℕ) (t m : List ℕ) (j : ℕ) : Type 0 where
  pub next : j ≡ i + length t
  pub bytes : m ≡ sets l i t
  pub size : length m ≡ length l

-- a buffer with numbers at its start; the places after them stay
abbrev pub starting_with : List ℕ → List ℕ → List ℕ
starting_with ns out = ns ++ drop (length ns) out

-- a buffer of at least so many places with numbers at its start; a shorter one is as it was
abbrev pub in_room : ℕ → List ℕ → List ℕ → List ℕ
in_room places ns out = cond (ltb (length out) places) out (starting_with ns out)

-- N10: a writer's buffer takes the whole text, if that is no longer than the buffer, or stays as it was
abbrev pub writer_buffer : List ℕ → List ℕ → List ℕ
writer_buffer text out = in_room (length text) text out

-- N10: and a writer's answer, in its own words for the length written and for 12 with the length needed
abbrev pub writer_answer : {A : Type 0} → (ℕ → A) → (ℕ → A) → List ℕ → List ℕ → A
writer_answer written short text out =
    cond (ltb (length out) (length text)) (short (length text)) (written (length text))

-- a number below 65,536 in two bytes
abbrev pub half_bytes : ℕ → List ℕ
half_bytes x = x / 0x100 ∷ x % 256 ∷ []

-- a number in four bytes
abbrev pub word_bytes : ℕ → List ℕ
word_bytes x = x / 0x100_0000 % 256 ∷ x / 0x1_0000 % 256 ∷ x / 0x100 % 256 ∷ x % 256 ∷ []

-- a number in eight bytes
abbrev pub long_bytes : ℕ → List ℕ
long_bytes x = word_bytes (x / 0x1_0000_0000) ++ word_bytes (x % 0x1_0000_0000)
