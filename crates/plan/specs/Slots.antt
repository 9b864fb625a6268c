-- The regions of a message, found by a number that its code gives.
use Rattle.std.proofs.Math.Bool.{So}
use Rattle.std.specs.Prelude.{List, ℕ, ◌*◌, ◌/◌, ◌%◌, ◌<◌, get_or}
use Rattle.bitset.specs.Set.{contains}

abbrev pub spread : ℕ
spread = 0x9E37_79B1

-- a number's lower 32 bits are what is left of it beyond this
abbrev low_word : ℕ
low_word = 0x1_0000_0000

abbrev pub slot_count : ℕ
slot_count = 256

-- the slot of a code: its lower 32 bits times `spread`; of the lower 32 bits of that, the highest byte
unfoldable pub slot_of : ℕ → ℕ
slot_of code = (code % low_word * spread) % low_word / 16777216

-- each region is a member of its key's slot, and the members of every slot are regions
pub record Slotted (count : ℕ) (keys slots : List ℕ) : Type 0 where
  pub has : (i : ℕ) → i < count → So (contains (get_or slots (slot_of (get_or keys i 0)) 0) i)
  pub own : (i k : ℕ) → So (contains (get_or slots k 0) i) → i < count
