-- Texts put one after the other, and numbers that their bytes give back. Assumes nothing.
use mathlib.Core.Path.{◌≡◌, refl, sym, ap, ◌∙◌, subst}
use mathlib.Core.Bool.{cond}
use mathlib.Core.List.{List, [], ◌∷◌, ◌++◌, append_assoc}
use Prim.Native.Nat.{ℕ, suc, ◌+◌, ◌-◌, ◌*◌, ◌/◌, ◌%◌, ◌^◌, ◌≤◌, ◌<◌}
use native.Mathlib.Decide.{dec_lt}
use native.Mathlib.Nat.{add-zero, add-suc, suc-add}
use native.Mathlib.Omega.{arith}
use borrow.Author.Tests.{le-ltb}
use borrow.Rule.Slice.PartMut.{put_mid, Post-is}
use lib.ListN.{length, get_or, set, take, drop, length-append, length-drop, length-set, get_or-append}
use lib.Seq.{sets, sets-eq, length-sets, ext_get_or, get_or-append-add, get_or-drop}
use Rattle.std.specs.Int.{w64, to_be_bytes}
use Rattle.wire.specs.Bytes.{word64}
use Rattle.wire.specs.Writing.{Wrote, starting_with, writer_buffer, long_bytes}

sets_append : (l : List ℕ) (i : ℕ) (t u : List ℕ) → sets l i (t ++ u) ≡ sets (sets l i t) (i + length t) u
sets_append l i [] u = ap (λ (k : ℕ). sets l k u) (sym (add-zero i))
sets_append l i (a ∷ t) u =
    sets_append (set l i a) (suc i) t u
    ∙ ap (λ (k : ℕ). sets (sets (set l i a) (suc i) t) k u) (suc-add i (length t) ∙ sym (add-suc i (length t)))

-- one text after another
pub then : {l t m u k : List ℕ} {i j n : ℕ} → Wrote l i t m j → Wrote m j u k n → Wrote l i (t ++ u) k n
then {l} {t} {m} {u} {k} {i} {j} {n} a b = record {
  next = omega (arith, a.next, b.next, length-append t u);
  bytes =
      b.bytes
      ∙ ap (λ (x : List ℕ). sets x j u) a.bytes
      ∙ ap (λ (x : ℕ). sets (sets l i t) x u) a.next
      ∙ sym (sets_append l i t u);
  size = b.size ∙ a.size;
}

pub nothing : (l : List ℕ) (i j : ℕ) → j ≡ i → Wrote l i [] l j
nothing l i j e = record { next = e ∙ sym (add-zero i); bytes = refl; size = refl }

pub one : (l : List ℕ) (i a j : ℕ) → j ≡ i + 1 → Wrote l i (a ∷ []) (set l i a) j
one l i a j e = record { next = e; bytes = refl; size = length-set l i a }

-- the same text, written otherwise
pub spelled : {l t u m : List ℕ} {i j : ℕ} → t ≡ u → Wrote l i t m j → Wrote l i u m j
spelled {l} {t} {u} {m} {i} {j} e w = subst (λ (x : List ℕ). Wrote l i x m j) e w

-- a text copied into a part of the buffer
pub in_middle : {l t u : List ℕ} {i : ℕ} → i + length t ≤ length l → u ≡ t
    → Wrote l i t (put_mid i (i + length t - i) l u) (i + length t)
in_middle {l} {t} {u} {i} h e =
    let s : put_mid i (i + length t - i) l u ≡ sets l i t =
    ap (λ (x : List ℕ). put_mid i (i + length t - i) l x) e
    ∙ ap (λ (x : List ℕ). take i l ++ (t ++ x)) (Post-is i (i + length t) l (omega arith))
    ∙ sym (append_assoc (take i l) t (drop (i + length t) l))
    ∙ sym (sets-eq t l i h) in
    record { next = refl; bytes = s; size = ap length s ∙ length-sets l i t }

-- what was written at the start of a buffer with room for it
pub at_start : {l t n : List ℕ} {j : ℕ} → Wrote l 0 t n j → length t ≤ length l → n ≡ t ++ drop (length t) l
at_start {l} {t} {n} {j} w h =
    let p : 0 + length t ≡ length t = omega arith in
    w.bytes ∙ sets-eq t l 0 (omega arith) ∙ ap (λ (k : ℕ). t ++ drop k l) p

pub take_front : (t u : List ℕ) → take (length t) (t ++ u) ≡ t
take_front [] u = refl
take_front (a ∷ t) u = ap (λ (x : List ℕ). a ∷ x) (take_front t u)

-- its length
pub counted : {l t n : List ℕ} {j : ℕ} → Wrote l 0 t n j → j ≡ length t
counted w = omega (arith, w.next)

-- a writer's buffer with room for the text
pub whole : {t out m : List ℕ} {j : ℕ} → length t ≤ length out → Wrote out 0 t m j → m ≡ writer_buffer t out
whole {t} {out} h w = at_start w h ∙ ap (λ b. cond b out (starting_with t out)) (sym (le-ltb _ _ h))

-- a buffer with a text at its start: its size, the text's bytes, and those after them
pub starting_size : (t l : List ℕ) → length t ≤ length l → length (starting_with t l) ≡ length l
starting_size t l h = length-append t (drop (length t) l) ∙ omega (arith, h, length-drop (length t) l)

pub starting_byte : (t l : List ℕ) (i : ℕ) → i < length t → get_or (starting_with t l) i 0 ≡ get_or t i 0
starting_byte t l i h = get_or-append t (drop (length t) l) 0 i h

pub starting_rest : (t l : List ℕ) (i : ℕ) → length t ≤ i → get_or (starting_with t l) i 0 ≡ get_or l i 0
starting_rest t l i h =
    let k : length t + (i - length t) ≡ i = omega (arith, h) in
    ap (λ (n : ℕ). get_or (starting_with t l) n 0) (sym k)
    ∙ get_or-append-add t (drop (length t) l) (i - length t) 0
    ∙ get_or-drop (length t) l (i - length t) 0
    ∙ ap (λ (n : ℕ). get_or l n 0) k

-- and no other buffer is so
pub starting_only : (t l n : List ℕ) → length t ≤ length l → length n ≡ length l
    → ((i : ℕ) → i < length t → get_or n i 0 ≡ get_or t i 0) → ((i : ℕ) → length t ≤ i → get_or n i 0 ≡ get_or l i 0)
    → n ≡ starting_with t l
starting_only t l n h e f r =
    ext_get_or 0 n (starting_with t l) (e ∙ sym (starting_size t l h)) (λ i b. elim (dec_lt i (length t)) [
      | yes q ↦ f i q ∙ sym (starting_byte t l i q)
      | no q ↦ let z : length t ≤ i = omega (arith, q) in r i z ∙ sym (starting_rest t l i z)
    ])

-- numbers written for one case of a value are those of the value
pub written : {A : Type 0} (f : A → List ℕ) (out : List ℕ) {x y : A} {m : List ℕ} → x ≡ y → m ≡ starting_with (f y) out
    → m ≡ starting_with (f x) out
written f out e b = b ∙ ap (λ z. starting_with (f z) out) (sym e)

-- a number of 32 bits, put together from its bytes
pub word_back : (x : ℕ) → x < 2 ^ 32
    → (x / 0x100_0000 % 256 * 256 + x / 0x1_0000 % 256) * 65536 + (x / 0x100 % 256 * 256 + x % 256) ≡ x
word_back x h =
    let a : x ≡ x / 0x100 * 256 + x % 256 = omega arith in
    let b : x / 0x100 ≡ x / 0x1_0000 * 256 + x / 0x100 % 256 = omega arith in
    let c : x / 0x1_0000 ≡ x / 0x100_0000 * 256 + x / 0x1_0000 % 256 = omega arith in
    let d : x / 0x100_0000 % 256 ≡ x / 0x100_0000 = omega arith in
    omega arith

-- and one of 64
pub long_back : (x : ℕ) (rest : List ℕ) → x < 2 ^ 64 → word64 (long_bytes x ++ rest) 0 ≡ x
long_back x rest h =
    let a : x / 0x1_0000_0000 < 2 ^ 32 = omega arith in
    let b : x % 0x1_0000_0000 < 2 ^ 32 = omega arith in
    rw (word_back (x / 0x1_0000_0000) a, word_back (x % 0x1_0000_0000) b) (omega arith)

-- a number of 64 bits, most significant byte first
pub long_as_bytes : (x : ℕ) → to_be_bytes w64 x ≡ long_bytes x
long_as_bytes x = grind arith
