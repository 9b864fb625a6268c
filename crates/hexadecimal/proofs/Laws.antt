-- Steps of the search for a byte, of the lines of a text, and of the digits put into a buffer. Assumes nothing.
use Rattle.std.proofs.Common.{◌≡◌, ℕ, zero, suc, ◌+◌, ◌-◌, ◌/◌, ◌≤◌, ◌<◌, ◌==◌, Bool, not, List, [], ◌∷◌, length, get_or, take, drop, position, sym, ap, ◌∙◌, add-one, arith, drop-cons, drop_of_length-le}
use Rattle.std.proofs.lemmas.Grind.{common_steps}
use Rattle.std.proofs.lemmas.List.{drop-drop}
use Rattle.std.proofs.lemmas.List.Sums.{prefix_len-le-length}
use Rattle.std.specs.Option.{unwrap_or}
use Rattle.std.specs.List.{position_or_len, before_first, after_first, onto_first}
use Rattle.hexadecimal.specs.Hex.{first_among, first_of, digit_of, Filled, digit_put, byte_more, filled_by}
use Rattle.hexadecimal.specs.declared.TheConstants.{LINE_FEED}
use Rattle.hexadecimal.specs.Lines.{lines_of}

-- the search counts from where it starts
pub first_among_position : (n : ℕ) (s : List ℕ) (at byte : ℕ) → at + n ≤ length s
    → first_among n s at byte ≡ at + position_or_len (λ b. b == byte) (take n (drop at s))
unfolding first_among
first_among_position zero s at byte h = grind (arith, common_steps)
first_among_position (suc n) s at byte h =
    let e : drop at s ≡ get_or s at 0 ∷ drop (at + 1) s = drop-cons s at 0 (omega arith) ∙ rw add-one in
    rw e (grind (arith, common_steps, first_among_position n s (at + 1) byte (omega arith)))

pub first_of_position : (s : List ℕ) (from to byte : ℕ) → from ≤ to → to ≤ length s
    → first_of s from to byte ≡ from + position_or_len (λ b. b == byte) (take (to - from) (drop from s))
first_of_position s from to byte h k = first_among_position (to - from) s from byte (omega arith)

pub first_of_all : (s : List ℕ) (byte : ℕ) → first_of s 0 (length s) byte ≡ position_or_len (λ b. b == byte) s
first_of_all s byte = grind (arith, common_steps, first_among_position (length s) s 0 byte (omega arith))

-- the answer of `position`, or the length
pub position-or_len : (p : ℕ → Bool) (s : List ℕ) → unwrap_or (position p s) (length s) ≡ position_or_len p s
position-or_len p s = grind (arith, common_steps, prefix_len-le-length (λ x. not (p x)) s)

-- the first line, and those behind its line feed
pub lines_of_cons : (b : ℕ) (s : List ℕ)
    → lines_of (b ∷ s) ≡ before_first (λ c. c == LINE_FEED) (b ∷ s) ∷ lines_of (after_first (λ c. c == LINE_FEED) (b ∷ s))
lines_of_cons b [] = grind (arith, common_steps)
lines_of_cons b (c ∷ s) = grind (arith, common_steps, lines_of_cons c s)

length-onto_first-le : (b : ℕ) (l : List (List ℕ)) → length (onto_first b l) ≤ 1 + length l
length-onto_first-le b [] = grind arith
length-onto_first-le b (x ∷ l) = grind arith

-- there are no more lines than bytes
pub length-lines_of-le : (s : List ℕ) → length (lines_of s) ≤ length s
length-lines_of-le [] = grind arith
length-lines_of-le (b ∷ s) = grind (arith, common_steps, length-lines_of-le s, length-onto_first-le b (lines_of s))

pub lines_of_next : (s line rest behind : List ℕ) → 0 < length s → line ≡ before_first (λ c. c == LINE_FEED) s
    → rest ≡ drop (position_or_len (λ c. c == LINE_FEED) s) s → behind ≡ drop 1 rest → lines_of s ≡ line ∷ lines_of behind
lines_of_next [] line rest behind h e f g = grind arith
lines_of_next (b ∷ s) line rest behind h e f g =
    let k = position_or_len (λ c. c == LINE_FEED) (b ∷ s) in
    rw (e, g, f) (lines_of_cons b s ∙ ap (λ (l : List ℕ). before_first (λ c. c == LINE_FEED) (b ∷ s) ∷ lines_of l) (sym (drop-drop 1 k (b ∷ s))))

-- one byte more of a text
module _ (f : Filled) (s : List ℕ) (i : ℕ) (within : i < length s) where
  pub text_more : filled_by f (drop i s) ≡ filled_by (byte_more f (get_or s i 0)) (drop (i + 1) s)
  unfolding filled_by
  text_more = ap (filled_by f) (drop-cons s i 0 within)
      ∙ ap (λ (k : ℕ). filled_by (byte_more f (get_or s i 0)) (drop k s)) (sym (add-one i))

  pub text_digit : (d : ℕ) → d ≡ digit_of (get_or s i 0) → d < 16 → f.digits / 2 < length f.bytes
      → filled_by (digit_put f d) (drop (i + 1) s) ≡ filled_by f (drop i s)
  text_digit d e h r = let m : byte_more f (get_or s i 0) ≡ digit_put f d = grind (arith, common_steps) in
      sym (text_more ∙ ap (λ (g : Filled). filled_by g (drop (i + 1) s)) m)

  pub text_no_digit : 16 ≤ digit_of (get_or s i 0) → filled_by f (drop (i + 1) s) ≡ filled_by f (drop i s)
  text_no_digit h = let m : byte_more f (get_or s i 0) ≡ f = grind (arith, common_steps) in
      sym (text_more ∙ ap (λ (g : Filled). filled_by g (drop (i + 1) s)) m)

  pub text_no_room : length f.bytes ≤ f.digits / 2 → filled_by f (drop (i + 1) s) ≡ filled_by f (drop i s)
  text_no_room r = let m : byte_more f (get_or s i 0) ≡ f = grind (arith, common_steps) in
      sym (text_more ∙ ap (λ (g : Filled). filled_by g (drop (i + 1) s)) m)

pub text_over : (f : Filled) (s : List ℕ) (i : ℕ) → length s ≤ i → filled_by f (drop i s) ≡ f
unfolding filled_by
text_over f s i h = ap (filled_by f) (drop_of_length-le s h)
