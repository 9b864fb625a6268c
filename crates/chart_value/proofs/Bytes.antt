-- Reading on from an offset whose bytes are known, command by command. Assumes nothing.
use mathlib.Core.Path.{◌≡◌, refl, sym, ap, ◌∙◌}
use mathlib.Core.Bool.{Bool, false, cond}
use mathlib.Core.List.{List, [], ◌∷◌}
use Prim.Native.Nat.{ℕ, zero, suc, ◌+◌, ◌-◌, ◌*◌, ◌/◌, ◌%◌, ◌≤◌, ◌<◌}
use native.Mathlib.Omega.{arith}
use native.Mathlib.Nat.{add_assoc, add-zero}
use native.Mathlib.Numerals.{one-add}
use borrow.Author.Tests.{lt-leb, le-ltb}
use lib.Dec.{ltb}
use lib.ListN.{length, get_or, drop, length-drop}
use lib.Seq.{get_or-drop, drop-drop}
use Rattle.wire.specs.Bytes.{word16, word32}
use Rattle.chart_command.specs.declared.Command.{Command}
use Rattle.chart_command.specs.declared.Command.TheVariants.{Heading, Message, Plain, ClockTerm, DifferenceTerm, Hot}
use Rattle.chart_command.specs.declared.Command.TheVariants.{Rest, Resets, Main, End}
use Rattle.chart_command.specs.declared.Decoded.{Decoded}
use Rattle.chart_command.specs.declared.Undecoded.{Undecoded}
use Rattle.chart_command.specs.declared.Undecoded.TheVariants.{CutShort}
use Rattle.std.proofs.Common.{Option, Some, None, Result, Ok, Err}
use Rattle.chart_command.specs.Bytes.{heading_byte, message_byte, plain_byte, clock_term_byte, difference_term_byte, hot_byte}
use Rattle.chart_command.specs.Bytes.{rest_byte, resets_byte, main_byte, end_byte}
use Rattle.chart_command.specs.Command.{decode_at, decode_byte, operands}
use Rattle.chart_step.specs.declared.Fault.{Fault}
use Rattle.chart_step.specs.declared.Reading.{Reading}
use Rattle.chart_step.specs.declared.Step.{Step}
use Rattle.chart_step.specs.Reading.{fault_of, decided, applied, next_of, with_term}
use Rattle.model.specs.declared.Left.TheVariants.{Clock, Difference}
use Rattle.chart_reader.specs.Read.{read_from, continue_by, advance_of, advance_by, read_chart, start_reading}
use Rattle.chart_reader.specs.Said.{Said, accepted_as}
use Rattle.chart_value.specs.Writer.{two, four}

pub in_two : (n : ℕ) → n / 256 * 256 + n % 256 ≡ n
in_two n = omega arith

pub in_four : (n : ℕ) → (n / 65536 / 256 * 256 + n / 65536 % 256) * 65536 +
    (n % 65536 / 256 * 256 + n % 65536 % 256) ≡ n
in_four n = omega arith

module _ (s : List ℕ) (x : Said) where
  -- reading on from an offset in a state gives x, if enough commands are allowed
  pub Gives : ℕ → Reading → Type 0
  Gives at r = (n : ℕ) → length s < at + n → read_from n s at r ≡ x

  module _ (at : ℕ) (r : Reading) where
    pub go : (r' : Reading) (next : ℕ) → at < length s → at < next
        → advance_of s at r ≡ Ok (record { reading = r'; next = Some next }) → Gives next r' → Gives at r
    unfolding Gives read_from
    go r' next h k e f zero l = absurd (omega arith)
    go r' next h k e f (suc n) l =
        ap (λ (a : Result Step Fault). continue_by (read_from n s) a) e ∙ f n (omega arith)

    pub stop : (r' : Reading) → at < length s → advance_of s at r ≡ Ok (record { reading = r'; next = None })
        → accepted_as r'.chart ≡ x → Gives at r
    unfolding Gives read_from
    stop r' h e f zero l = absurd (omega arith)
    stop r' h e f (suc n) l =
        ap (λ (a : Result Step Fault). continue_by (read_from n s) a) e ∙ f

  module _ (at : ℕ) (b : ℕ) (xs : List ℕ) (here : drop at s ≡ b ∷ xs) where
    pub operand : (k : ℕ) → get_or s (at + k) 0 ≡ get_or (b ∷ xs) k 0
    operand k = sym (get_or-drop at s k 0) ∙ ap (λ (l : List ℕ). get_or l k 0) here

    pub left : length s - at ≡ suc (length xs)
    left = sym (length-drop at s) ∙ ap length here

    pub after : (k : ℕ) → drop (at + k) s ≡ drop k (b ∷ xs)
    after k = sym (drop-drop k at s) ∙ ap (λ (l : List ℕ). drop k l) here

    -- the command of a byte whose operands are there
    pub decoded_here : (n : ℕ) (c : Command) → decode_byte s at b ≡ operands s at n c → n ≤ length xs
        → decode_at s at ≡ Ok (record { command = c; next = at + 1 + n })
    decoded_here n c e h =
        let l = left in
        let g : get_or s at 0 ≡ b = rw add-zero at (operand 0) in
        ap (λ (t : Bool). cond t (Err CutShort) (decode_byte s at (get_or s at 0))) (lt-leb (length s) at (omega arith))
        ∙ ap (decode_byte s at) g ∙ e
        ∙ ap (λ (t : Bool). cond t (Err CutShort) (Ok (record { command = c; next = at + 1 + n })))
        (lt-leb (length s - at) n (omega arith))

    -- the command at an offset, if nothing refuses it
    pub taken : (r : Reading) (n : ℕ) (c : Command) → decode_byte s at b ≡ operands s at n c → n ≤ length xs
        → fault_of r at (at + 1 + n) (ltb (at + 1 + n) (length s)) c ≡ None
        → advance_of s at r ≡ Ok (record { reading = applied r at c; next = next_of (at + 1 + n) c })
    unfolding advance_of
    taken r n c e h f =
        ap (λ (d : Result Decoded Undecoded). advance_by s at r d) (decoded_here n c e h)
        ∙ ap (λ (g : Option Fault). decided g (record { reading = applied r at c; next = next_of (at + 1 + n) c })) f

    pub word : (k : ℕ) → word16 s (at + k) ≡ get_or (b ∷ xs) k 0 * 256 + get_or (b ∷ xs) (k + 1) 0
    word k = λ i. operand k i * 256 + (ap (λ (j : ℕ). get_or s j 0) (add_assoc at k 1) ∙ operand (k + 1)) i

    pub long : (k : ℕ) → word32 s (at + k)
        ≡ (get_or (b ∷ xs) k 0 * 256 + get_or (b ∷ xs) (k + 1) 0) * 65536 +
        (get_or (b ∷ xs) (k + 2) 0 * 256 + get_or (b ∷ xs) (k + 2 + 1) 0)
    long k = λ i. word k i * 65536 + (ap (λ (j : ℕ). word16 s j) (add_assoc at k 2) ∙ word (k + 2)) i

    -- a command that goes on, after which the rest stands
    pub on : (r r' : Reading) (rest : List ℕ) (n : ℕ) (c c' : Command) → decode_byte s at b ≡ operands s at n c' → c' ≡ c
        → n ≤ length xs → drop n xs ≡ rest
        → next_of (at + 1 + n) c ≡ Some (at + 1 + n)
        → fault_of r at (at + 1 + n) (ltb (at + 1 + n) (length s)) c ≡ None
        → applied r at c ≡ r' → ((at' : ℕ) → drop at' s ≡ rest → Gives at' r') → Gives at r
    on r r' rest n c c' e k h d o f g next =
        let l = left in
        go at r r' (at + 1 + n) (omega arith) (omega arith)
        (taken r n c (e ∙ ap (λ (c : Command). operands s at n c) k) h f
        ∙ (λ i. Ok (record { reading = g i; next = o i })))
        (next (at + 1 + n)
        (ap (λ (j : ℕ). drop j s) (add_assoc at 1 n) ∙ after (1 + n) ∙ ap (λ (j : ℕ). drop j (b ∷ xs)) (one-add n)
        ∙ d))

  -- each command, where its bytes stand and nothing refuses it
  module _ (at : ℕ) (r : Reading) (rest : List ℕ) where
    abbrev pub Onward : Command → Type 0
    Onward c =
        fault_of r at at false c ≡ None → ((at' : ℕ) → drop at' s ≡ rest → Gives at' (applied r at c)) → Gives at r

    pub on_heading : (l k : ℕ) → drop at s ≡ heading_byte ∷ l ∷ k ∷ rest → Onward (Heading l k)
    on_heading l k h f =
        let xs = l ∷ k ∷ rest in
        on at heading_byte xs h r _ rest 2 (Heading l k) _ refl
        (λ i. Heading (operand at heading_byte xs h 1 i) (operand at heading_byte xs h 2 i))
        (omega arith) refl refl f refl

    pub on_message : (a b l : ℕ) → drop at s ≡ message_byte ∷ a ∷ b ∷ two l rest → Onward (Message a b l)
    on_message a b l h f =
        let xs = a ∷ b ∷ two l rest in
        on at message_byte xs h r _ rest 4 (Message a b l) _ refl
        (λ i. Message (operand at message_byte xs h 1 i) (operand at message_byte xs h 2 i)
        ((word at message_byte xs h 3 ∙ in_two l) i))
        (omega arith) refl refl f refl

    pub on_plain : (l : ℕ) → drop at s ≡ plain_byte ∷ two l rest → Onward (Plain l)
    on_plain l h f =
        let xs = two l rest in
        on at plain_byte xs h r _ rest 2 (Plain l) _ refl (ap Plain (word at plain_byte xs h 1 ∙ in_two l))
        (omega arith) refl refl f refl

    pub on_clock_term : (k e n : ℕ) → drop at s ≡ clock_term_byte ∷ k ∷ e ∷ four n rest
        → fault_of r at at false (ClockTerm k e n) ≡ None
        → (r' : Reading) → with_term r (Clock k) e n ≡ r' → ((at' : ℕ) → drop at' s ≡ rest → Gives at' r') → Gives at r
    on_clock_term k e n h f r' g =
        let xs = k ∷ e ∷ four n rest in
        on at clock_term_byte xs h r r' rest 6 (ClockTerm k e n) _ refl
        (λ i. ClockTerm (operand at clock_term_byte xs h 1 i) (operand at clock_term_byte xs h 2 i)
        ((long at clock_term_byte xs h 3 ∙ in_four n) i))
        (omega arith) refl refl f g

    pub on_difference_term : (a b e n : ℕ) → drop at s ≡ difference_term_byte ∷ a ∷ b ∷ e ∷ four n rest
        → fault_of r at at false (DifferenceTerm a b e n) ≡ None
        → (r' : Reading) → with_term r (Difference a b) e n ≡ r' → ((at' : ℕ) → drop at' s ≡ rest → Gives at' r')
        → Gives at r
    on_difference_term a b e n h f r' g =
        let xs = a ∷ b ∷ e ∷ four n rest in
        on at difference_term_byte xs h r r' rest 7 (DifferenceTerm a b e n) _ refl
        (λ i. DifferenceTerm (operand at difference_term_byte xs h 1 i) (operand at difference_term_byte xs h 2 i)
        (operand at difference_term_byte xs h 3 i)
        ((long at difference_term_byte xs h 4 ∙ in_four n) i))
        (omega arith) refl refl f g

    pub on_hot : drop at s ≡ hot_byte ∷ rest → Onward Hot
    on_hot h f = on at hot_byte rest h r _ rest 0 Hot Hot refl refl (omega arith) refl refl f refl

    pub on_rest : drop at s ≡ rest_byte ∷ rest → Onward Rest
    on_rest h f = on at rest_byte rest h r _ rest 0 Rest Rest refl refl (omega arith) refl refl f refl

    pub on_resets : (k : ℕ) → drop at s ≡ resets_byte ∷ k ∷ rest → Onward (Resets k)
    on_resets k h f =
        on at resets_byte (k ∷ rest) h r _ rest 1 (Resets k) _ refl (ap Resets (operand at resets_byte (k ∷ rest) h 1))
        (omega arith) refl refl f refl

    pub on_main : drop at s ≡ main_byte ∷ rest → Onward Main
    on_main h f = on at main_byte rest h r _ rest 0 Main Main refl refl (omega arith) refl refl f refl

  pub on_end : (at : ℕ) (r : Reading) → drop at s ≡ end_byte ∷ [] → fault_of r at (at + 1 + 0) false End ≡ None
      → accepted_as (applied r at End).chart ≡ x → Gives at r
  on_end at r h f g =
      let l = left at end_byte [] h in
      stop at r (applied r at End) (omega arith)
      (taken at end_byte [] h r 0 End refl (omega arith)
      (ap (λ (more : Bool). fault_of r at (at + 1 + 0) more End) (le-ltb (at + 1 + 0) (length s) (omega arith)) ∙ f)) g

pub gives_chart : (s : List ℕ) (x : Said) → Gives s x 0 start_reading → read_chart s ≡ x
unfolding Gives read_chart
gives_chart s x g = g (length s + 1) (omega arith)
