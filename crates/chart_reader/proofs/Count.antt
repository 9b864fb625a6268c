-- A chart's commands never run out of the count that the definition gives them: a larger count reads the same.
-- Assumes nothing.
use mathlib.Core.Path.{◌≡◌, refl, ◌∙◌}
use mathlib.Core.Bool.{Bool, true, false, cond}
use mathlib.Core.List.{List}
use Prim.Native.Nat.{ℕ, zero, suc, ◌+◌, ◌-◌, ◌≤◌, ◌<◌}
use Rattle.std.proofs.Common.{Option, Some, None, Result, Ok, Err}
use native.Mathlib.Omega.{arith}
use borrow.Author.Tests.{leb-false}
use lib.ListN.{length}
use lib.Dec.{leb, ltb}
use Rattle.chart_command.specs.declared.Command.{Command}
use Rattle.chart_command.specs.declared.Command.TheVariants.{Heading, Message, Plain, ClockTerm, DifferenceTerm, Hot}
use Rattle.chart_command.specs.declared.Command.TheVariants.{Rest, Resets, Main, End}
use Rattle.chart_command.specs.declared.Decoded.{Decoded}
use Rattle.chart_command.specs.declared.Undecoded.{Undecoded}
use Rattle.chart_command.specs.declared.Undecoded.TheVariants.{CutShort}
use Rattle.chart_command.proofs.Laws.{decode_cases}
use Rattle.chart_step.specs.declared.Reading.{Reading}
use Rattle.chart_step.specs.declared.Fault.{Fault}
use Rattle.chart_step.specs.declared.Step.{Step}
use Rattle.chart_step.specs.Reading.{fault_of, decided, applied, next_of}
use Rattle.chart_reader.specs.Read.{read_from, read_chart, start_reading, continue_at, continue_by, advance_of, advance_by}
use Rattle.chart_reader.specs.Said.{Said}

-- where reading goes on, it goes on past the offset `at`, and not past the end
On : ℕ → ℕ → Option ℕ → Type 0
On at size (Some m) = (at < m) × (m ≤ size)
On at size None = Unit {0}

Past : ℕ → ℕ → Result Step Fault → Type 0
Past at size (Ok st) = On at size st.next
Past at size (Err f) = Unit {0}

module _ (at size next : ℕ) (h : at < next) (k : next ≤ size) where
  next_past : (c : Command) → On at size (next_of next c)
  unfolding On
  next_past (Heading l k') = (h, k)
  next_past (Message s d l) = (h, k)
  next_past (Plain l) = (h, k)
  next_past (ClockTerm k' e n) = (h, k)
  next_past (DifferenceTerm a b e n) = (h, k)
  next_past Hot = (h, k)
  next_past Rest = (h, k)
  next_past (Resets k') = (h, k)
  next_past Main = (h, k)
  next_past End = tt

  decided_past : (f : Option Fault) (x : Reading) (c : Command)
      → Past at size (decided f (record { reading = x; next = next_of next c }))
  unfolding Past
  decided_past None x c = next_past c
  decided_past (Some f) x c = tt

advance_past : (s : List ℕ) (at : ℕ) (r : Reading) → Past at (length s) (advance_of s at r)
unfolding advance_of Past
advance_past s at r =
    decode_cases s at (λ (d : Result Decoded Undecoded). Past at (length s) (advance_by s at r d)) tt tt
    (λ n c. by n c (leb (length s - at) n) refl)
  where
    by : (n : ℕ) (c : Command) (t : Bool) → leb (length s - at) n ≡ t
        → Past at (length s)
        (advance_by s at r (cond t (Err CutShort) (Ok (record { command = c; next = at + 1 + n }))))
    by n c true e = tt
    by n c false e =
        decided_past at (length s) (at + 1 + n) (omega arith) (omega (arith, leb-false (length s - at) n e))
        (fault_of r at (at + 1 + n) (ltb (at + 1 + n) (length s)) c) (applied r at c) c

-- within the bytes, any count that is large enough gives the same
pub enough : (n m : ℕ) (s : List ℕ) (at : ℕ) (r : Reading) → at ≤ length s → length s < at + n → length s < at + m
    → read_from n s at r ≡ read_from m s at r
unfolding read_from Past On
enough zero m s at r h k l = absurd (omega arith)
enough (suc n) zero s at r h k l = absurd (omega arith)
enough (suc n) (suc m) s at r h k l =
    by (advance_of s at r) (advance_past s at r) (λ next x p q. enough n m s next x p (omega arith) (omega arith))
  where
    on : (o : Option ℕ) (x : Reading) → On at (length s) o
        → ((next : ℕ) (x : Reading) → next ≤ length s → at < next → read_from n s next x ≡ read_from m s next x)
        → continue_at (read_from n s) o x ≡ continue_at (read_from m s) o x
    on (Some next) x p f = f next x p.1 p.0
    on None x p f = refl

    by : (a : Result Step Fault) → Past at (length s) a
        → ((next : ℕ) (x : Reading) → next ≤ length s → at < next → read_from n s next x ≡ read_from m s next x)
        → continue_by (read_from n s) a ≡ continue_by (read_from m s) a
    by (Ok st) p f = on st.next st.reading p f
    by (Err x) p f = refl

-- the same from the start
pub any_count : (s : List ℕ) (x : Said) → x ≡ read_chart s → (n : ℕ) → length s < n → x ≡ read_from n s 0 start_reading
unfolding read_chart
any_count s x e n h = e ∙ enough (length s + 1) n s 0 start_reading (omega arith) (omega arith) (omega arith)
