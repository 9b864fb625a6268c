-- What a decoded command can be. Assumes nothing.
use mathlib.Core.Bool.{Bool, true, false, cond}
use mathlib.Core.List.{List}
use Rattle.std.proofs.Common.{Result, Err}
use Prim.Native.Nat.{ℕ}
use lib.Dec.{eqb, leb}
use lib.ListN.{length, get_or}
use Rattle.chart_command.specs.declared.Command.{Command}
use Rattle.chart_command.specs.declared.Decoded.{Decoded}
use Rattle.chart_command.specs.declared.Undecoded.{Undecoded}
use Rattle.chart_command.specs.declared.Undecoded.TheVariants.{CutShort, Unknown}
use Rattle.chart_command.specs.Bytes.{heading_byte, message_byte, plain_byte, clock_term_byte, difference_term_byte}
use Rattle.chart_command.specs.Bytes.{hot_byte, rest_byte, resets_byte, main_byte, end_byte}
use Rattle.chart_command.specs.Command.{operands, decode_byte, decode_at}

module _ (s : List ℕ) (at : ℕ) (P : Result Decoded Undecoded → Type 0) (cut : P (Err CutShort)) (unknown : P (Err Unknown))
    (taken : (n : ℕ) (c : Command) → P (operands s at n c)) where
  pick : (t : Bool) (x y : Result Decoded Undecoded) → P x → P y → P (cond t x y)
  pick true x y p q = p
  pick false x y p q = q

  byte_cases : (b : ℕ) → P (decode_byte s at b)
  byte_cases b =
      pick (eqb b heading_byte) _ _ (taken 2 _)
      (pick (eqb b message_byte) _ _ (taken 4 _)
      (pick (eqb b plain_byte) _ _ (taken 2 _)
      (pick (eqb b clock_term_byte) _ _ (taken 6 _)
      (pick (eqb b difference_term_byte) _ _ (taken 7 _)
      (pick (eqb b hot_byte) _ _ (taken 0 _)
      (pick (eqb b rest_byte) _ _ (taken 0 _)
      (pick (eqb b resets_byte) _ _ (taken 1 _)
      (pick (eqb b main_byte) _ _ (taken 0 _)
      (pick (eqb b end_byte) _ _ (taken 0 _) unknown)))))))))

  -- nothing there, an unknown byte, or some command with its operands
  pub decode_cases : P (decode_at s at)
  decode_cases = pick (leb (length s) at) _ _ cut (byte_cases (get_or s at 0))
