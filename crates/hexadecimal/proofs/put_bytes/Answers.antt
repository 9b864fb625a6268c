-- `hexadecimal::put_bytes` meets its contract: what the text from here on still fills is what all of it fills.
-- Assumes nothing.
use Rattle.std.proofs.Common.{rules, arith, ◌≡◌, sym, ap, ◌∙◌, ◌/◌, drop, ◌+◌}
use Rattle.std.proofs.lemmas.Grind.{common_steps}
use Rattle.hexadecimal.specs.Hex.{Filled, filled_with, filled_by, digit_put}
use Rattle.hexadecimal.proofs.Laws.{text_digit, text_no_digit, text_no_room, text_over}
use Rattle.hexadecimal.proofs.put_bytes.Goals.{then-place-out, else-place-out}
use Rattle.hexadecimal.proofs.put_bytes.Goals as goal

pub loop-b-preserved-in_default : goal.loop-b-preserved-in_default
loop-b-preserved-in_default c =
    let l = c.loop-b in record {
      room = l.invariant.room;
      fills = text_no_digit (filled_with l.out l.n) c.args.digits.now l.b-index c.loop-b-test.true (omega arith) ∙ l.invariant.fills;
    }

pub loop-b-preserved : goal.loop-b-preserved
loop-b-preserved c =
    let l = c.loop-b in
    let f = filled_with l.out l.n in
    let s = c.args.digits.now in
    elim c.if-place-out.branch [
      | then-place-out w ↦
          let e : filled_with c.if-place-out.out c.if-place-out.n ≡ digit_put f c.in-Some.d
          = rw (w.out-is, w.n-is, w.with_digit.ensures) in record {
            room = grind (arith, common_steps);
            fills = ap (λ (g : Filled). filled_by g (drop (l.b-index + 1) s)) e
                ∙ text_digit f s l.b-index c.loop-b-test.true c.in-Some.d (search rules) (search rules) w.if-place-out.true
                ∙ l.invariant.fills;
          }
      | else-place-out w ↦
          let e : filled_with c.if-place-out.out c.if-place-out.n ≡ f = rw (w.out-is, w.n-is) in record {
            room = grind (arith, common_steps);
            fills = ap (λ (g : Filled). filled_by g (drop (l.b-index + 1) s)) e
                ∙ text_no_room f s l.b-index c.loop-b-test.true w.if-place-out.false
                ∙ l.invariant.fills;
          }
    ]

pub returns-clause-bytes : goal.returns-clause-bytes
returns-clause-bytes c =
    let l = c.loop-b in
    ap (λ (f : Filled). f.bytes) (sym (text_over (filled_with l.out l.n) c.args.digits.now l.b-index (search rules)) ∙ l.invariant.fills)

pub returns-clause-count : goal.returns-clause-count
returns-clause-count c =
    let l = c.loop-b in
    ap (λ (f : Filled). f.digits / 2) (sym (text_over (filled_with l.out l.n) c.args.digits.now l.b-index (search rules)) ∙ l.invariant.fills)
