-- `text::append_decimal` meets its contract: std's decimal text is these digits. Assumes nothing.
use native.Mathlib.Omega.{arith}
use Rattle.std.proofs.Common.{rules, List, ℕ, ◌++◌, ◌∙◌, sym, ap, length}
use Rattle.text.proofs.Laws.{decimal_is, decimal_short, spelling}
use Rattle.text.proofs.append_decimal.Goals as goal

pub append-requires : goal.append-requires
append-requires g c =
    let e = ap length (decimal_is c.args.n (omega arith) ∙ sym c.format.ensures.text) in
    (search rules, omega (arith, c.requires, e, ap length c.as_bytes.ensures.value))

pub returns : goal.returns
returns g c =
    let e = c.as_bytes.ensures.value ∙ c.format.ensures.text ∙ sym (decimal_is c.args.n (omega arith)) in
    record {
      text = c.append.ensures.items ∙ ap (λ (t : List ℕ). c.args.out.now.items ++ t) e;
      short = omega (arith, c.append.ensures.len, ap length e, decimal_short c.args.n (omega arith));
      spelling = spelling c.args.n (omega arith);
    }
