use native.Mathlib.Omega.{arith}
use Rattle.std.proofs.Common.{List, ℕ, ◌++◌, ◌∙◌, ap, length, take, get_or}
use mathlib.Core.List.{append_assoc}
use lib.Seq.{take_all}
use Rattle.text.specs.Text.{bytes_of}
use Rattle.listing.specs.Parts.{field_text, spaced}
use Rattle.listing.proofs.Laws.{then, spaced_more, verdict_joined}
use Rattle.listing.proofs.verdict_text.Goals as goal

abbrev header : List ℕ
header = bytes_of "STANDING KEPT DROPPED RECORDS BREAK REASON REGION TERM\n"

pub loop-n-init : goal.loop-n-init
unfolding bytes_of
loop-n-init c = let e = then header c.new-out.ensures c.append.ensures.items in (e, omega (arith, ap length e))

pub loop-n-preserved : goal.loop-n-preserved
loop-n-preserved c =
    let ns = take 7 c.into-numbers.result in
    let i = c.loop-n.n-index in
    let f = field_text (get_or ns i 0) 32 in
    let h = c.loop-n.invariant in (
      then f h.0 c.put_field.ensures.text
          ∙ append_assoc header (spaced (take i ns)) f
          ∙ ap (λ (t : List ℕ). header ++ t) (spaced_more ns i c.loop-n-test.true),
      omega (arith, h.1, c.put_field.ensures.short),
    )

pub returns : goal.returns
returns c =
    let e = c.into-numbers.ensures in
    let l = c.loop-n.invariant.0
    ∙ ap (λ (ns : List ℕ). header ++ spaced ns) (take_all c.loop-n.n-index (take 7 c.into-numbers.result) c.loop-n-test.false) in
    then (field_text (get_or c.into-numbers.result 7 0) 10) l c.put_field-2.ensures.text
    ∙ ap (λ (ns : List ℕ). (header ++ spaced (take 7 ns)) ++ field_text (get_or ns 7 0) 10) e
    ∙ verdict_joined c.args.v
