use Rattle.std.proofs.Common.{List, ℕ, [], ◌∷◌, ◌++◌, ◌∙◌, ap}
use Rattle.text.specs.Text.{bytes_of}
use Rattle.listing.specs.Listing.{part_name}
use Rattle.listing.specs.Parts.{field_text}
use Rattle.listing.proofs.Laws.{then, refusal_joined}
use Rattle.listing.proofs.refusal_text.Goals as goal

pub returns : goal.returns
unfolding bytes_of
returns c =
    let r = c.args.refused in
    let n = ap (λ (k : ℕ). c.push.new.self.items ++ field_text k 32) c.from.ensures in
    let first = then (bytes_of "refused ") c.new-out.ensures c.append.ensures.items in
    let p = c.append-2.ensures.items ∙ ap (λ (t : List ℕ). c.append.new.out.items ++ t) c.name.ensures.value in
    let name = then (32 ∷ []) (then (part_name r.part) first p) c.push.ensures.items in
    let number = then (field_text r.number 32) name (c.put_field.ensures.text ∙ n) in
    let at = then (bytes_of "at ") number c.append-3.ensures.items in
    then (field_text r.offset 10) at c.put_field-2.ensures.text ∙ refusal_joined r.part r.number r.offset
