-- A feed has one answer, so one number and one cause. Assumes nothing.
use mathlib.Core.Path.{◌≡◌, sym, ap, ◌∙◌}
use mathlib.Core.List.{List}
use Prim.Native.Nat.{ℕ}
use Rattle.model.specs.declared.Record.{Record}
use Rattle.model.specs.Answers.{Fed, fed_number}
use Rattle.model.specs.Numbers.{fed_cause}
use Rattle.live.proofs.History.{one_answer}
use Rattle.lsc_live.specs.Lsc.{FedNumber, FeedsTell}

one_number : {l n n' : List ℕ} {e : Record} {r s : ℕ} → FedNumber l e r n → FedNumber l e s n' → r ≡ s
one_number F G = F.is_number ∙ ap fed_number (one_answer F.fed G.fed) ∙ sym G.is_number

pub feeds_tell : FeedsTell
feeds_tell = record {
  number = one_number;
  why = λ F G.
      let a : F.returned.answer ≡ G.returned.answer = one_answer F.returned.fed G.returned.fed in (
        one_number F.returned G.returned,
        F.is_region ∙ ap {B = ℕ} (λ (x : Fed). (fed_cause x).region) a ∙ sym G.is_region,
        F.is_term_case ∙ ap {B = ℕ} (λ (x : Fed). (fed_cause x).term) a ∙ sym G.is_term_case,
      );
}
