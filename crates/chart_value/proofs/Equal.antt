-- A term equals the term of zeros, and a region the region of zeros, exactly if it tests so. Assumes nothing.
use Rattle.std.proofs.Common.{rules, ◌≡◌, Bool, true, false, refl}
use mathlib.Core.Path.{sym, ◌∙◌, ap}
use mathlib.Core.Bool.{beq}
use lib.ListN.{length}
use borrow.Author.Tests.{eqb-true}
use Rattle.std.specs.Bool.{Decides}
use Rattle.std.proofs.lemmas.Slice.Eq.{slice_eq-Decides}
use Rattle.model.specs.declared.Term.{Term}
use Rattle.model.specs.declared.Event.{Event}
use Rattle.model.specs.declared.Region.{Region}
use Rattle.model.specs.contracts.TermPartialEq.TheImpl as term
use Rattle.model.specs.contracts.EventPartialEq.TheImpl as event
use Rattle.model.specs.contracts.RegionPartialEq.TheImpl as region
use Rattle.model.specs.Chart.{zero_term, zero_region}
use Rattle.base.proofs.Bools.{both}
use Rattle.chart_value.specs.WellFormed.{is_zero_term, is_zero_region}
use Rattle.chart_value.proofs.Facts.{same_region, zero_term_lem, zero_region_lem, zero_is_zero}

terms_decided : (s t : Term) → Decides ((term.ghosts).eq s t) (s ≡ t)
terms_decided s t = search rules

events_decided : (s t : Event) → Decides ((event.ghosts).eq s t) (s ≡ t)
events_decided s t = search rules

not_set : (b : Bool) → beq b false ≡ true → b ≡ false
not_set true e = sym e
not_set false e = refl

equal_region : (g : Region) → (region.ghosts).eq g zero_region ≡ true → g ≡ zero_region
equal_region g e =
    let a = both _ _ e in
    let b = both _ _ a.1 in
    let d = both _ _ b.1 in
    let f = both _ _ d.1 in
    let h = both _ _ f.1 in
    same_region g zero_region ((events_decided g.event zero_region.event).0 a.0)
    ((slice_eq-Decides terms_decided g.terms zero_region.terms _ refl).0 d.0) (eqb-true _ _ f.0) (not_set _ h.0)
    (eqb-true _ _ h.1) (not_set _ b.0)

one_answer : (a b : Bool) → (a ≡ true → b ≡ true) → (b ≡ true → a ≡ true) → a ≡ b
one_answer true b f g = sym (f refl)
one_answer false true f g = g refl
one_answer false false f g = refl

pub term_test : (t z : Term) (r : Bool) → z ≡ zero_term → r ≡ (term.ghosts).eq t z → r ≡ is_zero_term t
unfolding is_zero_term
term_test t z r q e =
    e ∙ ap ((term.ghosts).eq t) q
    ∙ one_answer _ _ (λ h. ap is_zero_term ((terms_decided t zero_term).0 h))
    (λ h. (terms_decided t zero_term).1 (zero_term_lem t h))

pub region_test : (g z : Region) (r : Bool) → length g.terms ≡ 4 → z ≡ zero_region → r ≡ (region.ghosts).eq g z
    → r ≡ is_zero_region g
region_test g z r l q e =
    e ∙ ap ((region.ghosts).eq g) q
    ∙ one_answer _ _ (λ h. ap is_zero_region (equal_region g h) ∙ zero_is_zero)
    (λ h. ap (λ (x : Region). (region.ghosts).eq x zero_region) (zero_region_lem g l h))
