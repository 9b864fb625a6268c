-- The test passes exactly if every line that counts is cold. Assumes nothing.
use mathlib.Core.Path.{◌≡◌, sym, ap, ◌∙◌}
use mathlib.Core.Logic.{inl, inr}
use mathlib.Core.Bool.{Bool, true, false, not, ◌&&◌, false≢true}
use mathlib.Core.Option.{Option}
use Prim.Native.Nat.{ℕ, ◌<◌}
use borrow.Author.Tests.{leb-true, le-leb, not-true}
use lib.Dec.{leb}
use Rattle.base.specs.Lists.{last, on_found}
use Rattle.base.proofs.Bools.{both, and_both, either, or_right, or_left, split, clash}
use Rattle.base.proofs.Facts.{found, all_of, all_at, Highest, last_some, last_is}
use Rattle.base.proofs.Loops.{one_passes, some_at}
use Rattle.model.specs.declared.Chart.{Chart}
use Rattle.model.specs.Chart.{region_at, touches}
use Rattle.resting.specs.Rest.{OnLine, Counts, Cold, on_line, counts, is_cold, rests, RestsExactly}

module _ (c : Chart) (k : ℕ) where
  test_on : (i : ℕ) → OnLine c k i → on_line c k i ≡ true
  test_on i o = and_both (le-leb _ _ o.main) o.touched

  on_test : (i : ℕ) → i < c.count → on_line c k i ≡ true → OnLine c k i
  on_test i h e =
      let p = both (leb c.prechart i) (touches (region_at c i).event k) e in
      record { region = h; main = leb-true _ _ p.0; touched = p.1 }

  module _ (fired : ℕ → Bool) where
    test_counts : Counts c fired k → counts c fired k ≡ true
    test_counts x = one_passes _ x.region c.count x.on_line_case.region
        (and_both (test_on x.region x.on_line_case) (ap not x.unfired))

    counts_test : counts c fired k ≡ true → Counts c fired k
    counts_test e =
        let s = some_at c.count (λ i. on_line c k i && not (fired i)) e in
        let p = both (on_line c k s.0) (not (fired s.0)) s.1 in
        record { region = s.0; on_line_case = on_test s.0 s.2 p.0; unfired = not-true (fired s.0) p.1 }

    test_cold : Cold c fired k → is_cold c fired k ≡ true
    test_cold x =
        ap (λ (o : Option ℕ). on_found o false (λ i. (region_at c i).rest))
        (last_is c.count _ x.region (record {
          below = x.on_line_case.region;
          passes = and_both (test_on x.region x.on_line_case) x.is_fired;
          highest = λ j h e.
              let p = both (on_line c k j) (fired j) e in x.last_fired j (on_test j h p.0) p.1;
        })) ∙ x.marked

    cold_test : is_cold c fired k ≡ true → Cold c fired k
    cold_test e = elim (found (last c.count (λ i. on_line c k i && fired i))) [
      | inl n ↦ absurd (false≢true
          (sym (ap (λ (o : Option ℕ). on_found o false (λ i. (region_at c i).rest)) n) ∙ e))
      | inr f ↦
          let H : Highest c.count (λ i. on_line c k i && fired i) f.0 = last_some c.count _ f.0 f.1 in
          let p = both (on_line c k f.0) (fired f.0) H.passes in
          record {
            region = f.0;
            on_line_case = on_test f.0 H.below p.0;
            is_fired = p.1;
            last_fired = λ j o h. H.highest j o.region (and_both (test_on j o) h);
            marked = sym (ap (λ (o : Option ℕ). on_found o false (λ i. (region_at c i).rest)) f.1) ∙ e;
          }
    ]

pub exact : (c : Chart) (fired : ℕ → Bool) → RestsExactly c fired
unfolding rests
exact c fired = (
  λ e k h x. elim (either (not (counts c fired k)) (is_cold c fired k) (all_at c.lines _ e k h)) [
    | inl n ↦ clash (test_counts c k fired x) (not-true (counts c fired k) n)
    | inr y ↦ cold_test c k fired y
  ],
  λ R. all_of c.lines _ (λ k h. elim (split (counts c fired k)) [
    | inl y ↦ or_right (not (counts c fired k)) (test_cold c k fired (R k h (counts_test c k fired y)))
    | inr n ↦ or_left (is_cold c fired k) (ap not n)
  ]),
)
