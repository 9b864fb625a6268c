-- The sets of lines, region after region. Assumes nothing.
use mathlib.Core.Path.{◌≡◌, refl, sym, ap, subst, subst₂, ◌∙◌}
use mathlib.Core.Bool.{Bool, true, false, cond, not, ◌&&◌, ◌||◌}
use mathlib.Core.Option.{Option, some}
use Prim.Native.Nat.{ℕ, ◌+◌, ◌≤◌, ◌<◌}
use native.Mathlib.Numerals.{add-one}
use native.Mathlib.Omega.{arith}
use borrow.Author.Tests.{lt-leb, le-leb}
use lib.Bits.{bit_and}
use Rattle.bitset.specs.Set.{contains, union}
use Rattle.bitset.proofs.Laws.{contains_empty, contains_union, contains_and}
use Rattle.base.specs.Lists.{some_below, last, on_found}
use Rattle.base.proofs.Facts.{last_is_none, all_same}
use Rattle.base.proofs.Loops.{none_some, AllSoFar, all_below_lem}
use Rattle.model.specs.declared.Chart.{Chart}
use Rattle.model.specs.Chart.{most_lines, region_at, touches}
use Rattle.resting.specs.Rest.{on_line, rests}
use Rattle.resting.specs.Lines.{LinesBelow, OneMore}
use Rattle.resting.specs.declared.Lines.{Lines}

and_yes : (b : Bool) → (b && true) ≡ b
and_yes true = refl
and_yes false = refl

and_no : (b : Bool) → (b && false) ≡ false
and_no true = refl
and_no false = refl

or_no : (b : Bool) → (b || false) ≡ b
or_no true = refl
or_no false = refl

-- what counts stays as it was with a fired region
same_counting : (l : Lines) (t k : ℕ)
    → contains l.counting k ≡ (contains l.counting k || (contains t k && not true))
same_counting l t k =
    sym (ap (λ (b : Bool). contains l.counting k || b) (and_no (contains t k)) ∙ or_no (contains l.counting k))

-- where a region touches: unfired it makes a line count, fired it decides by its mark whether the line is cold
module _ (l : Lines) (t : ℕ) where
  pub unfired : (f m : Bool) (s : ℕ) → f ≡ false → s ≡ union l.counting t
      → OneMore l t f m (record { counting = s; cold = l.cold })
  unfired f m s q e = subst (λ (f : Bool). OneMore l t f m (record { counting = s; cold = l.cold })) (sym q)
      (record {
        counting = λ k h.
            ap (λ (x : ℕ). contains x k) e ∙ contains_union l.counting t k
            ∙ ap (λ (b : Bool). contains l.counting k || b) (sym (and_yes (contains t k)));
        cold = λ k h. ap (λ (b : Bool). cond b m (contains l.cold k)) (sym (and_no (contains t k)));
      })

  module _ (f m : Bool) (q : f ≡ true) where
    pub fired_cold : (s : ℕ) → m ≡ true → s ≡ union l.cold t
        → OneMore l t f m (record { counting = l.counting; cold = s })
    fired_cold s p e = subst₂ (λ (f m : Bool). OneMore l t f m (record { counting = l.counting; cold = s }))
        (sym q) (sym p)
        (record {
          counting = λ k h. same_counting l t k;
          cold = λ k h.
              ap (λ (x : ℕ). contains x k) e ∙ contains_union l.cold t k ∙ by (contains l.cold k) (contains t k);
        })
      where
        by : (x y : Bool) → (x || y) ≡ cond (y && true) true x
        by true true = refl
        by true false = refl
        by false true = refl
        by false false = refl

    pub fired_hot : (o : ℕ) → m ≡ false → ((k : ℕ) → k < 32 → contains o k ≡ not (contains t k))
        → OneMore l t f m (record { counting = l.counting; cold = bit_and l.cold o })
    fired_hot o p e =
        subst₂ (λ (f m : Bool). OneMore l t f m (record { counting = l.counting; cold = bit_and l.cold o }))
        (sym q) (sym p)
        (record {
          counting = λ k h. same_counting l t k;
          cold = λ k h.
              contains_and l.cold o k ∙ ap (λ (b : Bool). contains l.cold k && b) (e k (omega arith))
              ∙ by (contains l.cold k) (contains t k);
        })
      where
        by : (x y : Bool) → (x && not y) ≡ cond (y && true) false x
        by true true = refl
        by true false = refl
        by false true = refl
        by false false = refl

module _ (c : Chart) (fired : ℕ → Bool) where
  -- the prechart has no region that counts
  early : (k j : ℕ) (b : Bool) → j < c.prechart → (on_line c k j && b) ≡ false
  early k j b h = ap (λ (x : Bool). x && touches (region_at c j).event k && b) (lt-leb c.prechart j h)

  pub before_main : LinesBelow c fired c.prechart (record { counting = 0; cold = 0 })
  before_main = record {
    counting = λ k h.
        contains_empty k ∙ sym (none_some c.prechart (record { is = λ j l. early k j (not (fired j)) l }));
    cold = λ k h.
        contains_empty k
        ∙ sym (ap (λ (o : Option ℕ). on_found o false (λ i. (region_at c i).rest))
        (last_is_none c.prechart _ (λ j l. early k j (fired j) l)));
  }

  -- one region of the main chart more
  module _ (n : ℕ) (main : c.prechart ≤ n) (t : ℕ)
      (touched : (k : ℕ) → k < most_lines → contains t k ≡ touches (region_at c n).event k) where
    on : (k : ℕ) → k < most_lines → contains t k ≡ on_line c k n
    on k h = touched k h
        ∙ ap (λ (b : Bool). b && touches (region_at c n).event k) (sym (le-leb c.prechart n main))

    pub next_lines : (l r : Lines) → LinesBelow c fired n l → OneMore l t (fired n) (region_at c n).rest r
        → LinesBelow c fired (n + 1) r
    next_lines l r L M = record {
      counting = λ k h.
          M.counting k h ∙ (λ x. L.counting k h x || (on k h x && not (fired n)))
          ∙ ap (λ (m : ℕ). some_below m (λ i. on_line c k i && not (fired i))) (sym (add-one n));
      cold = λ k h.
          M.cold k h ∙ (λ x. cond (on k h x && fired n) (region_at c n).rest (L.cold k h x))
          ∙ sym (last_found (on_line c k n && fired n) (last n (λ i. on_line c k i && fired i)))
          ∙ ap (λ (m : ℕ). on_found (last m (λ i. on_line c k i && fired i)) false (λ i. (region_at c i).rest))
          (sym (add-one n));
    }
      where
        last_found : (b : Bool) (o : Option ℕ) → on_found (cond b (some n) o) false (λ i. (region_at c i).rest)
            ≡ cond b (region_at c n).rest (on_found o false (λ i. (region_at c i).rest))
        last_found true o = refl
        last_found false o = refl

-- each line below the chart's number of lines asked of the sets
pub lines_asked : (c : Chart) (fired : ℕ → Bool) (l : Lines) → c.lines ≤ most_lines → LinesBelow c fired c.count l
    → {n : ℕ} {b : Bool} → AllSoFar (λ k. not (contains l.counting k) || contains l.cold k) n b → n ≡ c.lines
    → b ≡ rests c fired
unfolding rests
lines_asked c fired l h L A e =
    all_below_lem c.lines A e
    ∙ all_same c.lines _ _ (λ k q. λ x. not (L.counting k (omega arith) x) || L.cold k (omega arith) x)
