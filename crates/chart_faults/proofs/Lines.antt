-- The lines of the regions that the commands start. The reader keeps their union. A new region has a line in common
-- with it exactly if a region is directly above, and so exactly if one is above at all: the last step of a chain is a
-- direct one. Assumes nothing.
use mathlib.Core.Path.{◌≡◌, refl, sym, ap, ◌∙◌}
use mathlib.Core.Logic.{◌⊎◌, inl, inr}
use mathlib.Core.Bool.{Bool, true, false, false≢true, cond, ◌&&◌}
use mathlib.Core.List.{List, [], ◌∷◌}
use Prim.Native.Nat.{ℕ, suc, ◌≤◌, ◌<◌}
use native.Mathlib.Omega.{arith}
use native.Mathlib.Decide.{dec_lt}
use borrow.Author.Tests.{eq-eqb, ne_eqb}
use lib.Dec.{eqb}
use Rattle.bitset.specs.Set.{contains, union}
use Rattle.base.proofs.Bools.{and_both, either, or_left, or_right}
use Rattle.bitset.proofs.Laws.{contains_union, contains_empty}
use Rattle.order.specs.Above.{SharedLine, Over, Above, in_main, direct, halves, first, then}
use Rattle.chart_command.specs.declared.Command.{Command}
use Rattle.chart_faults.specs.Commands.{Located, located, begins, count}
use Rattle.chart_faults.specs.Rules.{lines_of, lines_in}

-- a region with the line
pub record Touched (cs : List Located) (i : ℕ) : Type 0 where
  pub number : ℕ
  pub below : number < count begins cs
  pub has : (m : ℕ) → contains (lines_in cs m number) i ≡ true

-- the set has the lines of all regions and no others
pub record AllLines (cs : List Located) (s : ℕ) : Type 0 where
  pub from : (i : ℕ) → contains s i ≡ true → Touched cs i
  pub to : (m a i : ℕ) → a < count begins cs → contains (lines_in cs m a) i ≡ true → contains s i ≡ true

pub no_lines : AllLines [] 0
no_lines =
    record {
      from = λ i e. absurd (false≢true (sym (contains_empty i) ∙ e));
      to = λ m a i h e. absurd (omega arith);
    }

-- the number after the regions is that of the new one
lines_new : (cs : List Located) (m a : ℕ) → count begins cs ≤ a → lines_in cs m a ≡ m
lines_new [] m a h = refl
lines_new (located c o ∷ cs) m a h = by (begins c) h (lines_new cs m a)
  where
    by : (b : Bool) → cond b (suc (count begins cs)) (count begins cs) ≤ a
        → (count begins cs ≤ a → lines_in cs m a ≡ m)
        → cond (b && eqb a (count begins cs)) (lines_of c) (lines_in cs m a) ≡ m
    by true h f =
        ap (λ (b : Bool). cond b (lines_of c) (lines_in cs m a)) (ne_eqb a (count begins cs) (λ e. omega arith))
        ∙ f (omega arith)
    by false h f = f h

module _ (c : Command) (o : ℕ) (cs : List Located) where
  -- a region that was there keeps its lines
  lines_old : (m a : ℕ) → a < count begins cs → lines_in (located c o ∷ cs) m a ≡ lines_in cs m a
  lines_old m a h = by (begins c)
    where
      by : (b : Bool) → cond (b && eqb a (count begins cs)) (lines_of c) (lines_in cs m a) ≡ lines_in cs m a
      by true =
          ap (λ (b : Bool). cond b (lines_of c) (lines_in cs m a)) (ne_eqb a (count begins cs) (λ e. omega arith))
      by false = refl

  touched_old : (i : ℕ) → count begins cs ≤ count begins (located c o ∷ cs) → Touched cs i
      → Touched (located c o ∷ cs) i
  touched_old i h t =
      let k : t.number < count begins cs = t.below in
      record {
        number = t.number;
        below = omega arith;
        has = λ m. ap (λ (x : ℕ). contains x i) (lines_old m t.number k) ∙ t.has m;
      }

  -- a command that starts no region
  pub same_lines : (s : ℕ) → begins c ≡ false → AllLines cs s → AllLines (located c o ∷ cs) s
  same_lines s e x =
      let n : count begins (located c o ∷ cs) ≡ count begins cs = ap
      (λ (b : Bool). cond b (suc (count begins cs)) (count begins cs)) e in
      record {
        from = λ i h. touched_old i (omega arith) (x.from i h);
        to = λ m a i h k.
            let l : a < count begins cs = omega arith in
            x.to m a i l (sym (ap (λ (y : ℕ). contains y i) (lines_old m a l)) ∙ k);
      }

  -- a command that starts one
  module _ (s : ℕ) (e : begins c ≡ true) (x : AllLines cs s) where
    one_more : count begins (located c o ∷ cs) ≡ suc (count begins cs)
    one_more = ap (λ (b : Bool). cond b (suc (count begins cs)) (count begins cs)) e

    lines_own : (m : ℕ) → lines_in (located c o ∷ cs) m (count begins cs) ≡ lines_of c
    lines_own m =
        ap (λ (b : Bool). cond b (lines_of c) (lines_in cs m (count begins cs)))
        (and_both e (eq-eqb (count begins cs) (count begins cs) refl))

    more_from : (i : ℕ) → (contains s i ≡ true) ⊎ (contains (lines_of c) i ≡ true) → Touched (located c o ∷ cs) i
    more_from i (inl h) = let n = one_more in touched_old i (omega arith) (x.from i h)
    more_from i (inr h) =
        let n = one_more in
        record {
          number = count begins cs;
          below = omega arith;
          has = λ m. ap (λ (y : ℕ). contains y i) (lines_own m) ∙ h;
        }

    more_to : (m a i : ℕ) → a ≤ count begins cs → Dec (a < count begins cs)
        → contains (lines_in (located c o ∷ cs) m a) i ≡ true
        → contains (union s (lines_of c)) i ≡ true
    more_to m a i h (yes l) k =
        contains_union s (lines_of c) i
        ∙ or_left _ (x.to m a i l (sym (ap (λ (y : ℕ). contains y i) (lines_old m a l)) ∙ k))
    more_to m a i h (no l) k =
        let n : count begins cs ≡ a = omega arith in
        contains_union s (lines_of c) i
        ∙ or_right (contains s i)
        (ap (λ (y : ℕ). contains y i) (sym (lines_own m) ∙ ap (lines_in (located c o ∷ cs) m) n) ∙ k)

    pub more_lines : AllLines (located c o ∷ cs) (union s (lines_of c))
    more_lines =
        record {
          from = λ i h. more_from i (either _ _ (sym (contains_union s (lines_of c) i) ∙ h));
          to = λ m a i h k. let n = one_more in more_to m a i (omega arith) (dec_lt a (count begins cs)) k;
        }

-- O3: the last step of a chain is a direct one
last_step : {lines : ℕ → ℕ} {p a b : ℕ} → Above lines p a b → (x : ℕ) × Over lines p x b
last_step (first {a = x} e) = (x, e)
last_step (then {b = x} u e) = (x, e)

-- R8: the new region and those before it, in one half
module _ (cs : List Located) (s m : ℕ) (x : AllLines cs s) where
  above_shared : SharedLine m s → (a : ℕ) × Above (lines_in cs m) 0 a (count begins cs)
  above_shared l =
      let t : Touched cs l.line = x.from l.line l.other in
      let own : contains (lines_in cs m (count begins cs)) l.line ≡ true = ap (λ (y : ℕ). contains y l.line)
      (lines_new cs m (count begins cs) (omega arith)) ∙ l.one in (
        t.number,
        first (direct t.below (in_main (omega arith) (omega arith))
            (record { line = l.line; one = t.has m; other = own })),
      )

  over_shared : (a : ℕ) → Over (lines_in cs m) 0 a (count begins cs) → SharedLine m s
  over_shared a (direct h k l) =
      record {
        line = l.line;
        one =
            ap (λ (y : ℕ). contains y l.line) (sym (lines_new cs m (count begins cs) (omega arith))) ∙ l.other;
        other = x.to m a l.line h l.one;
      }
  over_shared a (halves h k) = absurd (omega arith)

  pub none_above : ¬ SharedLine m s → (a : ℕ) → ¬ Above (lines_in cs m) 0 a (count begins cs)
  none_above h a u = let y = last_step u in h (over_shared y.0 y.1)

  pub none_shared : ((a : ℕ) → ¬ Above (lines_in cs m) 0 a (count begins cs)) → ¬ SharedLine m s
  none_shared h l = let y = above_shared l in h y.0 y.1
