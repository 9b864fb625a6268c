-- The sets of regions hold exactly the regions above. Assumes nothing.
use mathlib.Core.Path.{◌≡◌, refl, sym, ap, subst, ◌∙◌}
use mathlib.Core.Logic.{◌⊎◌, inl, inr, ◌↔◌}
use native.Mathlib.Decide.{ℕ_discrete}
use lib.Arith.{lt_of_le-ne}
use mathlib.Core.Bool.{Bool, true, false, false≢true, cond, not, ◌&&◌, ◌||◌}
use mathlib.Core.List.{List}
use Prim.Native.Nat.{ℕ, zero, suc, min, ◌≤◌, ◌<◌}
use native.Mathlib.Omega.{arith}
use native.Mathlib.Numerals.{add-one}
use borrow.Author.Tests.{lt-ltb, le-leb, ltb-true, leb-true, eqb-true, eqb-false, eq-eqb, ne_eqb, not-true}
use lib.Dec.{eqb, leb, ltb}
use lib.Bits.{bit_and}
use lib.ListN.{length, get_or, set, length-set}
use Rattle.bitset.specs.Set.{contains, inserted, union}
use Rattle.base.proofs.Filled.{Filled, filled_none, filled_next, filled_below, filled_beyond}
use Rattle.base.proofs.Bools.{both, and_both, either, or_left, or_right}
use Rattle.bitset.proofs.Laws.{contains_union, contains_inserted, contains_empty, contains_and, some_member}
use Rattle.model.specs.declared.Chart.{Chart}
use Rattle.model.specs.Chart.{most_regions, touched_at}
use Rattle.order.specs.Order.{is_over, gathered, above_sets, above_of, Decides}
use Rattle.order.specs.Above.{SharedLine, SameHalf, Over, Above, in_prechart, in_main, direct, halves, first, then}

-- a common line is a common member
pub shared : (s t : ℕ) → not (eqb (bit_and s t) 0) ≡ true → SharedLine s t
shared s t e =
    let m = some_member (bit_and s t) (λ z. eqb-false _ _ (not-true _ e) z) in
    let b = both (contains s m.0) (contains t m.0) (sym (contains_and s t m.0) ∙ m.1) in
    record { line = m.0; one = b.0; other = b.1 }

pub not_empty_lem : (s t : ℕ) → SharedLine s t → not (eqb (bit_and s t) 0) ≡ true
not_empty_lem s t l =
    ap not
    (ne_eqb _ _
    (λ z. false≢true
    (sym (contains_empty l.line) ∙ ap (λ (x : ℕ). contains x l.line) (sym z) ∙ contains_and s t l.line
    ∙ and_both l.one l.other)))

module _ (lines : ℕ → ℕ) (p : ℕ) where
  -- the test is the relation
  over : (a b : ℕ) → is_over lines p a b ≡ true → Over lines p a b
  unfolding is_over
  over a b e = by (either _ _ e)
    where
      same_half : (ltb b p ≡ true) ⊎ (leb p a ≡ true) → a < b → SameHalf lines p a b
      same_half (inl h) l = let k = ltb-true b p h in in_prechart (omega arith) k
      same_half (inr h) l = let k = leb-true p a h in in_main k (omega arith)

      by : ((ltb a p && leb p b) ≡ true)
          ⊎ ((ltb a b && ((ltb b p || leb p a) && not (eqb (bit_and (lines a) (lines b)) 0))) ≡ true) → Over lines p a b
      by (inl h) = let k = both (ltb a p) (leb p b) h in halves (ltb-true a p k.0) (leb-true p b k.1)
      by (inr h) =
          let k = both (ltb a b) _ h in
          let m = both (ltb b p || leb p a) _ k.1 in
          let l = ltb-true a b k.0 in
          direct l (same_half (either (ltb b p) (leb p a) m.0) l) (shared _ _ m.1)

  is_over_lem : (a b : ℕ) → Over lines p a b → is_over lines p a b ≡ true
  unfolding is_over
  is_over_lem a b (halves h k) = or_left _ (and_both (lt-ltb a p h) (le-leb p b k))
  is_over_lem a b (direct h (in_prechart k m) l) =
      or_right (ltb a p && leb p b)
      (and_both (lt-ltb a b h) (and_both (or_left (leb p a) (lt-ltb b p m)) (not_empty_lem _ _ l)))
  is_over_lem a b (direct h (in_main k m) l) =
      or_right (ltb a p && leb p b)
      (and_both (lt-ltb a b h) (and_both (or_right (ltb b p) (le-leb p a k)) (not_empty_lem _ _ l)))

  over_lt : {a b : ℕ} → Over lines p a b → a < b
  over_lt (direct h k l) = h
  over_lt (halves h k) = omega arith

  -- what a set holds: each region over b, and what stands in that region's set
  pub record Source (above : List ℕ) (n b x : ℕ) : Type 0 where
    pub at : ℕ
    pub below : at < n
    pub stands : is_over lines p at b ≡ true
    pub holds : (x ≡ at) ⊎ (contains (get_or above at 0) x ≡ true)

  later : {above : List ℕ} {n b x : ℕ} → Source above n b x → Source above (suc n) b x
  later s = record { at = s.at; below = omega arith; stands = s.stands; holds = s.holds }

  gathered_from : (above : List ℕ) (n b x : ℕ) → contains (gathered lines p above n b) x ≡ true → Source above n b x
  unfolding gathered
  gathered_from above zero b x e = absurd (false≢true (sym (contains_empty x) ∙ e))
  gathered_from above (suc a) b x e = by (is_over lines p a b) refl e (gathered_from above a b x)
    where
      by : (t : Bool) → is_over lines p a b ≡ t
          → contains
          (cond t (union (inserted (gathered lines p above a b) a) (get_or above a 0))
          (gathered lines p above a b)) x ≡ true
          → (contains (gathered lines p above a b) x ≡ true → Source above a b x) → Source above (suc a) b x
      by false o e r = later (r e)
      by true o e r = pick (either _ _ (sym (contains_union _ _ x) ∙ e))
        where
          own : (contains (gathered lines p above a b) x ≡ true) ⊎ (eqb x a ≡ true) → Source above (suc a) b x
          own (inl h) = later (r h)
          own (inr h) = record { at = a; below = omega arith; stands = o; holds = inl (eqb-true x a h) }

          pick : (contains (inserted (gathered lines p above a b) a) x ≡ true) ⊎ (contains (get_or above a 0) x ≡ true)
              → Source above (suc a) b x
          pick (inl h) = own (either _ _ (sym (contains_inserted _ a x) ∙ h))
          pick (inr h) = record { at = a; below = omega arith; stands = o; holds = inr h }

  gathered_to : (above : List ℕ) (n b x : ℕ) → Source above n b x → contains (gathered lines p above n b) x ≡ true
  unfolding gathered
  gathered_to above zero b x s = absurd (omega (arith, s.below))
  gathered_to above (suc n) b x s = by (ℕ_discrete s.at n) (is_over lines p n b) refl (gathered_to above n b x)
    where
      new : (x ≡ n) ⊎ (contains (get_or above n 0) x ≡ true)
          → contains (union (inserted (gathered lines p above n b) n) (get_or above n 0)) x ≡ true
      new (inl h) =
          contains_union _ _ x ∙ or_left _
          (contains_inserted _ n x ∙ or_right (contains (gathered lines p above n b) x) (eq-eqb x n h))
      new (inr h) = contains_union _ _ x ∙ or_right (contains (inserted (gathered lines p above n b) n) x) h

      old : contains (gathered lines p above n b) x ≡ true
          → contains (union (inserted (gathered lines p above n b) n) (get_or above n 0)) x ≡ true
      old h = contains_union _ _ x ∙ or_left _ (contains_inserted _ n x ∙ or_left (eqb x n) h)

      by : Dec (s.at ≡ n) → (t : Bool) → is_over lines p n b ≡ t
          → (Source above n b x → contains (gathered lines p above n b) x ≡ true)
          → contains
          (cond t (union (inserted (gathered lines p above n b) n) (get_or above n 0))
          (gathered lines p above n b)) x ≡ true
      by (yes e) true o r = new (rw e at s.holds)
      by (yes e) false o r = absurd (false≢true (sym o ∙ (rw e at s.stands)))
      by (no e) true o r =
          old (r (record {
            at = s.at;
            below = lt_of_le-ne (omega (arith, s.below)) e;
            stands = s.stands;
            holds = s.holds;
          }))
      by (no e) false o r =
          r (record {
            at = s.at;
            below = lt_of_le-ne (omega (arith, s.below)) e;
            stands = s.stands;
            holds = s.holds;
          })

  length_sets : (n : ℕ) → length (above_sets lines p n) ≡ 32
  unfolding above_sets
  length_sets zero = refl
  length_sets (suc n) = simp length-set (length_sets n)

  -- the set of a region, once it is computed, stays
  own : ℕ → ℕ
  own b = gathered lines p (above_sets lines p b) b b

  filled : (n : ℕ) → n ≤ 32 → Filled 0 own n (above_sets lines p n)
  unfolding above_sets own
  filled zero h = filled_none most_regions
  filled (suc n) h =
      subst (λ (k : ℕ). Filled 0 own k (above_sets lines p (suc n))) (add-one n)
      (filled_next (own n) (filled n (omega arith)) (omega (arith, length_sets n)) refl)

  stable : (n b : ℕ) → b < n → n ≤ 32 → get_or (above_sets lines p n) b 0 ≡ own b
  stable n b h k = filled_below (filled n k) b h

  sound : (k b x : ℕ) → b < k → k ≤ 32 → contains (own b) x ≡ true → Above lines p x b
  unfolding own
  sound zero b x h m e = absurd (omega arith)
  sound (suc k) b x h m e = by (gathered_from _ b b x e) (λ a. sound k a x)
    where
      at : (s : Source (above_sets lines p b) b b x) → (x ≡ s.at)
          ⊎ (contains (get_or (above_sets lines p b) s.at 0) x ≡ true)
          → ((a : ℕ) → a < k → k ≤ 32 → contains (own a) x ≡ true → Above lines p x a) → Above lines p x b
      at s (inl e) r = rw e (first (over s.at b s.stands))
      at s (inr e) r =
          then (r s.at (omega (arith, s.below)) (omega arith) (rw (stable b s.at s.below (omega arith)) at e))
          (over s.at b s.stands)

      by : Source (above_sets lines p b) b b x →
          ((a : ℕ) → a < k → k ≤ 32 → contains (own a) x ≡ true → Above lines p x a)
          → Above lines p x b
      by s r = at s s.holds r

  complete : {x b : ℕ} → Above lines p x b → b < 32 → contains (own b) x ≡ true
  unfolding own
  complete {x} {b} (first o) h =
      gathered_to _ b b x (record { at = x; below = over_lt o; stands = is_over_lem x b o; holds = inl refl })
  complete {x} {b} (then {b = a} q o) h =
      let l = over_lt o in
      gathered_to _ b b x
      (record {
        at = a;
        below = l;
        stands = is_over_lem a b o;
        holds = inr (rw (stable b a l (omega arith)) (complete q (omega arith)));
      })

  -- the set of a region holds exactly those above it
  pub above_sets_lem : (n b x : ℕ) → b < n → n ≤ 32
      → (contains (get_or (above_sets lines p n) b 0) x ≡ true) ↔ Above lines p x b
  above_sets_lem n b x h k =
      (λ e. sound n b x h k (rw (stable n b h k) at e), λ a. rw (stable n b h k) (complete a (omega arith)))

-- sets of regions depend on the lines below the number of regions only
module _ (f g : ℕ → ℕ) (p k : ℕ) (same : (i : ℕ) → i < k → f i ≡ g i) where
  same_over : (a b : ℕ) → a < k → b < k → is_over f p a b ≡ is_over g p a b
  unfolding is_over
  same_over a b h l =
      λ i. ltb a p && leb p b || ltb a b && ((ltb b p || leb p a) && not (eqb (bit_and (same a h i) (same b l i)) 0))

  same_gathered : (above : List ℕ) (n b : ℕ) → n ≤ k → b < k → gathered f p above n b ≡ gathered g p above n b
  unfolding gathered
  same_gathered above zero b h l = refl
  same_gathered above (suc a) b h l =
      λ i. cond (same_over a b (omega arith) l i)
      (union (inserted (same_gathered above a b (omega arith) l i) a) (get_or above a 0))
      (same_gathered above a b (omega arith) l i)

  pub same_sets : (n : ℕ) → n ≤ k → above_sets f p n ≡ above_sets g p n
  unfolding above_sets
  same_sets zero h = refl
  same_sets (suc b) h =
      let r = same_sets b (omega arith) in
      λ i. set (r i) b
      ((ap (λ (l : List ℕ). gathered f p l b b) r ∙ same_gathered (above_sets g p b) b b (omega arith) (omega arith)) i)

-- beyond the chart the sets are empty
pub sets_beyond : (c : Chart) (b : ℕ) → c.count ≤ b → get_or (above_of c) b 0 ≡ 0
sets_beyond c b h =
    filled_beyond (filled (touched_at c) c.prechart (min c.count most_regions) (omega arith)) b (omega arith)

-- what `above_sets` promises, from the sets alone
pub decides : (c : Chart) → Decides c (above_of c)
decides c =
    record {
      members = λ a b h l. above_sets_lem (touched_at c) c.prechart (min c.count most_regions) b a (omega arith)
          (omega arith);
    }

pub sets_decide : (c : Chart) (r : List ℕ) → r ≡ above_of c → (r ≡ above_of c) × Decides c r
sets_decide c r e = (e, subst (λ (l : List ℕ). Decides c l) (sym e) (decides c))
