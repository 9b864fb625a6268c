-- The slots are filled region by region. Assumes nothing.
use mathlib.Core.Path.{◌≡◌, refl, sym, ap, ◌∙◌}
use mathlib.Core.Bool.{So}
use mathlib.Core.Logic.{inl, inr}
use mathlib.Core.List.{List}
use Prim.Native.Nat.{ℕ, ◌+◌, ◌<◌}
use native.Mathlib.Omega.{arith}
use native.Mathlib.Decide.{ℕ_discrete}
use borrow.Author.Tests.{eq-eqb, eqb-true}
use lib.Arith.{lt_of_le-ne}
use lib.Dec.{eqb}
use lib.ListN.{length, get_or, set}
use lib.Seq.{get_or-set_same, get_or-set_other}
use Rattle.bitset.specs.Set.{contains, inserted}
use Rattle.bitset.proofs.Laws.{contains_empty, contains_inserted}
use Rattle.base.proofs.Bools.{or_left, or_right, clash, either}
use Rattle.plan.specs.Slots.{slot_of, Slotted}

pub slotted_none : {keys slots : List ℕ} → ((k : ℕ) → get_or slots k 0 ≡ 0) → Slotted 0 keys slots
slotted_none e =
    record {
      has = λ i h. absurd (omega arith);
      own = λ i k m. clash m (ap (λ (s : ℕ). contains s i) (e k) ∙ contains_empty i);
    }

module _ {i : ℕ} {keys slots : List ℕ} (S : Slotted i keys slots) (k : ℕ) (room : k < length slots)
    (slot : k ≡ slot_of (get_or keys i 0)) where
  -- what a slot had it still has, and the new region
  old : (j : ℕ) → j < i → Dec (slot_of (get_or keys j 0) ≡ k)
      → So (contains (get_or (set slots k (inserted (get_or slots k 0) i)) (slot_of (get_or keys j 0)) 0) j)
  old j h (yes q) =
      ap (λ (n : ℕ). contains (get_or (set slots k (inserted (get_or slots k 0) i)) n 0) j) q
      ∙ ap (λ (s : ℕ). contains s j) (get_or-set_same slots k (inserted (get_or slots k 0) i) 0 room)
      ∙ contains_inserted (get_or slots k 0) i j
      ∙ or_left (eqb j i) (ap (λ (n : ℕ). contains (get_or slots n 0) j) (sym q) ∙ S.has j h)
  old j h (no q) =
      ap (λ (s : ℕ). contains s j) (get_or-set_other slots k (slot_of (get_or keys j 0)) (inserted (get_or slots k 0) i) 0 q)
      ∙ S.has j h

  new : So (contains (get_or (set slots k (inserted (get_or slots k 0) i)) (slot_of (get_or keys i 0)) 0) i)
  new =
      ap (λ (n : ℕ). contains (get_or (set slots k (inserted (get_or slots k 0) i)) n 0) i) (sym slot)
      ∙ ap (λ (s : ℕ). contains s i) (get_or-set_same slots k (inserted (get_or slots k 0) i) 0 room)
      ∙ contains_inserted (get_or slots k 0) i i
      ∙ or_right (contains (get_or slots k 0) i) (eq-eqb i i refl)

  -- no slot has a region from i + 1 on
  own : (j n : ℕ) → So (contains (get_or (set slots k (inserted (get_or slots k 0) i)) n 0) j) → j < i + 1
  own j n m = elim (ℕ_discrete n k) [
    | yes q ↦
        let s : So (contains (inserted (get_or slots k 0) i) j) = rw q
        (ap (λ (x : ℕ). contains x j) (sym (get_or-set_same slots k (inserted (get_or slots k 0) i) 0 room))) ∙ m in
        elim (either (contains (get_or slots k 0) j) (eqb j i) (sym (contains_inserted (get_or slots k 0) i j) ∙ s)) [
          | inl f ↦ omega (arith, S.own j k f)
          | inr e ↦ let z : j ≡ i = eqb-true j i e in omega arith
        ]
    | no q ↦ omega (
      arith,
      S.own j n
          (ap (λ (x : ℕ). contains x j) (sym (get_or-set_other slots k n (inserted (get_or slots k 0) i) 0 q)) ∙ m),
    )
  ]

  pub slotted_next : (s : ℕ) → s ≡ inserted (get_or slots k 0) i → Slotted (i + 1) keys (set slots k s)
  slotted_next s e = rw e (record { has = λ j h. by j h (ℕ_discrete j i); own = own })
    where
      by : (j : ℕ) → j < i + 1 → Dec (j ≡ i) → So
          (contains (get_or (set slots k (inserted (get_or slots k 0) i)) (slot_of (get_or keys j 0)) 0) j)
      by j h (yes q) = rw q new
      by j h (no q) = old j (lt_of_le-ne (omega arith) q) (ℕ_discrete (slot_of (get_or keys j 0)) k)
