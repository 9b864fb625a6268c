-- What a loop fills from the front: an array, or anything that has a value at each number. Assumes nothing.
use mathlib.Core.Path.{◌≡◌, sym, ap, ◌∙◌}
use mathlib.Core.Bool.{Bool, cond}
use mathlib.Core.List.{List}
use Prim.Native.Nat.{ℕ, ◌+◌, ◌≤◌, ◌<◌}
use native.Mathlib.Omega.{arith}
use native.Mathlib.Decide.{dec_lt, ℕ_discrete}
use borrow.Author.Tests.{lt-ltb, le-ltb}
use lib.Dec.{ltb}
use lib.ListN.{length, get_or, set, replicate, get_or-replicate, length-replicate, get_or-eq_default}
use lib.Seq.{get_or-set_same, get_or-set_other, ext_get_or}
use Rattle.base.specs.Table.{table}
use Rattle.base.proofs.Table.{length_table, get_d_table}

module _ {A : Type 0} where
  -- one value more: as before at every other number
  pub front_next : (d : A) (f : ℕ → A) (k : ℕ) (g h : ℕ → A) → ((y : ℕ) → g y ≡ cond (ltb y k) (f y) d) → h k ≡ f k
      → ((y : ℕ) → ¬ (y ≡ k) → h y ≡ g y) → (y : ℕ) → h y ≡ cond (ltb y (k + 1)) (f y) d
  front_next d f k g h F new old y = elim (ℕ_discrete y k) [
    | yes q ↦ rw (q, lt-ltb k (k + 1) (omega arith)) new
    | no q ↦ old y q ∙ F y ∙ ap (λ (b : Bool). cond b (f y) d) (same q)
  ]
    where
      same : ¬ (y ≡ k) → ltb y k ≡ ltb y (k + 1)
      same q = elim (dec_lt y k) [
        | yes l ↦ rw (lt-ltb y k l, lt-ltb y (k + 1) (omega arith))
        | no l ↦ let m : k ≤ y = omega arith in let n : k + 1 ≤ y = omega (arith, q) in
            rw (le-ltb y k m, le-ltb y (k + 1) n)
      ]

  -- an array of one value
  pub unfilled : (d : A) (n y : ℕ) → get_or (replicate n d) y d ≡ d
  unfilled d n y = elim (dec_lt y n) [
    | yes l ↦ get_or-replicate n y d d l
    | no l ↦ get_or-eq_default (replicate n d) d (rw (length-replicate {A = A} n d) (omega arith))
  ]

  -- f below k, and d from there on
  pub record Filled (d : A) (f : ℕ → A) (k : ℕ) (out : List A) : Type 0 where
    pub is : (y : ℕ) → get_or out y d ≡ cond (ltb y k) (f y) d

  pub filled_none : {d : A} {f : ℕ → A} (n : ℕ) → Filled d f 0 (replicate n d)
  filled_none {d} n = record { is = λ y. rw (le-ltb y 0 (omega arith)) (unfilled d n y) }

  pub filled_next : {d : A} {f : ℕ → A} {k : ℕ} {out : List A} (v : A) → Filled d f k out → k < length out → v ≡ f k
      → Filled d f (k + 1) (set out k v)
  filled_next {d} {f} {k} {out} v F l e =
      record {
        is = front_next d f k (λ y. get_or out y d) (λ y. get_or (set out k v) y d) F.is (get_or-set_same out k v d l ∙ e)
            (λ y q. get_or-set_other out k y v d q);
      }

  pub filled_below : {d : A} {f : ℕ → A} {k : ℕ} {out : List A} → Filled d f k out → (y : ℕ) → y < k
      → get_or out y d ≡ f y
  filled_below {d} {f} {k} F y h = F.is y ∙ ap (λ (b : Bool). cond b (f y) d) (lt-ltb y k h)

  pub filled_beyond : {d : A} {f : ℕ → A} {k : ℕ} {out : List A} → Filled d f k out → (y : ℕ) → k ≤ y → get_or out y d ≡ d
  filled_beyond {d} {f} {k} F y h = F.is y ∙ ap (λ (b : Bool). cond b (f y) d) (le-ltb y k h)

  pub filled_whole : {d : A} {f : ℕ → A} {k : ℕ} {out : List A} → Filled d f k out → length out ≡ k → out ≡ table k f
  filled_whole {d} {f} {k} {out} F e =
      ext_get_or d out (table k f) (e ∙ sym (length_table k f))
      (λ y h. filled_below F y (omega arith) ∙ sym (get_d_table k y f d (omega arith)))
