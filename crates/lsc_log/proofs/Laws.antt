-- What a call returns and writes, by its tests in their order; and that what is lent fixes it. Assumes nothing.
use mathlib.Core.Path.{◌≡◌, refl, sym, ap, subst, ◌∙◌}
use mathlib.Core.Bool.{true, false, cond}
use mathlib.Core.Logic.{◌≢◌}
use mathlib.Core.List.{List}
use Prim.Native.Nat.{ℕ, ◌≤◌, ◌<◌}
use borrow.Author.Tests.{eq-eqb, ne_eqb, le-leb, lt-leb}
use lib.Dec.{eqb, leb}
use lib.ListN.{get_or}
use Rattle.base.proofs.Bools.{clash}
use Rattle.wire.specs.Bytes.{word32}
use Rattle.wire.specs.Writing.{starting_with}
use Rattle.log_clock.specs.declared.Kind.{Kind}
use Rattle.log_clock.specs.declared.Kind.TheVariants.{Unset, Plain, Raw}
use Rattle.feed_log.specs.declared.LogFed.{LogFed}
use Rattle.feed_log.specs.Feeds.{number_of, FedLog}
use Rattle.feed_log.proofs.Only.{feeds_tell}
use Rattle.lsc_log.specs.Log.{is_kind, kind_of, kind_bytes, is_short, kind_after, numbers_after}
use Rattle.lsc_log.specs.Log.{CallsLog, too_few, no_kind, called, CallsTell}

-- the kind, by its byte
module _ (s : List ℕ) (b : ℕ) (q : b ≡ get_or s 0 0) where
  pub kind_unset : b ≡ 0 → Unset ≡ kind_of s
  kind_unset e = rw (eq-eqb (get_or s 0 0) 0 (sym q ∙ e))

  pub kind_plain : b ≢ 0 → b ≡ 1 → Plain ≡ kind_of s
  kind_plain n e = rw (ne_eqb (get_or s 0 0) 0 (λ z. n (q ∙ z)), eq-eqb (get_or s 0 0) 1 (sym q ∙ e))

  pub kind_raw : b ≢ 0 → b ≢ 1 → (w : ℕ) → w ≡ word32 s 1 → Raw (record { 0 = w }) ≡ kind_of s
  kind_raw n m w e =
      rw (ne_eqb (get_or s 0 0) 0 (λ z. n (q ∙ z)), ne_eqb (get_or s 0 0) 1 (λ z. m (q ∙ z)))
      (ap (λ (x : ℕ). Raw (record { 0 = x })) e)

  pub kind_there : b ≤ 2 → is_kind s ≡ true
  kind_there h = ap (λ (x : ℕ). leb x 2) (sym q) ∙ le-leb b 2 h

  pub no_kind_there : 2 < b → is_kind s ≡ false
  no_kind_there h = ap (λ (x : ℕ). leb x 2) (sym q) ∙ lt-leb b 2 h

-- the kind after a call
pub kind_same : (taken : ℕ) (k : Kind) (l : List ℕ) → taken ≡ 0
    → l ≡ cond (eqb taken 0) l (starting_with (kind_bytes k) l)
kind_same taken k l z = rw (eq-eqb taken 0 z)

pub kind_new : (taken : ℕ) (k : Kind) (l n : List ℕ) → taken ≢ 0 → n ≡ starting_with (kind_bytes k) l
    → n ≡ cond (eqb taken 0) l (starting_with (kind_bytes k) l)
kind_new taken k l n z e = rw (ne_eqb taken 0 z) e

-- the call itself
pub said : (live kind log out : List ℕ) → is_short kind out ≡ false → is_kind kind ≡ true → {k : Kind} → k ≡ kind_of kind
    → {r : LogFed} {n : List ℕ} → FedLog live k log r n → {x : ℕ} {j u : List ℕ} → x ≡ number_of r.stop
    → j ≡ kind_after r kind → u ≡ numbers_after r out → CallsLog live kind log out x n j u
said live kind log out z t {k} e {r} {n} F {x} {j} {u} p q w =
    subst (λ (y : ℕ). CallsLog live kind log out y n j u) (sym p)
    (subst (λ (y : List ℕ). CallsLog live kind log out (number_of r.stop) n y u) (sym q)
    (subst (λ (y : List ℕ). CallsLog live kind log out (number_of r.stop) n (kind_after r kind) y) (sym w)
    (called z t (subst (λ (y : Kind). FedLog live y log r n) e F))))

-- one call has one result
pub calls_tell : CallsTell
calls_tell = record { tell = λ p q. tells p q }
  where
    tells : {live kind log out : List ℕ} {x y : ℕ} {l k o m j u : List ℕ} → CallsLog live kind log out x l k o
        → CallsLog live kind log out y m j u → (x ≡ y) × (l ≡ m) × (k ≡ j) × (o ≡ u)
    tells (too_few s) (too_few t) = (refl, refl, refl, refl)
    tells (too_few s) (no_kind t n) = clash s t
    tells (too_few s) (called t n F) = clash s t
    tells (no_kind s n) (too_few t) = clash t s
    tells (no_kind s n) (no_kind t m) = (refl, refl, refl, refl)
    tells (no_kind s n) (called t m F) = clash m n
    tells (called s n F) (too_few t) = clash t s
    tells (called s n F) (no_kind t m) = clash n m
    tells {kind = kind} {out = out} (called s n F) (called t m G) =
        let e = feeds_tell.tell F G in (
          ap (λ (r : LogFed). number_of r.stop) e.0,
          e.1,
          ap (λ (r : LogFed). kind_after r kind) e.0,
          ap (λ (r : LogFed). numbers_after r out) e.0,
        )
