-- Tests taken apart and put together. Assumes nothing.
use mathlib.Core.Path.{◌≡◌, refl, sym, ap, ◌∙◌}
use mathlib.Core.Logic.{◌⊎◌, inl, inr}
use mathlib.Core.Bool.{Bool, true, false, true≢false, false≢true, ◌&&◌, ◌||◌}

pub both : (x y : Bool) → (x && y) ≡ true → (x ≡ true) × (y ≡ true)
both true y e = (refl, e)
both false y e = absurd (false≢true e)

pub and_left : (x y : Bool) → (x && y) ≡ true → x ≡ true
and_left x y e = (both x y e).0

pub and_right : (x y : Bool) → (x && y) ≡ true → y ≡ true
and_right x y e = (both x y e).1

pub and_both : {x y : Bool} → x ≡ true → y ≡ true → (x && y) ≡ true
and_both e f = cc

pub either : (x y : Bool) → (x || y) ≡ true → (x ≡ true) ⊎ (y ≡ true)
either true y e = inl refl
either false y e = inr e

pub or_left : {x : Bool} (y : Bool) → x ≡ true → (x || y) ≡ true
or_left y e = ap (λ (b : Bool). b || y) e

pub or_right : (x : Bool) {y : Bool} → y ≡ true → (x || y) ≡ true
or_right true e = refl
or_right false e = e

pub neither : (x y : Bool) → (x || y) ≡ false → (x ≡ false) × (y ≡ false)
neither true y e = absurd (true≢false e)
neither false y e = (refl, e)

pub or_neither : {x y : Bool} → x ≡ false → y ≡ false → (x || y) ≡ false
or_neither e f = cc

pub split : (b : Bool) → (b ≡ true) ⊎ (b ≡ false)
split true = inl refl
split false = inr refl

-- both values at once
pub clash : {X : Type 0} {b : Bool} → b ≡ true → b ≡ false → X
clash p q = absurd (true≢false (sym p ∙ q))
