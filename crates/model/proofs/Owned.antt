-- What owning an array says of each of its elements. Assumes nothing.
use mathlib.Core.List.{List, [], ◌∷◌}
use Prim.Native.Nat.{ℕ, zero, suc, ◌<◌}
use native.Mathlib.Omega.{arith}
use lib.ListN.{length, get_or}
use mir.Val.{Val}
use base.Fml.{Fml}
use denote.Shadow.{shadow}
use denote.Array.{each}

pub each_at : (d : Type 0) (f : d → List Val → Fml) (xs : List d) (us : List Val) (i : ℕ) (z : d)
    → shadow (each d f xs us)
    → i < length xs → (u : Val) × shadow (f (get_or xs i z) (u ∷ []))
each_at d f [] [] i z s h = absurd (omega arith)
each_at d f [] (u ∷ us) i z s h = absurd s
each_at d f (x ∷ xs) [] i z s h = absurd s
each_at d f (x ∷ xs) (u ∷ us) zero z s h = (u, s.0)
each_at d f (x ∷ xs) (u ∷ us) (suc i) z s h = each_at d f xs us i z s.1 (omega arith)
