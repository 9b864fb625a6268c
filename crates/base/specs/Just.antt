-- One value alone.
use Rattle.std.specs.Prelude.{◌≡◌}

-- x is the only one of which P holds
pub record Just {A : Type 0} (P : A → Type 0) (x : A) : Type 0 where
  pub holds : P x
  pub only : (y : A) → P y → y ≡ x
