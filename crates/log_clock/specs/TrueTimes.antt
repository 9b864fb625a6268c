-- The true times of raw stamps (L13).
use Rattle.std.specs.Prelude.{◌≡◌, ℕ, ◌-◌, ◌%◌, ◌<◌, ◌≤◌, Ok, Err}
use Rattle.model.specs.declared.Stamp.{Stamp}
use Rattle.base.specs.Lists.{Snoc, ε, ◌▸◌, EachIn, each}
use Rattle.log_clock.specs.declared.Kind.{Kind}
use Rattle.log_clock.specs.declared.Kind.TheVariants.{Unset, Raw}
use Rattle.log_clock.specs.Clock.{Timed, range, half_range, raw_moment}

-- what the counter shows at a true time
abbrev pub shown_at : ℕ → Stamp
shown_at t = record { 0 = t % range }

-- true times, and the last of them: none falls, each comes less than half the range after the one before, and less than
-- the range after the first
pub data Passing (first : ℕ) : Snoc ℕ → ℕ → Type 0 where
  begins : Passing first (ε ▸ first) first
  goes_on : {ts : Snoc ℕ} {t : ℕ} → Passing first ts t → (u : ℕ) → t ≤ u → u - t < half_range → u - first < range
      → Passing first (ts ▸ u) u

-- the moments of stamps from the left, up to the first that has none
abbrev pub kind_after : Snoc Stamp → Kind
kind_after ε = Unset
kind_after (ss ▸ s) = Raw s

abbrev pub last_timed : Snoc Timed → Timed
last_timed ε = Ok (record { 0 = 0 })
last_timed (ms ▸ m) = m

abbrev pub moment_after : Kind → Timed → Stamp → Timed
moment_after k (Ok last) s = raw_moment k last s
moment_after k (Err f) s = Err f

unfoldable pub moments_of_stamps : Snoc Stamp → Snoc Timed
moments_of_stamps ε = ε
moments_of_stamps (ss ▸ s) = moments_of_stamps ss ▸ moment_after (kind_after ss) (last_timed (moments_of_stamps ss)) s

-- the times since the first as moments
abbrev pub since_first : ℕ → Snoc ℕ → Snoc Timed
since_first first ts = each (λ t. Ok (record { 0 = t - first })) ts

-- L13: the moments of the stamps of such times are the times since the first; and of no other times, if none is before
-- the first
pub record TrueTimes : Type 0 where
  pub given : (first : ℕ) (ts : Snoc ℕ) (last : ℕ) → Passing first ts last
      → moments_of_stamps (each shown_at ts) ≡ since_first first ts
  pub only : (first : ℕ) (ts : Snoc ℕ) (last : ℕ) → EachIn (λ before t. first ≤ t) (ts ▸ last)
      → moments_of_stamps (each shown_at (ts ▸ last)) ≡ since_first first (ts ▸ last) → Passing first (ts ▸ last) last
