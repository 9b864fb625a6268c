-- A monitor's image gives the monitor back. Assumes nothing.
use mathlib.Core.Path.{◌≡◌, refl, sym, ap, ◌∙◌}
use mathlib.Core.List.{List, [], ◌∷◌, ◌++◌}
use Prim.Native.Nat.{ℕ, ◌≤◌, ◌<◌, ◌^◌}
use native.Mathlib.Omega.{arith}
use lib.ListN.{length, take, drop}
use Rattle.std.specs.List.{flat_map}
use Rattle.std.proofs.lemmas.List.{take_all}
use Rattle.model.specs.declared.Moment.{Moment}
use Rattle.model.specs.declared.Monitor.{Monitor}
use Rattle.firing.specs.Places.{moments_of}
use Rattle.wire.specs.Writing.{Wrote, word_bytes}
use Rattle.wire.proofs.Writing.{word_back, at_start}
use Rattle.monitor_image.specs.MonitorImage.{monitor_size, words_bytes, moment_numbers, monitor_bytes, monitor_in}

-- what the types say of a monitor's numbers
pub record Small (m : Monitor) : Type 0 where
  pub fired : m.place.fired < 2 ^ 32
  pub places : length m.place.resets ≡ 8
  pub moments : (k : ℕ) → k < 8 → moments_of m.place.resets k < 2 ^ 32
  pub now : m.tally.now.0 < 2 ^ 32
  pub records : m.tally.records < 2 ^ 32
  pub kept : m.tally.kept < 2 ^ 32
  pub dropped : m.tally.dropped < 2 ^ 32
  pub break : m.tally.broken.at < 2 ^ 32

-- the eight moments are the whole list
eight : (r : List Moment) → length r ≡ 8
    → record { 0 = moments_of r 0 } ∷ record { 0 = moments_of r 1 } ∷ record { 0 = moments_of r 2 } ∷ record { 0 = moments_of r 3 } ∷
    record { 0 = moments_of r 4 } ∷ record { 0 = moments_of r 5 } ∷ record { 0 = moments_of r 6 } ∷ record { 0 = moments_of r 7 } ∷ [] ≡ r
eight [] h = absurd (omega arith)
eight (a ∷ []) h = absurd (omega arith)
eight (a ∷ b ∷ []) h = absurd (omega arith)
eight (a ∷ b ∷ c ∷ []) h = absurd (omega arith)
eight (a ∷ b ∷ c ∷ d ∷ []) h = absurd (omega arith)
eight (a ∷ b ∷ c ∷ d ∷ e ∷ []) h = absurd (omega arith)
eight (a ∷ b ∷ c ∷ d ∷ e ∷ f ∷ []) h = absurd (omega arith)
eight (a ∷ b ∷ c ∷ d ∷ e ∷ f ∷ g ∷ []) h = absurd (omega arith)
eight (a ∷ b ∷ c ∷ d ∷ e ∷ f ∷ g ∷ k ∷ []) h = refl
eight (a ∷ b ∷ c ∷ d ∷ e ∷ f ∷ g ∷ k ∷ x ∷ l) h = absurd (omega arith)

-- their bytes
pub all_moments : (r : List Moment) (k : ℕ) → length r ≡ 8 → 8 ≤ k
    → flat_map (λ r. word_bytes r.0) (take k r) ≡ words_bytes (moment_numbers r)
all_moments r k e h =
    ap (λ (r : List Moment). flat_map (λ r. word_bytes r.0) r) (take_all k r (omega arith) ∙ sym (eight r e))

-- the image gives the monitor
pub monitor_read : (m : Monitor) (rest : List ℕ) → Small m → monitor_in (monitor_bytes m ++ rest) ≡ m
unfolding monitor_bytes monitor_in
monitor_read m rest s =
    let r = m.place.resets in
    rw (
      word_back m.place.fired s.fired,
      word_back (moments_of r 0) (s.moments 0 (omega arith)),
      word_back (moments_of r 1) (s.moments 1 (omega arith)),
      word_back (moments_of r 2) (s.moments 2 (omega arith)),
      word_back (moments_of r 3) (s.moments 3 (omega arith)),
      word_back (moments_of r 4) (s.moments 4 (omega arith)),
      word_back (moments_of r 5) (s.moments 5 (omega arith)),
      word_back (moments_of r 6) (s.moments 6 (omega arith)),
      word_back (moments_of r 7) (s.moments 7 (omega arith)),
      word_back m.tally.now.0 s.now,
      word_back m.tally.records s.records,
      word_back m.tally.kept s.kept,
      word_back m.tally.dropped s.dropped,
      word_back m.tally.broken.at s.break,
      eight r s.places,
    )

pub monitor_length : (m : Monitor) → length (monitor_bytes m) ≡ monitor_size
unfolding monitor_bytes
monitor_length m = refl

-- a monitor written there is read again
pub monitor_back : {l n : List ℕ} {j : ℕ} (m : Monitor) → Wrote l 0 (monitor_bytes m) n j → monitor_size ≤ length l
    → Small m → monitor_in n ≡ m
monitor_back {l} {n} m w h s =
    ap monitor_in (at_start w (omega (arith, monitor_length m))) ∙ monitor_read m (drop (length (monitor_bytes m)) l) s
