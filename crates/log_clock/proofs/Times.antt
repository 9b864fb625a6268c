-- Raw stamps and true times: below half the range the gap is the true one, and so each moment is. Assumes nothing.
use Rattle.std.proofs.Common.{◌≡◌, ℕ, ◌+◌, ◌-◌, ◌%◌, ◌<◌, ◌≤◌, Bool, true, false, cond, leb, sym, refl, ap, ◌∙◌, subst, ap₂, arith, leb-false, Ok, Err}
use borrow.Author.Tests.{lt-leb}
use Rattle.model.specs.declared.Moment.{Moment}
use Rattle.model.specs.declared.Stamp.{Stamp}
use Rattle.model.specs.declared.RawRecord.{RawRecord}
use Rattle.model.specs.declared.RawRecord.TheVariants as raw
use Rattle.model.specs.Monitor.{time_of, at_moment}
use Rattle.base.specs.Lists.{Snoc, ε, ◌▸◌, EachIn, each}
use Rattle.log_clock.specs.declared.Kind.{Kind}
use Rattle.log_clock.specs.declared.Kind.TheVariants.{Raw}
use Rattle.log_clock.specs.declared.MomentRefusal.TheVariants.{Falls, TooLate}
use Rattle.log_clock.specs.Clock.{Timed, range, half_range, gap_of, later_moment, raw_moment}
use Rattle.log_clock.specs.TrueTimes.{shown_at, Passing, begins, goes_on, kind_after, last_timed, moment_after}
use Rattle.log_clock.specs.TrueTimes.{moments_of_stamps, since_first, TrueTimes}

-- a raw record gets the moment that it is given
pub time_at_lem : (e : RawRecord) (t : Moment) → time_of (at_moment e t) ≡ t
time_at_lem (raw.Message m s) t = refl
time_at_lem (raw.Time s) t = refl

-- the gap is the only count of ticks below the range that leads from one stamp to the other
pub gap_leads : (from to : Stamp) → (from.0 + gap_of from to) % range ≡ to.0 % range
gap_leads from to = omega arith

pub gap_below : (from to : Stamp) → gap_of from to < range
gap_below from to = omega arith

pub gap_only : (from to : Stamp) (g : ℕ) → (from.0 + g) % range ≡ to.0 % range → g < range → gap_of from to ≡ g
gap_only from to g e l = omega arith

-- the gap of the stamps of two true times
pub gap_true : (a b : ℕ) → a ≤ b → b - a < half_range → gap_of (shown_at a) (shown_at b) ≡ b - a
gap_true a b l h = omega arith

-- a gap below half the range, within the range from 0 on
pub later_at : (last : Moment) (gap : ℕ) → gap < half_range → last.0 + gap < range
    → later_moment last gap ≡ Ok (record { 0 = last.0 + gap })
later_at last gap h r = rw (lt-leb _ _ h, lt-leb _ _ r)

-- the moment of a stamp, from that of the one before
pub next_true : (first t u : ℕ) → first ≤ t → t ≤ u → u - t < half_range → u - first < range
    → raw_moment (Raw (shown_at t)) (record { 0 = t - first }) (shown_at u) ≡ Ok (record { 0 = u - first })
next_true first t u f l h r =
    let g : gap_of (shown_at t) (shown_at u) ≡ u - t = gap_true t u l h in
    let s : t - first + (u - t) ≡ u - first = omega arith in
    ap (later_moment (record { 0 = t - first })) g
    ∙ later_at (record { 0 = t - first }) (u - t) h (omega arith)
    ∙ ap (λ (x : ℕ). Ok (record { 0 = x })) s

-- what a moment or a refusal holds, and the list before its last element
abbrev is_at : Timed → ℕ
is_at (Ok x) = 1
is_at (Err f) = 0

abbrev moment_in : Timed → ℕ
moment_in (Ok x) = x.0
moment_in (Err f) = 0

abbrev but_last : Snoc Timed → Snoc Timed
but_last ε = ε
but_last (ms ▸ m) = ms

-- and back: a moment that is the time since the first comes from a gap below half the range
later_told : (last : Moment) (gap : ℕ) (x : Moment) → later_moment last gap ≡ Ok x
    → (gap < half_range) × (last.0 + gap < range) × (last.0 + gap ≡ x.0)
later_told last gap x e = by (leb half_range gap) (leb range (last.0 + gap)) refl refl e
  where
    by : (a b : Bool) → leb half_range gap ≡ a → leb range (last.0 + gap) ≡ b
        → cond a (Err Falls) (cond b (Err TooLate) (Ok (record { 0 = last.0 + gap }))) ≡ Ok x
        → (gap < half_range) × (last.0 + gap < range) × (last.0 + gap ≡ x.0)
    by true b p q z = let w : ◌≡◌ {A = ℕ} 0 1 = ap (λ (m : Timed). is_at m) z in absurd (omega arith)
    by false true p q z = let w : ◌≡◌ {A = ℕ} 0 1 = ap (λ (m : Timed). is_at m) z in absurd (omega arith)
    by false false p q z =
        (leb-false half_range gap p, leb-false range (last.0 + gap) q, ap (λ (m : Timed). moment_in m) z)

module _ (first : ℕ) where
  pub not_before : {ts : Snoc ℕ} {t : ℕ} → Passing first ts t → first ≤ t
  not_before begins = omega arith
  not_before (goes_on P u l h r) = omega (arith, not_before P)

  last_kind : {ts : Snoc ℕ} {t : ℕ} → Passing first ts t → kind_after (each shown_at ts) ≡ Raw (shown_at t)
  last_kind begins = refl
  last_kind (goes_on P u l h r) = refl

  last_moment_lem : {ts : Snoc ℕ} {t : ℕ} → Passing first ts t
      → last_timed (since_first first ts) ≡ Ok (record { 0 = t - first })
  last_moment_lem begins = refl
  last_moment_lem (goes_on P u l h r) = refl

  moments : {ts : Snoc ℕ} {t : ℕ} → Passing first ts t → moments_of_stamps (each shown_at ts) ≡ since_first first ts
  unfolding moments_of_stamps
  moments begins =
      let z : 0 ≡ first - first = omega arith in
      ap (λ (x : ℕ). ε ▸ Ok (record { 0 = x })) z
  moments (goes_on {ts} {t} P u l h r) =
      let i = moments P in
      let m = ap last_timed i ∙ last_moment_lem P in
      let g : u - t < half_range = omega (arith, h) in
      ap₂ (λ (ms : Snoc Timed) (x : Timed). ms ▸ x) i
      (ap₂ (λ (k : Kind) (x : Timed). moment_after k x (shown_at u)) (last_kind P) m
      ∙ next_true first t u (not_before P) l g r)

  -- the time after the last, by the moment of its stamp
  told : (t u : ℕ) → first ≤ t → first ≤ u
      → raw_moment (Raw (shown_at t)) (record { 0 = t - first }) (shown_at u) ≡ Ok (record { 0 = u - first })
      → (t ≤ u) × (u - t < half_range) × (u - first < range)
  told t u f g e =
      let w = later_told (record { 0 = t - first }) (gap_of (shown_at t) (shown_at u)) (record { 0 = u - first }) e in
      let h : gap_of (shown_at t) (shown_at u) < half_range = w.0 in
      let r : t - first + gap_of (shown_at t) (shown_at u) < range = w.1 in
      let q : t - first + gap_of (shown_at t) (shown_at u) ≡ u - first = w.2 in
      let b : t + gap_of (shown_at t) (shown_at u) ≡ u = omega (arith, f, g, q) in
      (omega (arith, b), omega (arith, b, h), omega (arith, q, r))

  only : (ts : Snoc ℕ) (last : ℕ) → EachIn (λ before t. first ≤ t) (ts ▸ last)
      → moments_of_stamps (each shown_at (ts ▸ last)) ≡ since_first first (ts ▸ last) → Passing first (ts ▸ last) last
  unfolding moments_of_stamps
  only ε u n e =
      let z : 0 ≡ u - first = ap (λ (ms : Snoc Timed). moment_in (last_timed ms)) e in
      let q : first ≡ u = omega (arith, n.1, z) in
      subst (λ (x : ℕ). Passing first (ε ▸ x) x) q begins
  only (ts ▸ t) u n e =
      let P = only ts t n.0 (ap but_last e) in
      let m = ap last_timed (moments P) ∙ last_moment_lem P in
      let w = told t u n.0.1 n.1
      (sym (ap₂ (λ (k : Kind) (x : Timed). moment_after k x (shown_at u)) (last_kind P) m) ∙ ap last_timed e) in
      goes_on P u w.0 w.1 w.2

pub true_times : TrueTimes
true_times = record { given = λ first ts last P. moments first P; only = only }
