-- The first record of a call, whose kind is that of the records before it, is taken or not as one of the pace is.
-- Assumes nothing.
use mathlib.Core.Path.{◌≡◌, refl, sym, ap, ◌∙◌}
use mathlib.Core.Bool.{Bool, true, false}
use mathlib.Core.Logic.{◌⊎◌, inl, inr}
use mathlib.Core.List.{List}
use Prim.Native.Nat.{ℕ, ◌+◌, ◌%◌, ◌<◌, ◌≤◌}
use native.Mathlib.Omega.{arith}
use borrow.Author.Tests.{lt-ltb, le-leb, ltb-true, ltb-false}
use lib.Dec.{leb, ltb}
use Rattle.base.proofs.Bools.{split}
use Rattle.model.specs.declared.Moment.{Moment}
use Rattle.model.specs.declared.Stamp.{Stamp}
use Rattle.model.specs.declared.RawRecord.{RawRecord}
use Rattle.model.specs.Monitor.{stamp_of}
use Rattle.log_reader.specs.Record.{RecordRead}
use Rattle.log_reader.specs.declared.Next.TheVariants as next
use Rattle.log_reader.specs.Next.{next_at}
use Rattle.log_clock.specs.declared.Kind.{Kind}
use Rattle.log_clock.specs.declared.Kind.TheVariants.{Unset, Plain, Raw}
use Rattle.log_clock.specs.declared.MomentRefusal.TheVariants.{Falls, TooLate}
use Rattle.log_clock.specs.Clock.{Timed, range, half_range, gap_of, later_moment}
use Rattle.log_clock.specs.Dated.{raw_by, dated_by, dated_at}
use Rattle.log_clock.proofs.Times.{time_at_lem, gap_leads}
use Rattle.log_check.specs.declared.LogRefusal.TheVariants.{NoMoment}
use Rattle.std.specs.Prelude.{Ok, Err}
use Rattle.log_check.specs.Refusal.{fault, Checked}
use Rattle.log_check.specs.Check.{CheckStep}
use Rattle.log_check.specs.Check.{Over, Going}
use Rattle.log_check.specs.declared.pace.Pace.{Pace}
use Rattle.log_check.specs.Check.{take_record, step_by, step_at}
use Rattle.log_check.specs.Met.{raw_pace, pace_of, kind_in}
use Rattle.feed_log.specs.Run.{InRange, pace_from}

-- the check is over
abbrev pub Ends : List ℕ → ℕ → Kind → Moment → ℕ → Type 0
Ends s at k last n = (c : Checked) × (step_at s at k last n ≡ Over c)

-- the record is checked alike as one of the kind and as one of the pace, or taken as neither
abbrev pub Agrees : List ℕ → ℕ → Pace → Kind → Moment → ℕ → Type 0
Agrees s at p k last n = (step_at s at k last n ≡ step_at s at (kind_in p last) last n)
    ⊎ (Ends s at (kind_in p last) last n × Ends s at k last n)

pub agrees_going : (s : List ℕ) (at : ℕ) (p : Pace) (k : Kind) (last : Moment) (n : ℕ) → Agrees s at p k last n
    → (q : ℕ) (j : Kind) (t : Moment) (i : ℕ) → step_at s at (kind_in p last) last n ≡ Going q j t i
    → step_at s at k last n ≡ Going q j t i
agrees_going s at p k last n (inl e) q j t i g = e ∙ g
agrees_going s at p k last n (inr b) q j t i g =
    let z : Over b.0.0 ≡ Going q j t i = sym b.0.1 ∙ g in
    let w : ◌≡◌ {A = ℕ} 0 1 = cc in absurd (omega arith)

pub agrees_ending : (s : List ℕ) (at : ℕ) (p : Pace) (k : Kind) (last : Moment) (n : ℕ) → Agrees s at p k last n
    → Ends s at (kind_in p last) last n → Ends s at k last n
agrees_ending s at p k last n (inl e) c = (c.0, e ∙ c.1)
agrees_ending s at p k last n (inr b) c = b.1

-- the first raw record, with no record before it: at moment 0
module _ (e : RawRecord) (past at : ℕ) (last : Moment) (n : ℕ) (small : last.0 < range) where
  abbrev from : Stamp
  from = record { 0 = (last.0 + (stamp_of e).0) % range }

  abbrev as_paced : CheckStep
  as_paced = step_by at last n (raw_by e past (later_moment last (gap_of from (stamp_of e))))

  abbrev as_first : CheckStep
  as_first = step_by at last n (raw_by e past (Ok (record { 0 = 0 })))

  raw_start : last.0 ≡ 0 → as_first ≡ as_paced
  raw_start z =
      let g : gap_of from (stamp_of e) ≡ 0 = omega arith in
      let m : later_moment last 0 ≡ Ok (record { 0 = 0 }) = rw (z) in
      ap (λ (x : Timed). step_by at last n (raw_by e past x)) (sym (ap (later_moment last) g ∙ m))

  raw_late : 0 < last.0 → ((c : Checked) × (as_paced ≡ Over c)) × ((c : Checked) × (as_first ≡ Over c))
  raw_late h = (
    by (leb half_range (gap_of from (stamp_of e))) refl,
    (
      Err (fault (NoMoment Falls) at),
      ap (λ (t : Moment). take_record (Raw (stamp_of e)) t past at last n) (time_at_lem e (record { 0 = 0 }))
          ∙ rw (lt-ltb 0 last.0 h),
    ),
  )
    where
      sum : range ≤ last.0 + gap_of from (stamp_of e)
      sum = omega arith

      by : (a : Bool) → leb half_range (gap_of from (stamp_of e)) ≡ a → (c : Checked) × (as_paced ≡ Over c)
      by true x = (Err (fault (NoMoment Falls) at), rw x)
      by false x = (Err (fault (NoMoment TooLate) at), rw (x, le-leb _ _ sum))

module _ (s : List ℕ) (last : Moment) (n : ℕ) (small : last.0 < range) where
  -- by what stands there
  abbrev AgreesBy : Pace → Kind → RecordRead → Type 0
  AgreesBy p k x = (step_by 0 last n (dated_by k last x) ≡ step_by 0 last n (dated_by (kind_in p last) last x))
      ⊎ (((c : Checked) × (step_by 0 last n (dated_by (kind_in p last) last x) ≡ Over c))
      × ((c : Checked) × (step_by 0 last n (dated_by k last x) ≡ Over c)))

  unset : (x : RecordRead) → AgreesBy (pace_of x) Unset x
  unset (Ok next.End) = inl refl
  unset (Err f) = inl refl
  unset (Ok (next.Handed e past)) = inl refl
  unset (Ok (next.Raw e past)) = elim (split (ltb 0 last.0)) [
    | inl h ↦ inr (raw_late e past 0 last n small (ltb-true 0 last.0 h))
    | inr h ↦ let z = ltb-false 0 last.0 h in inl (raw_start e past 0 last n small (omega (arith, z)))
  ]

  -- the kind of the pace is the kind that came
  raw_again : (from : Stamp) → from.0 < range → Raw from ≡ kind_in (raw_pace (gap_of (record { 0 = last.0 }) from)) last
  raw_again from h =
      let z : from.0 ≡ (last.0 + gap_of (record { 0 = last.0 }) from) % range =
      omega (arith, gap_leads (record { 0 = last.0 }) from) in
      ap (λ (x : ℕ). Raw (record { 0 = x })) z

  pub agrees_first : (k : Kind) → InRange k → Agrees s 0 (pace_from k last (next_at s 0)) k last n
  unfolding step_at dated_at
  agrees_first Unset h = unset (next_at s 0)
  agrees_first Plain h = inl refl
  agrees_first (Raw from) h = inl (ap (λ (k : Kind). step_at s 0 k last n) (raw_again from h))
