-- One record of the check, by what it came to; and a larger count of records checks the same. Assumes nothing.
use Rattle.std.proofs.Common.{◌≡◌, ℕ, zero, suc, ◌+◌, ◌%◌, ◌<◌, ◌≤◌, Bool, true, false, cond, ltb, leb, List, Some, None, Ok, Err, length, sym, refl, ap, ◌∙◌, subst, ap₂, arith}
use Rattle.model.specs.declared.Moment.{Moment}
use Rattle.model.specs.declared.Record.{Record}
use Rattle.model.specs.Answers.{most_records}
use Rattle.model.specs.Monitor.{time_of, stamp_of}
use Rattle.log_reader.specs.Record.{RecordRead}
use Rattle.log_reader.specs.declared.Next.TheVariants as next
use Rattle.log_reader.specs.Next.{next_at}
use Rattle.log_clock.specs.declared.Kind.{Kind}
use Rattle.log_clock.specs.declared.Kind.TheVariants.{Unset}
use Rattle.log_clock.specs.declared.MomentRefusal.TheVariants.{Falls}
use Rattle.log_clock.specs.Clock.{range, gap_of, later_moment}
use Rattle.log_clock.specs.Dated.{DatedRead, dated_record, raw_by, dated_by, dated_at}
use Rattle.log_clock.proofs.Records.{dated_end, dated_past}
use Rattle.log_check.specs.declared.LogRefusal.TheVariants.{NoMoment, TooManyRecords}
use Rattle.log_check.specs.Check.{CheckStep}
use Rattle.log_check.specs.Check.{Over, Going}
use Rattle.log_check.specs.Refusal.{fault, Checked}
use Rattle.log_check.specs.Check.{take_record, check_from, check_log, continue_by, step_at, step_by}
use Rattle.log_check.specs.Met.{pace_of, kind_in}

-- the check found no fault
abbrev pub is_fine : Checked → Bool
is_fine (Ok n) = true
is_fine (Err f) = false

-- a record that is taken: the check goes on just after it, with its kind, its time and one record more
pub record Took (i : Kind) (u : Moment) (q : ℕ) (last : Moment) (n p : ℕ) (j : Kind) (t : Moment) (m : ℕ) : Type 0 where
  pub is_past : q ≡ p
  pub is_kind_lem : i ≡ j
  pub is_time : u ≡ t
  pub is_count : m ≡ n + 1
  pub later : ltb u.0 last.0 ≡ false
  pub few : leb most_records n ≡ false

pub took : (i : Kind) (u : Moment) (q at : ℕ) (last : Moment) (n p : ℕ) (j : Kind) (t : Moment) (m : ℕ)
    → take_record i u q at last n ≡ Going p j t m → Took i u q last n p j t m
took i u q at last n p j t m = by (ltb u.0 last.0) (leb most_records n) refl refl
  where
    by : (a b : Bool) → ltb u.0 last.0 ≡ a → leb most_records n ≡ b → cond a (Over (Err (fault (NoMoment Falls) at)))
        (cond b (Over (Err (fault TooManyRecords at))) (Going q i u (n + 1))) ≡ Going p j t m → Took i u q last n p j t m
    by true b x y g = let z : ◌≡◌ {A = ℕ} 0 1 = cc in absurd (omega arith)
    by false true x y g = let z : ◌≡◌ {A = ℕ} 0 1 = cc in absurd (omega arith)
    by false false x y g = record { is_past = cc; is_kind_lem = cc; is_time = cc; is_count = cc; later = x; few = y }

module _ (s : List ℕ) (at : ℕ) (k : Kind) (last : Moment) (n : ℕ) where
  -- what stands there decides
  pub came_to : (d : DatedRead) → dated_at s at k last ≡ d → step_at s at k last n ≡ step_by at last n d
  unfolding step_at
  came_to d q = ap (step_by at last n) q

  -- the record that the check takes
  pub record Went (p : ℕ) (j : Kind) (t : Moment) (m : ℕ) : Type 0 where
    pub e : Record
    pub found : dated_at s at k last ≡ dated_record e j p
    pub is_time : time_of e ≡ t
    pub is_count : m ≡ n + 1
    pub later : ltb t.0 last.0 ≡ false
    pub few : leb most_records n ≡ false

  pub went : (p : ℕ) (j : Kind) (t : Moment) (m : ℕ) → step_at s at k last n ≡ Going p j t m → Went p j t m
  unfolding step_at
  went p j t m g = by (dated_at s at k last) refl g
    where
      by : (x : DatedRead) → dated_at s at k last ≡ x → step_by at last n x ≡ Going p j t m → Went p j t m
      by (Ok None) e g = let z : ◌≡◌ {A = ℕ} 0 1 = cc in absurd (omega arith)
      by (Err f) e g = let z : ◌≡◌ {A = ℕ} 0 1 = cc in absurd (omega arith)
      by (Ok (Some d)) e g =
          let T = took d.kind (time_of d.item) d.past at last n p j t m g in
          record {
            e = d.item;
            found = e ∙ ap₂ (dated_record d.item) T.is_kind_lem T.is_past;
            is_time = T.is_time;
            is_count = T.is_count;
            later = subst (λ (u : Moment). ltb u.0 last.0 ≡ false) T.is_time T.later;
            few = T.few;
          }

  -- the check goes on past the record, and not past the end
  pub going_past : (p : ℕ) (j : Kind) (t : Moment) (m : ℕ) → step_at s at k last n ≡ Going p j t m
      → (at < p) × (p ≤ length s)
  going_past p j t m g = let W = went p j t m g in dated_past s at k last W.e j p W.found

  -- at the end it is over
  pub end_over : length s ≤ at → step_at s at k last n ≡ Over (Ok n)
  unfolding step_at
  end_over h = ap (step_by at last n) (dated_end s at k last h)

  pub ended_fine : (f : ℕ) → length s ≤ at → check_from f s at k last n ≡ Ok n
  unfolding check_from step_at
  ended_fine zero h = refl
  ended_fine (suc f) h =
      ap (continue_by (check_from f s)) (end_over h)

pub more_fuel : (f g : ℕ) (s : List ℕ) (at : ℕ) (k : Kind) (last : Moment) (n : ℕ) → length s < at + f
    → length s < at + g → check_from f s at k last n ≡ check_from g s at k last n
unfolding check_from
more_fuel zero g s at k last n h l = sym (ended_fine s at k last n g (omega arith))
more_fuel (suc f) zero s at k last n h l = ended_fine s at k last n (suc f) (omega arith)
more_fuel (suc f) (suc g) s at k last n h l =
    by (step_at s at k last n) refl (λ p j t m a b. more_fuel f g s p j t m a b)
  where
    by : (x : CheckStep) → step_at s at k last n ≡ x
        → ((p : ℕ) (j : Kind) (t : Moment) (m : ℕ) → length s < p + f → length s < p + g
        → check_from f s p j t m ≡ check_from g s p j t m)
        → continue_by (check_from f s) x ≡ continue_by (check_from g s) x
    by (Over c) e i = refl
    by (Going p j t m) e i =
        i p j t m (omega (arith, going_past s at k last n p j t m e))
        (omega (arith, going_past s at k last n p j t m e))

-- the check from an offset on, after n records of a kind, gives x
abbrev pub Left : Checked → List ℕ → ℕ → Kind → Moment → ℕ → Type 0
Left x s at k last n = check_from (length s + 1) s at k last n ≡ x

module _ {x : Checked} (s : List ℕ) (at : ℕ) (k : Kind) (last : Moment) (n : ℕ) (l : Left x s at k last n) where
  pub left_ended : length s ≤ at → Ok n ≡ x
  left_ended h = sym (ended_fine s at k last n (length s + 1) h) ∙ l

  pub left_step : (y : CheckStep) → step_at s at k last n ≡ y → continue_by (check_from (length s) s) y ≡ x
  unfolding check_from
  left_step y e =
      let m : suc (length s) ≡ length s + 1 = omega arith in
      ap (continue_by (check_from (length s) s)) (sym e) ∙ ap (λ (f : ℕ). check_from f s at k last n) m ∙ l

  pub left_going : (p : ℕ) (j : Kind) (t : Moment) (m : ℕ) → step_at s at k last n ≡ Going p j t m → Left x s p j t m
  left_going p j t m e =
      let w = going_past s at k last n p j t m e in
      more_fuel (length s + 1) (length s) s p j t m (omega arith) (omega arith) ∙ left_step (Going p j t m) e

pub left_here : (s : List ℕ) (at : ℕ) (k : Kind) (last : Moment) (n : ℕ)
    → Left (check_from (length s + 1) s at k last n) s at k last n
left_here s at k last n = refl

pub left_first : (s : List ℕ) → Left (check_log s) s 0 Unset (record { 0 = 0 }) 0
unfolding check_log
left_first s = refl

-- the first record of a log, taken as one of the pace that it gives
pub first_dated : (s : List ℕ) → dated_at s 0 (kind_in (pace_of (next_at s 0)) (record { 0 = 0 })) (record { 0 = 0 })
    ≡ dated_at s 0 Unset (record { 0 = 0 })
unfolding dated_at
first_dated s = by (next_at s 0)
  where
    no_gap : (o : ℕ) → gap_of (record { 0 = (0 + o) % range }) (record { 0 = o }) ≡ 0
    no_gap o = omega arith

    by : (x : RecordRead) → dated_by (kind_in (pace_of x) (record { 0 = 0 })) (record { 0 = 0 }) x
        ≡ dated_by Unset (record { 0 = 0 }) x
    by (Ok next.End) = refl
    by (Err f) = refl
    by (Ok (next.Handed e p)) = refl
    by (Ok (next.Raw e p)) = ap (λ (g : ℕ). raw_by e p (later_moment (record { 0 = 0 }) g)) (no_gap (stamp_of e).0)

pub first_checked : (s : List ℕ)
    → Left (check_log s) s 0 (kind_in (pace_of (next_at s 0)) (record { 0 = 0 })) (record { 0 = 0 }) 0
unfolding check_log check_from step_at
first_checked s =
    let m : suc (length s) ≡ length s + 1 = omega arith in
    let k = kind_in (pace_of (next_at s 0)) (record { 0 = 0 }) in
    subst (λ (f : ℕ). check_from f s 0 k (record { 0 = 0 }) 0 ≡ check_from f s 0 Unset (record { 0 = 0 }) 0) m
    (ap (λ (x : DatedRead). continue_by (check_from (length s) s) (step_by 0 (record { 0 = 0 }) 0 x)) (first_dated s))
