-- The records before the first fault, one by one; in a log without a fault they are all. Assumes nothing.
use Rattle.std.proofs.Common.{◌≡◌, ℕ, zero, suc, ◌+◌, Bool, true, false, cond, ltb, leb, List, Some, None, Ok, Err, length, sym, refl, ap, ◌∙◌, subst, arith}
use mathlib.Core.Bool.{So}
use Rattle.model.specs.declared.Moment.{Moment}
use Rattle.model.specs.declared.Record.{Record}
use Rattle.model.specs.Answers.{most_records}
use Rattle.model.specs.Monitor.{time_of}
use Rattle.base.specs.Lists.{Snoc, ε, ◌▸◌}
use Rattle.base.proofs.Bools.{clash}
use Rattle.log_reader.specs.Next.{next_at}
use Rattle.log_clock.specs.declared.Kind.{Kind}
use Rattle.log_clock.specs.declared.Kind.TheVariants.{Unset}
use Rattle.log_clock.specs.declared.MomentRefusal.TheVariants.{Falls}
use Rattle.log_clock.specs.Dated.{DatedRead, dated_at}
use Rattle.log_clock.specs.Records.{on_record, records_from, records_in}
use Rattle.log_check.specs.declared.LogRefusal.TheVariants.{NoMoment, TooManyRecords}
use Rattle.log_check.specs.Check.{Over, Going}
use Rattle.log_check.specs.Refusal.{fault, Checked}
use Rattle.log_check.specs.Check.{take_record, step_by, step_at, continue_by, check_from, check_log}
use Rattle.log_check.specs.Met.{pace_of, kind_in}
use Rattle.log_check.specs.Sound.{on_taken, on_sound, sound_from, sound_records}
use Rattle.log_check.proofs.Laws.{Went, is_fine, first_dated}

module _ (s : List ℕ) (at : ℕ) (k : Kind) (last : Moment) (n : ℕ) (es : Snoc Record) where
  -- where the check is over nothing is taken
  pub sound_over : (f : ℕ) (c : Checked) → step_at s at k last n ≡ Over c → sound_from f s at k last n es ≡ es
  unfolding sound_from step_at
  sound_over zero c q = refl
  sound_over (suc f) c q = by (dated_at s at k last) q
    where
      by : (d : DatedRead) → step_by at last n d ≡ Over c → on_sound (sound_from f s) es at last n d ≡ es
      by (Ok None) q = refl
      by (Err g) q = refl
      by (Ok (Some d)) q = ap (on_taken (λ p j t m. sound_from f s p j t m (es ▸ d.item)) es) q

  -- where it goes on the record is taken
  pub sound_going : (f p : ℕ) (j : Kind) (t : Moment) (m : ℕ) → step_at s at k last n ≡ Going p j t m
      → (W : Went s at k last n p j t m)
      → sound_from (suc f) s at k last n es ≡ sound_from f s p j t m (es ▸ W.e)
  unfolding sound_from step_at
  sound_going f p j t m g W =
      let step : take_record j (time_of W.e) p at last n ≡ Going p j t m
      = sym (ap (step_by at last n) W.found) ∙ g in
      ap (on_sound (sound_from f s) es at last n) W.found
      ∙ ap (on_taken (λ p j t m. sound_from f s p j t m (es ▸ W.e)) es) step

-- a log without a fault
pub sound_fine : (f : ℕ) (s : List ℕ) (at : ℕ) (k : Kind) (last : Moment) (n : ℕ) (es : Snoc Record)
    → So (is_fine (check_from (suc f) s at k last n)) → sound_from f s at k last n es ≡ records_from f s at k last es
unfolding sound_from records_from check_from step_at
sound_fine zero s at k last n es h = refl
sound_fine (suc f) s at k last n es h =
    by (dated_at s at k last) h (λ p j t m ds l. sound_fine f s p j t m ds l)
  where
    by : (d : DatedRead) → So (is_fine (continue_by (check_from (suc f) s) (step_by at last n d)))
        → ((p : ℕ) (j : Kind) (t : Moment) (m : ℕ) (ds : Snoc Record) → So (is_fine (check_from (suc f) s p j t m))
        → sound_from f s p j t m ds ≡ records_from f s p j t ds)
        → on_sound (sound_from f s) es at last n d
        ≡ on_record (λ e j p. records_from f s p j (time_of e) (es ▸ e)) d es
    by (Ok None) h i = refl
    by (Err g) h i = clash h refl
    by (Ok (Some d)) h i = tests d.item d.kind d.past (ltb (time_of d.item).0 last.0) (leb most_records n) h
      where
        tests : (e : Record) (j : Kind) (p : ℕ) (a b : Bool) → So (is_fine (continue_by (check_from (suc f) s)
            (cond a (Over (Err (fault (NoMoment Falls) at))) (cond b (Over (Err (fault TooManyRecords at)))
            (Going p j (time_of e) (n + 1))))))
            → on_taken (λ q i t m. sound_from f s q i t m (es ▸ e)) es
            (cond a (Over (Err (fault (NoMoment Falls) at))) (cond b (Over (Err (fault TooManyRecords at)))
            (Going p j (time_of e) (n + 1)))) ≡ records_from f s p j (time_of e) (es ▸ e)
        tests e j p true b h = clash h refl
        tests e j p false true h = clash h refl
        tests e j p false false h = i p j (time_of e) (n + 1) (es ▸ e) h

pub all_sound : (s : List ℕ) → So (is_fine (check_log s)) → sound_records s ≡ records_in s
unfolding sound_records records_in check_log
all_sound s h =
    let m : length s + 1 ≡ suc (length s) = omega arith in
    sound_fine (length s) s 0 Unset (record { 0 = 0 }) 0 ε
    (subst (λ (f : ℕ). So (is_fine (check_from f s 0 Unset (record { 0 = 0 }) 0))) m h)

-- the first record may be taken as one of the pace that it gives
same_first : (s : List ℕ) (f : ℕ)
    → sound_from f s 0 (kind_in (pace_of (next_at s 0)) (record { 0 = 0 })) (record { 0 = 0 }) 0 ε
    ≡ sound_from f s 0 Unset (record { 0 = 0 }) 0 ε
unfolding sound_from
same_first s zero = refl
same_first s (suc f) = ap (on_sound (sound_from f s) ε 0 (record { 0 = 0 }) 0) (first_dated s)

pub first_sound : (s : List ℕ)
    → sound_from (length s) s 0 (kind_in (pace_of (next_at s 0)) (record { 0 = 0 })) (record { 0 = 0 }) 0 ε ≡ sound_records s
unfolding sound_records
first_sound s = same_first s (length s)
