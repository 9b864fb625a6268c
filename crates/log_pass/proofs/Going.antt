-- The pass so far: the records before an offset were taken, the rest is still to be checked and taken, and nothing is
-- broken. Assumes nothing.
use mathlib.Core.Path.{◌≡◌, sym, ap, ap₂, subst, ◌∙◌}
use mathlib.Core.Logic.{◌≢◌}
use mathlib.Core.List.{List}
use Prim.Native.Nat.{ℕ, suc, ◌+◌, ◌-◌, ◌≤◌, ◌<◌}
use native.Mathlib.Omega.{arith}
use lib.ListN.{length}
use borrow.Author.Tests.{ltb-false, leb-false}
use Rattle.model.specs.declared.Moment.{Moment}
use Rattle.model.specs.declared.Monitor.{Monitor}
use Rattle.model.specs.declared.Record.{Record}
use Rattle.model.specs.Monitor.{zero_monitor, time_of}
use Rattle.model.specs.Answers.{most_records}
use Rattle.base.specs.Lists.{Snoc, ε, ◌▸◌}
use Rattle.rounds.specs.Chart.{Chart as Abstract, Accepted}
use Rattle.rounds.specs.Rows.{LogRecord}
use Rattle.rounds.specs.Machine.{Monitor as AbstractMonitor, Step as AbstractStep, Fit, accept, feed, after}
use Rattle.rounds.proofs.Fitness.{after_fit}
use Rattle.stepping.specs.declared.Answered.{Answered}
use Rattle.stepping.specs.Monitors.{monitor_at, answered_of, record_of}
use Rattle.stepping.proofs.Zeros.{zero_fresh}
use Rattle.chart_value.specs.Records.{record_code, log_record, logged}
use Rattle.log_reader.specs.Next.{next_at}
use Rattle.log_check.specs.Refusal.{Checked}
use Rattle.log_check.specs.Check.{Over}
use Rattle.log_check.specs.declared.pace.Pace.{Pace}
use Rattle.std.specs.Prelude.{None}
use Rattle.log_check.specs.Check.{check_log, step_at}
use Rattle.log_check.specs.Sound.{sound_from, sound_records}
use Rattle.log_check.specs.Met.{pace_of, kind_in, met_at}
use Rattle.log_check.proofs.Laws.{Left, left_going, first_checked, Went, went, going_past, end_over}
use Rattle.log_check.proofs.Sound.{sound_over, sound_going, first_sound}
use Rattle.log_check.proofs.Meets.{Goes, over_there}
use Rattle.log_pass.proofs.Codes.{code_of}
use Rattle.log_pass.proofs.Fed.{accept_counted, accept_fed, still}

-- what is left of the check of a log, after the records that a monitor counts
abbrev pub Rest : List ℕ → Pace → Monitor → ℕ → Type 0
Rest s p m at = Left (check_log s) s at (kind_in p m.tally.now) m.tally.now m.tally.records

pub record Going (C : Abstract) (s : List ℕ) (p : Pace) (m : Monitor) (at : ℕ) : Type 0 where
  pub left : ℕ
  pub room : length s ≤ at + left
  pub before : Snoc Record
  pub monitor : monitor_at m ≡ after C (logged before)
  pub sound : sound_from left s at (kind_in p m.tally.now) m.tally.now m.tally.records before ≡ sound_records s
  pub checked : Rest s p m at
  pub whole : m.tally.broken.at ≡ 0

-- where the pass stops: all sound records were taken, said of the chart that C shows
pub record Ended (C : Abstract) (s : List ℕ) (p : Pace) (m : Monitor) (at : ℕ) : Type 0 where
  pub end : monitor_at m ≡ after C (logged (sound_records s))
  pub rest : Rest s p m at

pub going_start : {C : Abstract} {s : List ℕ} (p : Pace) → p ≡ pace_of (next_at s 0) → (m : Monitor) → m ≡ zero_monitor
    → Going C s p m 0
unfolding after
going_start {C} {s} p q m e = record {
  left = length s;
  room = omega arith;
  before = ε;
  monitor = ap monitor_at e ∙ zero_fresh;
  sound =
      subst (λ (x : Monitor). sound_from (length s) s 0 (kind_in p x.tally.now) x.tally.now x.tally.records ε
      ≡ sound_records s) (sym e)
      (subst (λ (x : Pace). sound_from (length s) s 0 (kind_in x (record { 0 = 0 })) (record { 0 = 0 }) 0 ε
      ≡ sound_records s) (sym q) (first_sound s));
  checked =
      subst (λ (x : Monitor). Rest s p x 0) (sym e)
      (subst (λ (x : Pace). Rest s x zero_monitor 0) (sym q) (first_checked s));
  whole = ap (λ (x : Monitor). x.tally.broken.at) e;
}

same_moment : (t u : Moment) → t.0 ≡ u.0 → t ≡ u
same_moment t u x = λ i. record { 0 = x i }

same_record : (e : Record) (code t : ℕ) → code ≡ record_code e → t ≡ (time_of e).0 → record_of code t ≡ log_record e
same_record e code t p q = λ i. record { time = q i; code = p i }

module _ {C : Abstract} {s : List ℕ} {p : Pace} {m : Monitor} {at : ℕ} (G : Going C s p m at) where
  pub fit_here : Accepted C → Fit C (monitor_at m)
  fit_here A = subst (λ (x : AbstractMonitor). Fit C x) (sym G.monitor) (after_fit C A (logged G.before))

  -- nothing more is taken
  over : (c : Checked) → step_at s at (kind_in p m.tally.now) m.tally.now m.tally.records ≡ Over c
      → Ended C s p m at
  over c q =
      let z = sound_over s at (kind_in p m.tally.now) m.tally.now m.tally.records G.before G.left c q in
      record {
        end = G.monitor ∙ ap (λ (es : Snoc Record). after C (logged es)) (sym z ∙ G.sound);
        rest = G.checked;
      }

  pub going_end : length s ≤ at → Ended C s p m at
  going_end h = over _ (end_over s at (kind_in p m.tally.now) m.tally.now m.tally.records h)

  pub going_other : None ≡ met_at s at p m.tally.now m.tally.records → Ended C s p m at
  going_other e = let o = over_there s at p m.tally.now m.tally.records e in over o.0 o.1

  -- a record that was met is taken
  module _ (h : at < length s) (code : ℕ) (t : Moment) (past : ℕ)
      (M : Goes s at p m.tally.now m.tally.records code t past) where
    met : Went s at (kind_in p m.tally.now) m.tally.now m.tally.records past (kind_in p t) t
        (m.tally.records + 1)
    met =
        went s at (kind_in p m.tally.now) m.tally.now m.tally.records past (kind_in p t) t
        (m.tally.records + 1) M.step

    pub met_later : m.tally.now.0 ≤ t.0
    met_later = ltb-false t.0 m.tally.now.0 met.later

    pub met_few : m.tally.records < most_records
    met_few = leb-false most_records m.tally.records met.few

    pub met_past : (at < past) × (past ≤ length s)
    met_past =
        going_past s at (kind_in p m.tally.now) m.tally.now m.tally.records past (kind_in p t) t
        (m.tally.records + 1) M.step

    module _ (r : Answered) (a : answered_of r ≡ accept C (monitor_at m) (record_of code t.0)) where
      -- now and the count, the monitor, the records that are left to be taken and to be checked
      now : r.next.tally.now ≡ t
      now =
          same_moment r.next.tally.now t
          (ap (λ (y : AbstractStep). y.next.tally.now) a
          ∙ (accept_counted C (monitor_at m) (record_of code t.0)).now)

      count : r.next.tally.records ≡ m.tally.records + 1
      count =
          ap (λ (y : AbstractStep). y.next.tally.records) a
          ∙ (accept_counted C (monitor_at m) (record_of code t.0)).records ∙ omega arith

      one : record_of code t.0 ≡ log_record met.e
      one =
          same_record met.e code t.0
          (M.is_code ∙ code_of s at (kind_in p m.tally.now) m.tally.now met.e (kind_in p t) past met.found)
          (ap (λ (x : Moment). x.0) (sym met.is_time))

      monitor : monitor_at r.next ≡ after C (logged (G.before ▸ met.e))
      unfolding after
      monitor =
          ap (λ (y : AbstractStep). y.next)
          (a ∙ accept_fed C (monitor_at m) (record_of code t.0) G.whole met.later met.few)
          ∙ ap₂ (λ (x : AbstractMonitor) (y : LogRecord). (feed C x y).next) G.monitor one

      sound : sound_from (G.left - 1) s past (kind_in p r.next.tally.now) r.next.tally.now
          r.next.tally.records (G.before ▸ met.e) ≡ sound_records s
      sound =
          let l : G.left ≡ suc (G.left - 1) = omega (arith, h, G.room) in
          rw (now, count)
          (sym (sound_going s at (kind_in p m.tally.now) m.tally.now m.tally.records G.before (G.left - 1)
          past (kind_in p t) t (m.tally.records + 1) M.step met)
          ∙ ap (λ (f : ℕ). sound_from f s at (kind_in p m.tally.now) m.tally.now m.tally.records G.before)
          (sym l)
          ∙ G.sound)

      checked : Rest s p r.next past
      checked =
          rw (now, count)
          (left_going s at (kind_in p m.tally.now) m.tally.now m.tally.records G.checked past (kind_in p t) t
          (m.tally.records + 1) M.step)

      pub going_on : r.next.tally.broken.at ≡ 0 → Going C s p r.next past
      going_on z = record {
        left = G.left - 1;
        room = omega (arith, G.room, met_past);
        before = G.before ▸ met.e;
        monitor = monitor;
        sound = sound;
        checked = checked;
        whole = z;
      }

      -- after a break the rest changes nothing
      pub going_broken : r.next.tally.broken.at ≢ 0 → Ended C s p r.next past
      going_broken b = record {
        end =
            monitor
            ∙ sym (still C (G.left - 1) s past (kind_in p r.next.tally.now) r.next.tally.now
            r.next.tally.records (G.before ▸ met.e)
            (λ z. b (ap (λ (x : AbstractMonitor). x.tally.broken.at) monitor ∙ z)))
            ∙ ap (λ (es : Snoc Record). after C (logged es)) sound;
        rest = checked;
      }

-- as the pass promises it, of the chart and of the log's first record
pub ended_as : {C : Abstract} {s : List ℕ} {p : Pace} {m : Monitor} {at : ℕ} → Ended C s p m at → (D : Abstract) → C ≡ D
    → p ≡ pace_of (next_at s 0) → (monitor_at m ≡ after D (logged (sound_records s))) × Rest s (pace_of (next_at s 0)) m at
ended_as {s = s} {m = m} {at = at} E D shows q = (
  E.end ∙ ap (λ (X : Abstract). after X (logged (sound_records s))) shows,
  subst (λ (x : Pace). Rest s x m at) q E.rest,
)
