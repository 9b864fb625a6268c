-- Records taken one by one through the compiled chart: a record that the check takes is fed, and a broken monitor stays
-- as it is. Assumes nothing.
use mathlib.Core.Path.{◌≡◌, refl, sym, ap, subst, ◌∙◌}
use mathlib.Core.Bool.{Bool, true, false, cond, not, So, ◌&&◌}
use mathlib.Core.Logic.{◌≢◌}
use mathlib.Core.List.{List}
use Rattle.std.specs.Prelude.{Some, None, Ok, Err}
use Prim.Native.Nat.{ℕ, zero, suc, ◌≤◌}
use lib.Dec.{leb, ltb}
use lib.ListN.{get_or}
use borrow.Author.Tests.{eq-eqb, ne_eqb}
use Rattle.bitset.specs.Set.{contains}
use Rattle.model.specs.declared.Moment.{Moment}
use Rattle.model.specs.declared.Record.{Record}
use Rattle.model.specs.Chart.{most_regions}
use Rattle.model.specs.Answers.{most_records}
use Rattle.model.specs.Monitor.{no_cause, cause_of, time_of}
use Rattle.base.specs.Lists.{Snoc, ◌▸◌}
use Rattle.rounds.specs.Chart.{Chart as Abstract}
use Rattle.rounds.specs.Rows.{LogRecord, chart_message}
use Rattle.rounds.specs.Feeds.{no_ready_region, condition_fails, entered, moved, quiet}
use Rattle.rounds.specs.Machine.{Monitor as AbstractMonitor, Step as AbstractStep, Move, stuck, fails, rests, offer}
use Rattle.rounds.specs.Machine.{take_message, full, prechart_done, go_on, keep_round, drop_round, break_round, conclude}
use Rattle.rounds.specs.Machine.{missed, fits_opening, reopened, accept, feed, after}
use Rattle.layout.specs.View.{Covers}
use Rattle.plan.specs.Slots.{slot_of, Slotted}
use Rattle.chart_value.specs.Records.{log_record, logged}
use Rattle.log_clock.specs.declared.Kind.{Kind}
use Rattle.log_clock.specs.Dated.{DatedRead, dated_at}
use Rattle.log_check.specs.Check.{CheckStep}
use Rattle.log_check.specs.Check.{Over, Going}
use Rattle.log_check.specs.Check.{take_record}
use Rattle.log_check.specs.Sound.{on_taken, on_sound, sound_from}

-- every region that has a message is in its code's slot
pub slot_covers : {count : ℕ} {keys slots : List ℕ} → Slotted count keys slots → count ≤ most_regions → (code : ℕ)
    → Covers count keys code (get_or slots (slot_of code) 0)
slot_covers {slots = slots} S n code = record {
  within = record { few = n; own = λ i m. S.own i (slot_of code) m };
  has = λ i l e. subst (λ (k : ℕ). So (contains (get_or slots (slot_of k) 0) i)) e (S.has i l);
}

-- the record is the first after n, and now is its time
pub record Counted (e : LogRecord) (n : ℕ) (x : AbstractStep) : Type 0 where
  pub now : x.next.tally.now ≡ e.time
  pub records : x.next.tally.records ≡ suc n

either_counted : {e : LogRecord} {n : ℕ} (b : Bool) (x y : AbstractStep) → Counted e n x → Counted e n y
    → Counted e n (cond b x y)
either_counted true x y p q = p
either_counted false x y p q = q

module _ (C : Abstract) (m : AbstractMonitor) (e : LogRecord) where
  conclude_counted : (v : Move) → Counted e m.tally.records (conclude C m e v)
  unfolding conclude go_on keep_round drop_round break_round
  conclude_counted stuck =
      either_counted (prechart_done C m.place.fired) (break_round C m e no_ready_region no_cause m.place)
      (drop_round C m e no_cause)
      (record { now = refl; records = refl }) (record { now = refl; records = refl })
  conclude_counted (fails i term p) =
      either_counted (C.hot i) (break_round C m e condition_fails (cause_of i term) p) (drop_round C m e (cause_of i term))
      (record { now = refl; records = refl }) (record { now = refl; records = refl })
  conclude_counted (rests p) =
      either_counted (full C p.fired) (keep_round C m e)
      (go_on C m e (cond (not (prechart_done C m.place.fired) && prechart_done C p.fired) entered moved) p)
      (record { now = refl; records = refl }) (record { now = refl; records = refl })

  offer_counted : Counted e m.tally.records (offer C m e)
  unfolding offer go_on
  offer_counted =
      either_counted (chart_message C e) (conclude C m e (take_message C m.place e)) (go_on C m e quiet m.place)
      (conclude_counted (take_message C m.place e)) (record { now = refl; records = refl })

module _ (C : Abstract) (m : AbstractMonitor) (e : LogRecord) where
  pub accept_counted : Counted e m.tally.records (accept C m e)
  unfolding accept reopened
  accept_counted =
      either_counted (missed C m e && fits_opening C e) (offer C (reopened C m e) e) (offer C m e)
      (offer_counted C (reopened C m e) e) (offer_counted C m e)

  pub accept_fed : m.tally.broken.at ≡ 0 → ltb e.time m.tally.now ≡ false
      → leb most_records m.tally.records ≡ false → accept C m e ≡ feed C m e
  unfolding feed
  accept_fed b t n = rw (eq-eqb m.tally.broken.at 0 b, t, n)

-- a broken monitor stays as it is
unmoved : (C : Abstract) (m : AbstractMonitor) (e : LogRecord) → m.tally.broken.at ≢ 0 → (feed C m e).next ≡ m
unfolding feed
unmoved C m e b = rw (ne_eqb m.tally.broken.at 0 b)

-- so what comes after a break changes nothing
pub still : (C : Abstract) (f : ℕ) (s : List ℕ) (at : ℕ) (k : Kind) (last : Moment) (n : ℕ) (es : Snoc Record)
    → (after C (logged es)).tally.broken.at ≢ 0
    → after C (logged (sound_from f s at k last n es)) ≡ after C (logged es)
unfolding sound_from after
still C zero s at k last n es b = refl
still C (suc f) s at k last n es b =
    by (dated_at s at k last) (λ p j t m e c. still C f s p j t m (es ▸ e) c)
  where
    by : (x : DatedRead) →
        ((p : ℕ) (j : Kind) (t : Moment) (m : ℕ) (e : Record) → (after C (logged (es ▸ e))).tally.broken.at ≢ 0
        → after C (logged (sound_from f s p j t m (es ▸ e))) ≡ after C (logged (es ▸ e)))
        → after C (logged (on_sound (sound_from f s) es at last n x)) ≡ after C (logged es)
    by (Ok None) i = refl
    by (Err g) i = refl
    by (Ok (Some d)) i = taken (take_record d.kind (time_of d.item) d.past at last n)
      where
        taken : (y : CheckStep)
            → after C (logged (on_taken (λ q i t m. sound_from f s q i t m (es ▸ d.item)) es y)) ≡ after C (logged es)
        taken (Over c) = refl
        taken (Going q l t m) =
            let u = unmoved C (after C (logged es)) (log_record d.item) b in
            i q l t m d.item (λ z. b (sym (ap (λ (x : AbstractMonitor). x.tally.broken.at) u) ∙ z)) ∙ u
