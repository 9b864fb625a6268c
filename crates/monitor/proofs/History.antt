-- A list of real feeds goes as the machine does. Assumes nothing.
use mathlib.Core.Path.{◌≡◌, refl, sym, ap, subst, ◌∙◌}
use mathlib.Core.Logic.{◌≢◌, inl, inr}
use mathlib.Core.Bool.{true}
use native.Mathlib.Omega.{arith}
use lib.ListN.{length}
use lib.Seq.{ext_get_or}
use Rattle.bitset.proofs.Laws.{same_members}
use Rattle.model.specs.declared.Chart.{Chart}
use Rattle.model.specs.declared.Moment.{Moment}
use Rattle.model.specs.declared.Monitor.{Monitor}
use Rattle.model.specs.declared.Record.{Record}
use Rattle.model.specs.Chart.{most_regions}
use Rattle.model.specs.Monitor.{zero_monitor}
use Rattle.std.specs.Prelude.{Err}
use Rattle.model.specs.declared.FeedRefusal.{FeedRefusal}
use Rattle.model.specs.declared.FeedRefusal.TheVariants.{NotAChart, Unfit}
use Rattle.model.specs.Answers.{time_falls, too_many_records, feed_refusal_number}
use Rattle.chart_value.specs.WellFormed.{well_formed}
use Rattle.chart_value.specs.View.{chart_of}
use Rattle.chart_value.proofs.Facts.{wf_of}
use Rattle.base.specs.Lists.{Snoc, ε, ◌▸◌}
use Rattle.rounds.specs.Chart.{Accepted}
use Rattle.rounds.specs.Feeds.{Answer as AbstractAnswer}
use Rattle.rounds.specs.Machine.{Monitor as AbstractMonitor, Step as AbstractStep, Fit, feed, after, answers}
use Rattle.rounds.specs.Demand3.{Demand3}
use Rattle.rounds.proofs.Demand3.{demand_3}
use Rattle.stepping.specs.declared.Step.{Step}
use Rattle.stepping.specs.Answers.{fed_answer}
use Rattle.stepping.specs.Monitors.{monitor_at, step_of}
use Rattle.stepping.proofs.Zeros.{zero_fresh}
use Rattle.stepping.proofs.Back.{refuses_with}
use Rattle.monitor.specs.Feed.{feed_of}
use Rattle.chart_value.specs.Records.{log_record, logged}
use Rattle.monitor.specs.History.{History, none_yet, one_more, HistoryOver, Feeding, ViewTells}
use Rattle.monitor.proofs.Fitness.{of_fit}
use Rattle.monitor.proofs.Storing.{answered_as, stored_as, stored_tally}

module _ (c : Chart) (wf : well_formed c ≡ true) (A : Accepted (chart_of c)) where
  -- a fit monitor is fed as the machine is
  fed_fit : (m : Monitor) (e : Record) → Fit (chart_of c) (monitor_at m)
      → feed_of c m e ≡ feed (chart_of c) (monitor_at m) (log_record e)
  unfolding feed_of
  fed_fit m e F = rw (wf, of_fit (chart_of c) A m F)

  abbrev D : Demand3 (chart_of c)
  D = demand_3 (chart_of c) A

  -- the monitor and the answers after a list
  record Goes (es : Snoc Record) (ans : Snoc AbstractAnswer) (m : Monitor) : Type 0 where
    monitor : monitor_at m ≡ after (chart_of c) (logged es)
    answered : ans ≡ answers (chart_of c) (logged es)

  fit_after : {es : Snoc Record} {ans : Snoc AbstractAnswer} {m : Monitor} → Goes es ans m
      → Fit (chart_of c) (monitor_at m)
  fit_after {es} g = subst (λ (x : AbstractMonitor). Fit (chart_of c) x) (sym g.monitor) (D.stays_fit (logged es))

  fed_after : {es : Snoc Record} {ans : Snoc AbstractAnswer} {m : Monitor} → Goes es ans m → (e : Record)
      → feed_of c m e ≡ feed (chart_of c) (after (chart_of c) (logged es)) (log_record e)
  fed_after {es} {ans} {m} g e =
      fed_fit m e (fit_after g) ∙ ap (λ (x : AbstractMonitor). feed (chart_of c) x (log_record e)) g.monitor

  step_after : {es : Snoc Record} {ans : Snoc AbstractAnswer} {m : Monitor} → Goes es ans m → (e : Record) (r : Step)
      → step_of r ≡ feed_of c m e
      → step_of r ≡ feed (chart_of c) (after (chart_of c) (logged es)) (log_record e)
  step_after g e r q = q ∙ fed_after g e

  goes : {es : Snoc Record} {ans : Snoc AbstractAnswer} {m : Monitor} → History c es ans m → Goes es ans m
  unfolding after answers
  goes none_yet = record { monitor = zero_fresh; answered = refl }
  goes (one_more {es} {ans} {m} e r q h) =
      let g = goes q in
      let s = step_after g e r h in
      record {
        monitor = ap (λ (x : AbstractStep). x.next) s;
        answered = λ i. g.answered i ▸ (s i).answer;
      }

  -- the machine's answers and monitors can be stored, so every list has its feeds
  exists : (es : Snoc Record) → HistoryOver c es
  unfolding after
  exists ε =
      record { ans = ε; monitor = zero_monitor; history = none_yet; stored = record { bits = omega arith; places = refl } }
  exists (es ▸ e) =
      let x = exists es in
      let g = goes x.history in
      let w = wf_of c wf in
      let a = answered_as (chart_of c) (after (chart_of c) (logged es)) (log_record e) in
      let n = stored_as (chart_of c) w.room w.clocks (D.stays_fit (logged (es ▸ e))) in
      record {
        ans = x.ans ▸ fed_answer a.answer;
        monitor = n.monitor;
        history = one_more e (record { answer = a.answer; next = n.monitor }) x.history
            ((λ i. record { answer = a.tells i; next = n.shows i }) ∙ sym (fed_after g e));
        stored = n.stored;
      }

  -- the machine never says 20 or 21
  never : {es : Snoc Record} {ans : Snoc AbstractAnswer} {m : Monitor} → Goes es ans m → (e : Record) (r : Step)
      → step_of r ≡ feed_of c m e
      → (k : FeedRefusal) → feed_refusal_number k ≢ time_falls → feed_refusal_number k ≢ too_many_records
      → r.answer ≢ Err k
  never {es} g e r h k n l q = elim (refuses_with (chart_of c) (after (chart_of c) (logged es)) (log_record e)
      (sym (ap (λ (x : AbstractStep). x.answer) (step_after g e r h)) ∙ ap fed_answer q)) [ inl p ↦ n p | inr p ↦ l p ]

  pub feeding : Feeding c
  feeding = record {
    one = fed_fit;
    exists = exists;
    answered = λ q. (goes q).answered;
    leads = λ q. (goes q).monitor;
    never_refused = λ {es} {ans} {m} q e r h.
        let g = goes q in (
          never g e r h NotAChart (λ z. omega arith) (λ z. omega arith),
          never g e r h Unfit (λ z. omega arith) (λ z. omega arith),
        );
  }

-- the view fixes the monitor
pub view_tells : ViewTells
view_tells m n p q e =
    let f : m.place.fired ≡ n.place.fired =
    same_members most_regions m.place.fired n.place.fired p.bits q.bits
    (λ i l. ap (λ (x : AbstractMonitor). x.place.fired i) e) in
    let zero : Moment = record { 0 = 0 } in
    let k : length m.place.resets ≡ length n.place.resets = p.places ∙ sym q.places in
    let r : m.place.resets ≡ n.place.resets =
    ext_get_or (record { 0 = 0 }) m.place.resets n.place.resets k
    (λ i l j. record { 0 = (e j).place.clocks i }) in
    λ i. record {
      place = record { fired = f i; resets = r i };
      tally = stored_tally (e i).tally;
    }
