-- Records taken by the machine are fed to live bytes one by one: after each the image is that of the monitor so far.
-- Assumes nothing.
use mathlib.Core.Path.{◌≡◌, refl, sym, ap, subst, ◌∙◌}
use mathlib.Core.Bool.{true, false}
use mathlib.Core.Logic.{inl, inr}
use mathlib.Core.List.{List, ◌++◌}
use Prim.Native.Nat.{ℕ, suc, ◌+◌, ◌≤◌}
use native.Mathlib.Omega.{arith}
use borrow.Author.Tests.{eq-eqb, ne_eqb, eqb-true}
use lib.Dec.{eqb, ltb, leb}
use lib.ListN.{length, drop, length-append, length-drop}
use lib.Seq.{drop_at}
use Rattle.base.specs.Lists.{Snoc, ε, ◌▸◌, size}
use Rattle.base.proofs.Bools.{split}
use Rattle.model.specs.declared.Monitor.{Monitor}
use Rattle.model.specs.declared.Record.{Record}
use Rattle.model.specs.declared.Answer.{Answer}
use Rattle.model.specs.declared.FeedRefusal.{FeedRefusal}
use Rattle.model.specs.declared.FeedRefusal.TheVariants.{TimeFalls, TooManyRecords}
use Rattle.model.specs.Answers.{Fed, time_falls, too_many_records, most_records, feed_refusal_number}
use Rattle.model.specs.Monitor.{time_of}
use Rattle.chart_value.specs.WellFormed.{well_formed}
use Rattle.chart_value.specs.View.{chart_of}
use Rattle.chart_value.specs.Records.{log_record}
use Rattle.rounds.specs.Chart.{Chart as Abstract, Accepted}
use Rattle.rounds.specs.Rows.{LogRecord}
use Rattle.rounds.specs.Feeds.{refused}
use Rattle.rounds.specs.Machine.{Monitor as AbstractMonitor, Step as AbstractStep, Fit, feed}
use Rattle.rounds.proofs.Fitness.{feed_fit}
use Rattle.stepping.specs.declared.Step.{Step}
use Rattle.stepping.specs.declared.Answered.{Answered}
use Rattle.stepping.specs.Monitors.{monitor_at, answered_of, step_of}
use Rattle.monitor.specs.Feed.{feed_of}
use Rattle.monitor.proofs.History.{feeding}
use Rattle.log_clock.specs.declared.Kind.{Kind}
use Rattle.log_clock.specs.declared.Undated.TheVariants as undated
use Rattle.log_clock.specs.Dated.{DatedRead, dated_record, dated_at}
use Rattle.log_clock.specs.declared.MomentRefusal.TheVariants.{Falls}
use Rattle.log_check.specs.declared.LogRefusal.TheVariants.{NoMoment, TooManyRecords as TooMany}
use Rattle.std.specs.Prelude.{Some, None, Ok, Err}
use Rattle.log_check.specs.Refusal.{fault, Checked}
use Rattle.log_check.specs.Check.{Over, Going}
use Rattle.log_check.specs.Check.{step_at}
use Rattle.log_check.specs.Met.{ended_by}
use Rattle.log_check.proofs.Laws.{came_to}
use Rattle.monitor_image.specs.MonitorImage.{monitor_size, monitor_bytes, monitor_in}
use Rattle.monitor_image.proofs.Laws.{monitor_length}
use Rattle.live.specs.Live.{chart_in, is_broken, bytes_fed, LiveFedBy, LiveFed}
use Rattle.live.proofs.Charts.{same_chart}
use Rattle.live.proofs.Feeding.{fed_live}
use Rattle.feed_log.specs.Feeds.{Outcome, now_in, Feeds, at_break, at_end, at_no_record, at_no_moment, at_refused}
use Rattle.feed_log.specs.Feeds.{taken}
use Rattle.feed_log.specs.Run.{Takes, none_yet, one_more, Stops, checked_number, stop_number, bytes_after}
use Rattle.feed_log.proofs.Parts.{stop_ended}

-- what a call that stops here comes to
abbrev stopped : ℕ → Snoc Answer → ℕ → Kind → List ℕ → Outcome
stopped number ans at k l = record { number = number; answers = ans; place = at; kind = k; bytes = l }

-- what the machine refuses
module _ (C : Abstract) (m : AbstractMonitor) (e : LogRecord) (b : m.tally.broken.at ≡ 0) where
  falls_fed : ltb e.time m.tally.now ≡ true → feed C m e ≡ record { answer = refused time_falls; next = m }
  unfolding feed
  falls_fed t = rw (eq-eqb m.tally.broken.at 0 b, t)

  many_fed : ltb e.time m.tally.now ≡ false → leb most_records m.tally.records ≡ true
      → feed C m e ≡ record { answer = refused too_many_records; next = m }
  unfolding feed
  many_fed t r = rw (eq-eqb m.tally.broken.at 0 b, t, r)

module _ (l : List ℕ) (W : well_formed (chart_in l) ≡ true) (A : Accepted (chart_of (chart_in l)))
    (long : monitor_size ≤ length l) (s : List ℕ) (k : Kind) where
  -- live bytes on the way: the monitor is in them, and what stands after its image is as it was
  record Led (at : ℕ) (j : Kind) (m : Monitor) (ans : Snoc Answer) : Type 0 where
    bytes : List ℕ
    monitor : monitor_in bytes ≡ m
    after : drop monitor_size bytes ≡ drop monitor_size l
    long_too : length bytes ≡ length l
    fit : Fit (chart_of (chart_in l)) (monitor_at m)
    back : (o : Outcome) → Feeds s at j bytes ans o → Feeds s 0 k l ε o
    is_bytes : bytes ≡ bytes_after l (size ans) m

  module _ {at : ℕ} {j : Kind} {m : Monitor} {ans : Snoc Answer} (L : Led at j m ans) where
    -- the same chart, for which the machine feeds
    fed_there : (e : Record) (r : Step) → step_of r ≡ feed (chart_of (chart_in l)) (monitor_at m) (log_record e)
        → step_of r ≡ feed_of (chart_in l) (monitor_in L.bytes) e
    fed_there e r f =
        f ∙ sym ((feeding (chart_in l) W A).one m e L.fit)
        ∙ ap (λ (x : Monitor). feed_of (chart_in l) x e) (sym L.monitor)

    live_there : {e : Record} {a : Fed} {n : List ℕ} → LiveFedBy (chart_in l) L.bytes e a n
        → LiveFed L.bytes e a n
    live_there F =
        let z = L.long_too in
        fed_live (chart_in l) (sym (same_chart l L.bytes L.long_too L.after)) (omega (arith, z, long)) F

    unbroken : is_broken m ≡ false → is_broken (monitor_in L.bytes) ≡ false
    unbroken b = ap is_broken L.monitor ∙ b

    there : (d : DatedRead) → dated_at s at j m.tally.now ≡ d → dated_at s at j (now_in L.bytes) ≡ d
    there d q = ap (λ (x : Monitor). dated_at s at j x.tally.now) L.monitor ∙ q

    -- a record that is refused
    refused_there : (e : Record) (f : FeedRefusal)
        → feed (chart_of (chart_in l)) (monitor_at m) (log_record e)
        ≡ record { answer = refused (feed_refusal_number f); next = monitor_at m }
        → LiveFed L.bytes e (Err f) L.bytes
    unfolding bytes_fed
    refused_there e f q =
        let r : Step = record { answer = Err f; next = m } in
        live_there (record {
          taken = r;
          fed = fed_there e r (sym q);
          ans = refl;
          bytes = refl;
          next = L.monitor;
        })

    -- one that is taken
    taken_there : (e : Record) (i : Kind) (past : ℕ) (r : Answered) → is_broken m ≡ false
        → dated_at s at j m.tally.now ≡ dated_record e i past
        → answered_of r ≡ feed (chart_of (chart_in l)) (monitor_at m) (log_record e)
        → ((rest : List ℕ) → monitor_in (monitor_bytes r.next ++ rest) ≡ r.next)
        → Led past i r.next (ans ▸ r.answer)
    unfolding bytes_fed
    taken_there e i past r b d f read =
        let sized = monitor_length r.next in
        let n = monitor_bytes r.next ++ drop monitor_size L.bytes in
        let s : Step = record { answer = Ok r.answer; next = r.next } in
        let F : LiveFed L.bytes e (Ok r.answer) n = live_there (record {
          taken = s;
          fed = fed_there e s f;
          ans = refl;
          bytes = rw (unbroken b);
          next = read (drop monitor_size L.bytes);
        }) in
        let z = L.long_too in
        record {
          bytes = n;
          monitor = read (drop monitor_size L.bytes);
          after = drop_at (monitor_bytes r.next) (drop monitor_size L.bytes) monitor_size sized ∙ L.after;
          long_too =
              length-append (monitor_bytes r.next) (drop monitor_size L.bytes)
              ∙ omega (arith, sized, z, long, length-drop monitor_size L.bytes);
          fit =
              subst (λ (x : AbstractMonitor). Fit (chart_of (chart_in l)) x) (sym (ap (λ (y : AbstractStep). y.next) f))
              (feed_fit (chart_of (chart_in l)) A (monitor_at m) (log_record e) L.fit);
          back = λ o G. L.back o
              (taken e i past r.answer n (unbroken b) (there (dated_record e i past) d) F G);
          is_bytes =
              rw (ne_eqb (suc (size ans)) 0 (λ z. omega (arith, z)))
              (ap (λ (x : List ℕ). monitor_bytes r.next ++ x) L.after);
        }

    -- where the run stops
    abbrev At : ℕ → Type 0
    At x = Feeds s at j L.bytes ans (stopped x ans at j L.bytes)

    stops_there : Stops s at j m → At (stop_number s at j m)
    stops_there h = elim (split (eqb m.tally.broken.at 0)) [
      | inl z ↦ by (dated_at s at j m.tally.now) refl (eqb-true m.tally.broken.at 0 z) h
      | inr z ↦ broken z
    ]
      where
        broken : eqb m.tally.broken.at 0 ≡ false → At (stop_number s at j m)
        broken z = rw z (at_break (ap is_broken L.monitor ∙ rw z))

        whole : m.tally.broken.at ≡ 0 → is_broken (monitor_in L.bytes) ≡ false
        whole b = unbroken (rw (eq-eqb m.tally.broken.at 0 b))

        -- the number, by what stands there
        number : m.tally.broken.at ≡ 0 → (c : Checked)
            → step_at s at j m.tally.now m.tally.records ≡ Over c → checked_number c ≡ stop_number s at j m
        number b c q =
            stop_ended s at j m b c c refl (sym (ap (ended_by m.tally.records) q)) (checked_number c) refl

        by : (x : DatedRead) → dated_at s at j m.tally.now ≡ x → m.tally.broken.at ≡ 0 → Stops s at j m
            → At (stop_number s at j m)
        by x q b (inl n) = absurd (n b)
        by (Ok None) q b (inr c) =
            subst At (number b _ (came_to s at j m.tally.now m.tally.records (Ok None) q))
            (at_end (whole b) (there (Ok None) q))
        by (Err (undated.NoRecord f)) q b (inr c) =
            subst At (number b _ (came_to s at j m.tally.now m.tally.records (Err (undated.NoRecord f)) q))
            (at_no_record f (whole b) (there (Err (undated.NoRecord f)) q))
        by (Err (undated.NoMoment f)) q b (inr c) =
            subst At (number b _ (came_to s at j m.tally.now m.tally.records (Err (undated.NoMoment f)) q))
            (at_no_moment f (whole b) (there (Err (undated.NoMoment f)) q))
        by (Ok (Some d)) q b (inr c) =
            let e = d.item in
            let i = d.kind in
            let past = d.past in
            let z = came_to s at j m.tally.now m.tally.records (dated_record e i past) q in
            elim (split (ltb (time_of e).0 m.tally.now.0)) [
              | inl t ↦ subst At (number b (Err (fault (NoMoment Falls) at)) (z ∙ rw t)) (falls t)
              | inr t ↦ elim (split (leb most_records m.tally.records)) [
                | inl r ↦ subst At (number b (Err (fault TooMany at)) (z ∙ rw (t, r))) (many t r)
                | inr r ↦
                    let w : Going past i (time_of e) (m.tally.records + 1) ≡ Over c.0 = rw (t, r) at (sym z ∙ c.1) in
                    let v : ◌≡◌ {A = ℕ} 0 1 = cc in absurd (omega arith)
              ]
            ]
          where
            falls : ltb (time_of d.item).0 m.tally.now.0 ≡ true → At (feed_refusal_number TimeFalls)
            falls t =
                at_refused d.item d.kind d.past TimeFalls L.bytes (whole b) (there (dated_record d.item d.kind d.past) q)
                (refused_there d.item TimeFalls (falls_fed _ (monitor_at m) (log_record d.item) b t))

            many : ltb (time_of d.item).0 m.tally.now.0 ≡ false → leb most_records m.tally.records ≡ true
                → At (feed_refusal_number TooManyRecords)
            many t r =
                at_refused d.item d.kind d.past TooManyRecords L.bytes (whole b) (there (dated_record d.item d.kind d.past) q)
                (refused_there d.item TooManyRecords (many_fed _ (monitor_at m) (log_record d.item) b t r))

  -- all of them
  led : {m : Monitor} → monitor_in l ≡ m → Fit (chart_of (chart_in l)) (monitor_at m) → {at : ℕ} {j : Kind} {n : Monitor}
      {ans : Snoc Answer} → Takes (chart_of (chart_in l)) s k m at j n ans → Led at j n ans
  led q F none_yet = record {
    bytes = l;
    monitor = q;
    after = refl;
    long_too = refl;
    fit = F;
    back = λ o G. G;
    is_bytes = refl;
  }
  led q F (one_more e i past r T b d f read) = taken_there (led q F T) e i past r b d f read

  pub fed_all : {m : Monitor} → monitor_in l ≡ m → Fit (chart_of (chart_in l)) (monitor_at m) → (at : ℕ) (j : Kind)
      (n : Monitor) (ans : Snoc Answer) → Takes (chart_of (chart_in l)) s k m at j n ans → Stops s at j n
      → Feeds s 0 k l ε (stopped (stop_number s at j n) ans at j (bytes_after l (size ans) n))
  fed_all q F at j n ans T h =
      let L = led q F T in
      subst (λ (x : List ℕ). Feeds s 0 k l ε (stopped (stop_number s at j n) ans at j x)) L.is_bytes
      (L.back _ (stops_there L h))
