-- Every list of feeds: what is read by the source's steps is what the machine says, and so what the stretches and rows
-- say. One feed leaves the monitor as it is, or takes the record. Assumes nothing.
use mathlib.Core.Path.{◌≡◌, refl, sym, ap, ap₂, ◌∙◌, fun_ext}
use mathlib.Core.Logic.{inl, inr}
use mathlib.Core.Bool.{false}
use Prim.Native.Nat.{ℕ, ◌≤◌, ◌<◌}
use lib.Dec.{eqb, ltb, leb}
use borrow.Author.Tests.{eqb-true, eqb-false, eq-eqb, ltb-false, leb-false, ltb-true, leb-true, lt-ltb, le-ltb}
use borrow.Author.Tests.{le-leb}
use Rattle.base.specs.Lists.{Snoc, ε, ◌▸◌}
use Rattle.model.specs.Answers.{time_falls, too_many_records, most_records}
use Rattle.rounds.specs.Chart.{Chart, Accepted}
use Rattle.rounds.specs.Rows.{LogRecord, values}
use Rattle.rounds.specs.Feeds.{Answer, refused, broken_at}
use Rattle.rounds.specs.Machine.{Monitor, Step, fresh, feed, after, answers, Fit}
use Rattle.rounds.specs.Demand3.{Agrees, Meaning}
use Rattle.base.proofs.Bools.{split}
use Rattle.rounds.proofs.Feeds.{feed_broken, monitor_agrees}
use Rattle.rounds.proofs.Fitness.{after_fit}
use Rattle.paper.specs.Runs.{Config, initial, config_at}
use Rattle.paper.specs.Taken.{Status, status_of, Acceptable, Read, nothing, takes, falls, overflows, stays_broken}
use Rattle.paper.proofs.Taking.{given, only}

module _ (C : Chart) where
  fresh_config : config_at C 0 fresh.place ≡ initial
  unfolding config_at values
  fresh_config = ap {B = Config} (λ (v : ℕ → ℕ). record { cut = λ i. false; valuation = v })
      (fun_ext (λ x. elim (split (ltb x C.clocks)) [ inl r ↦ rw r | inr r ↦ rw r ]))

  -- feeding's first tests
  feed_falls : (m : Monitor) (e : LogRecord) → m.tally.broken.at ≡ 0 → e.time < m.tally.now
      → feed C m e ≡ record { answer = refused time_falls; next = m }
  unfolding feed
  feed_falls m e b h = rw (eq-eqb m.tally.broken.at 0 b, lt-ltb e.time m.tally.now h)

  feed_overflows : (m : Monitor) (e : LogRecord) → m.tally.broken.at ≡ 0 → m.tally.now ≤ e.time
      → most_records ≤ m.tally.records
      → feed C m e ≡ record { answer = refused too_many_records; next = m }
  unfolding feed
  feed_overflows m e b h r =
      rw (
        eq-eqb m.tally.broken.at 0 b,
        le-ltb e.time m.tally.now h,
        le-leb most_records m.tally.records r,
      )

module _ (C : Chart) (A : Accepted C) where
  read_one : (fs : Snoc LogRecord) (ans : Snoc Answer) (m : Monitor) (e : LogRecord) → Fit C m
      → Read C fs ans (status_of C m)
      → Read C (fs ▸ e) (ans ▸ (feed C m e).answer) (status_of C (feed C m e).next)
  read_one fs ans m e F R = elim (split (eqb m.tally.broken.at 0)) [
    | inl b ↦
        let b' : m.tally.broken.at ≡ 0 = eqb-true m.tally.broken.at 0 b in
        elim (split (ltb e.time m.tally.now)) [
          | inl t ↦
              let t' : e.time < m.tally.now = ltb-true e.time m.tally.now t in
              rw (feed_falls C m e b' t') (falls e R b' t')
          | inr t ↦
              let t' : m.tally.now ≤ e.time = ltb-false e.time m.tally.now t in
              elim (split (leb most_records m.tally.records)) [
                | inl r ↦
                    let r' : most_records ≤ m.tally.records = leb-true most_records m.tally.records r in
                    rw (feed_overflows C m e b' t' r') (overflows e R b' t' r')
                | inr r ↦
                    let r' : m.tally.records < most_records = leb-false most_records m.tally.records r in
                    takes e R b' t' r' (given C A m e (record { fit = F; unbroken = b'; forward = t'; room = r' }))
              ]
        ]
    | inr b ↦
        rw (feed_broken C m e (eqb-false m.tally.broken.at 0 b))
        (stays_broken e R (eqb-false m.tally.broken.at 0 b))
  ]

  pub all_given : (fs : Snoc LogRecord) → Read C fs (answers C fs) (status_of C (after C fs))
  unfolding after answers
  all_given ε = rw (fresh_config C) nothing
  all_given (fs ▸ e) = read_one fs (answers C fs) (after C fs) e (after_fit C A fs) (all_given fs)

  abbrev ReadsAs : Snoc LogRecord → Snoc Answer → Status → Type 0
  ReadsAs fs ans x = (ans ≡ answers C fs) × (x ≡ status_of C (after C fs))

  -- one more feed that leaves the monitor as it is
  unchanged : (fs : Snoc LogRecord) (ans : Snoc Answer) (x : Status) (e : LogRecord) (a : Answer) → ReadsAs fs ans x
      → feed C (after C fs) e ≡ record { answer = a; next = after C fs } → ReadsAs (fs ▸ e) (ans ▸ a) x
  unfolding after answers
  unchanged fs ans x e a I p = (
    ap₂ {C = Snoc Answer} (λ (l : Snoc Answer) (k : Answer). l ▸ k) I.0
        (sym (ap {B = Answer} (λ (u : Step). u.answer) p)),
    I.1 ∙ sym (ap {B = Status} (λ (u : Step). status_of C u.next) p),
  )

  reads_as : {fs : Snoc LogRecord} {ans : Snoc Answer} {x : Status} → Read C fs ans x → ReadsAs fs ans x
  unfolding after answers
  reads_as nothing = (refl, rw (fresh_config C))
  reads_as (takes {fs} {ans} {x} {y} {a} e R b t r T) =
      let I : ReadsAs fs ans x = reads_as R in
      let Q : Acceptable C (after C fs) e
      = record { fit = after_fit C A fs; unbroken = rw I.1 at b; forward = rw I.1 at t; room = rw I.1 at r } in
      let O = only C A (after C fs) e Q y a (rw I.1 at T) in
      (ap₂ {C = Snoc Answer} (λ (l : Snoc Answer) (k : Answer). l ▸ k) I.0 O.1, O.0)
  reads_as (falls {fs} {ans} {x} e R b t) =
      let I : ReadsAs fs ans x = reads_as R in
      unchanged fs ans x e (refused time_falls) I (feed_falls C (after C fs) e (rw I.1 at b) (rw I.1 at t))
  reads_as (overflows {fs} {ans} {x} e R b t r) =
      let I : ReadsAs fs ans x = reads_as R in
      unchanged fs ans x e (refused too_many_records) I
      (feed_overflows C (after C fs) e (rw I.1 at b) (rw I.1 at t) (rw I.1 at r))
  reads_as (stays_broken {fs} {ans} {x} e R b) =
      let I : ReadsAs fs ans x = reads_as R in
      unchanged fs ans x e (broken_at x.tally.broken.at x.tally.broken.reason x.tally.broken.cause) I
      (rw I.1 (feed_broken C (after C fs) e (rw I.1 at b)))

  pub all_only : (fs : Snoc LogRecord) (ans : Snoc Answer) (x : Status) → Read C fs ans x → ReadsAs fs ans x
  all_only fs ans x R = reads_as R

  pub as_rows : {fs : Snoc LogRecord} (M : Meaning C fs) (ans : Snoc Answer) (x : Status) → Read C fs ans x
      → (ans ≡ M.ans)
      × (m : Monitor) × Agrees C M.accepted M.stretches M.last m × (x ≡ status_of C m)
  as_rows {fs} M ans x R =
      let I = reads_as R in
      let G = monitor_agrees C A M in
      (I.0 ∙ G.0, after C fs, G.1, I.1)
