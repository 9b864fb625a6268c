-- The machine's answers and monitor after a list of feeds are what the list means. Assumes nothing.
use mathlib.Core.Path.{◌≡◌, refl, sym, ap, ap₂, ◌∙◌, subst, fun_ext}
use mathlib.Core.Logic.{◌≢◌, inl, inr}
use mathlib.Core.Bool.{false, not}
use Prim.Native.Nat.{ℕ, suc}
use native.Mathlib.Omega.{arith}
use lib.Dec.{eqb, ltb, leb}
use borrow.Author.Tests.{eq-eqb, ne_eqb}
use Rattle.base.specs.Lists.{Snoc, ε, ◌▸◌, size, on_found}
use Rattle.model.specs.Answers.{most_records}
use Rattle.model.specs.Monitor.{no_cause}
use Rattle.rounds.specs.Chart.{Chart, Accepted}
use Rattle.rounds.specs.Rows.{LogRecord, Row, stands, opened, Lawful, Full}
use Rattle.rounds.specs.Feeds.{last_moment, refusal, Outcome, kept, dropped, broken, Stretch, Last, unended}
use Rattle.rounds.specs.Feeds.{after_break, last_after, Ends, Answer}
use Rattle.rounds.specs.Feeds.{refused, broken_at, ending, Onward, runs_on, ends, refuses, once, twice, again, Fed}
use Rattle.rounds.specs.Feeds.{none_yet, one_more, kept_among, dropped_among}
use Rattle.rounds.specs.Machine.{Monitor, Step, opening, go_on, keep_round, drop_round, break_round, reopened, accept}
use Rattle.rounds.specs.Machine.{feed, after, answers}
use Rattle.rounds.specs.Demand3.{Unbroken, Broken, AtLast, Agrees, Meaning}
use Rattle.base.proofs.Bools.{split}
use Rattle.rounds.proofs.Machine.{opening_lacks}
use Rattle.rounds.proofs.Rows.{one_row}
use Rattle.rounds.proofs.Rounds.{place_of}
use Rattle.rounds.proofs.Endings.{FedOne, Goes, onward_same, one_outcome, ended, Comes, on, keeps, drops}
use Rattle.rounds.proofs.Endings.{breaks}
use Rattle.rounds.proofs.Offers.{opens, opens_unbroken, comes_unbroken, reopened_unbroken, accept_once}
use Rattle.rounds.proofs.Offers.{accept_twice}

module _ (C : Chart) (m : Monitor) (e : LogRecord) where
  -- feeding a monitor without a break refuses what the accepted records say is refused
  pub feed_unbroken : {rs : Snoc LogRecord} {es : Snoc Stretch} {o : ℕ} {s : Snoc LogRecord}
      → Agrees C rs es (unended o s) m
      → feed C m e ≡ on_found (refusal rs e) (accept C m e) (λ k. record { answer = refused k; next = m })
  unfolding feed refusal AtLast
  feed_unbroken {rs} G =
      let b : not (eqb m.tally.broken.at 0) ≡ false = ap not
      (eq-eqb m.tally.broken.at 0 G.at_last.no_break_case) in
      let n : ltb e.time m.tally.now ≡ ltb e.time (last_moment rs) = ap (ltb e.time) G.now in
      let r : leb most_records m.tally.records ≡ leb most_records (size rs) = ap (leb most_records) G.records in
      elim (split (ltb e.time (last_moment rs))) [
        | inl t ↦ rw (b, n ∙ t, t)
        | inr t ↦ elim (split (leb most_records (size rs))) [
          | inl u ↦ rw (b, n ∙ t, r ∙ u, t, u)
          | inr u ↦ rw (b, n ∙ t, r ∙ u, t, u)
        ]
      ]

  pub feed_broken : m.tally.broken.at ≢ 0
      → feed C m e ≡ record {
        answer = broken_at m.tally.broken.at m.tally.broken.reason m.tally.broken.cause;
        next = m;
      }
  unfolding feed
  feed_broken h = rw (ap not (ne_eqb m.tally.broken.at 0 h))

module _ (C : Chart) (A : Accepted C) where
  -- what follows from the list besides: no lawful row of the last stretch is complete; a record was accepted before a
  -- break
  abbrev pub Besides : Last → Snoc LogRecord → Type 0
  Besides (unended o s) rs = (r : Row) → Lawful C o s r → ¬ Full C (stands r)
  Besides (after_break k x) rs = size rs ≢ 0

  pub besides_opened : (t : ℕ) (rs : Snoc LogRecord) → Besides (unended t ε) rs
  besides_opened t rs r L =
      subst (λ (x : Row). ¬ Full C (stands x)) (one_row C A t ε ε r (opens C A t) L) (opening_lacks C A)

  besides_after : (x : Outcome) (t : ℕ) (rs : Snoc LogRecord) (e : LogRecord) → Besides (last_after x t) (rs ▸ e)
  besides_after kept t rs e = besides_opened t (rs ▸ e)
  besides_after (dropped x) t rs e = besides_opened t (rs ▸ e)
  besides_after (broken k x) t rs e = λ z. omega (arith, z)

  besides_goes : (rs : Snoc LogRecord) {es es' : Snoc Stretch} {o n : ℕ} {s : Snoc LogRecord} {last : Last} {e : LogRecord}
      {a : Answer}
      → Goes C o s e n es a es' last → Besides last (rs ▸ e)
  besides_goes rs {o} {s} {e} (runs_on q r a M L f O) =
      λ r' L'. subst (λ (x : Row). ¬ Full C (stands x)) (one_row C A o (s ▸ e) r r' L L') f
  besides_goes rs {e} (ends x E) = besides_after x e.time rs e

  besides_one : {rs rs' : Snoc LogRecord} {es es' : Snoc Stretch} {last last' : Last} {e : LogRecord} {a : Answer}
      → FedOne C rs es e last a rs' es' last' → Besides last rs → Besides last' rs'
  besides_one (refuses k h) B = B
  besides_one {rs} (once h n W) B = besides_goes rs W
  besides_one {rs} (twice h M F W) B = besides_goes rs W
  besides_one again B = B

  pub besides : {fs : Snoc LogRecord} {ans : Snoc Answer} {rs : Snoc LogRecord} {es : Snoc Stretch} {last : Last}
      → Fed C fs ans rs es last → Besides last rs
  besides none_yet = besides_opened 0 ε
  besides (one_more F N) = besides_one N (besides F)

  record StepAgrees (a : Answer) (rs : Snoc LogRecord) (es : Snoc Stretch) (last : Last) (v : Step) : Type 0 where
    answer : v.answer ≡ a
    next : Agrees C rs es last v.next

  -- the monitor's counts are those of these records and stretches
  record Counts (rs : Snoc LogRecord) (es : Snoc Stretch) (m : Monitor) : Type 0 where
    records : m.tally.records ≡ size rs
    kept : m.tally.kept ≡ kept_among es
    dropped : m.tally.dropped ≡ dropped_among es

  -- one offer of an accepted record
  module _ (m : Monitor) (rs : Snoc LogRecord) (es : Snoc Stretch) (o : ℕ) (s : Snoc LogRecord) (e : LogRecord)
      (q : Row)
      (lawful : Lawful C o s q) (G : Counts rs es m) where
    after_on : {v : Step} → Comes C A o s e q lawful m v → (p r : Row) (a : Answer) → Lawful C o s p
        → Lawful C o (s ▸ e) r
        → ¬ Full C (stands r) → Onward C p r a → StepAgrees a (rs ▸ e) es (unended o (s ▸ e)) v
    unfolding go_on place_of AtLast
    after_on (on r' b L' h' O') p r a M L h O =
        let w : q ≡ p = one_row C A o s q p lawful M in
        let z : r' ≡ r = one_row C A o (s ▸ e) r' r L' L in
        record {
          answer = onward_same (rw (w, z) at O') O;
          next = record {
            now = refl;
            records = ap suc G.records;
            kept = G.kept;
            dropped = G.dropped;
            at_last = record {
              row = r';
              lawful = L';
              has_fired = refl;
              has_clocks = refl;
              no_break_case = refl;
              no_reason = refl;
              no_cause_case = refl;
            };
          };
        }
    after_on (keeps E) p r a M L h O = ended C A o s e q lawful E r L h
    after_on (drops x E) p r a M L h O = ended C A o s e q lawful E r L h
    after_on (breaks k x d E) p r a M L h O = ended C A o s e q lawful E r L h

    abbrev Ended : Outcome → Step → Type 0
    Ended x v = StepAgrees (ending x (suc (size rs))) (rs ▸ e)
        (es ▸ record { opening = o; records = s ▸ e; outcome = x }) (last_after x e.time) v

    after_ends : {v : Step} → Comes C A o s e q lawful m v → (x : Outcome) → Ends C o s e x → Ended x v
    unfolding keep_round drop_round break_round opening AtLast
    after_ends (on r a L h O) x E = ended C A o s e q lawful E r L h
    after_ends (keeps E') x E = subst (λ (y : Outcome). Ended y (keep_round C m e)) (one_outcome C A o s e q lawful E' E)
        (record {
          answer = refl;
          next = record {
            now = refl;
            records = ap suc G.records;
            kept = ap suc G.kept;
            dropped = G.dropped;
            at_last = opens_unbroken C A e.time (keep_round C m e).next refl refl refl;
          };
        })
    after_ends (drops z E') x E =
        subst (λ (y : Outcome). Ended y (drop_round C m e z)) (one_outcome C A o s e q lawful E' E)
        (record {
          answer = refl;
          next = record {
            now = refl;
            records = ap suc G.records;
            kept = G.kept;
            dropped = ap suc G.dropped;
            at_last = opens_unbroken C A e.time (drop_round C m e z).next refl refl refl;
          };
        })
    after_ends (breaks k z d E') x E =
        subst (λ (y : Outcome). Ended y (break_round C m e k z d)) (one_outcome C A o s e q lawful E' E)
        (record {
          answer = ap (λ (n : ℕ). broken_at (suc n) k z) G.records;
          next = record {
            now = refl;
            records = ap suc G.records;
            kept = G.kept;
            dropped = G.dropped;
            at_last = record { at_last_accepted = ap suc G.records; of_stretch = refl; has_cause = refl };
          };
        })

    goes_agrees : {v : Step} {a : Answer} {es' : Snoc Stretch} {last : Last} → Comes C A o s e q lawful m v
        → Goes C o s e (suc (size rs)) es a es' last → StepAgrees a (rs ▸ e) es' last v
    goes_agrees K (runs_on p r a M L h O) = after_on K p r a M L h O
    goes_agrees K (ends x E) = after_ends K x E

  counts : {rs : Snoc LogRecord} {es : Snoc Stretch} {last : Last} {m : Monitor} → Agrees C rs es last m
      → Counts rs es m
  counts G = record { records = G.records; kept = G.kept; dropped = G.dropped }

  -- between two offers the stretch so far counts as dropped
  recounted : {rs : Snoc LogRecord} {es : Snoc Stretch} {last : Last} {m : Monitor} (e : LogRecord) (o : ℕ)
      (s : Snoc LogRecord)
      → Agrees C rs es last m
      → Counts rs (es ▸ record { opening = o; records = s ▸ e; outcome = dropped no_cause }) (reopened C m e)
  unfolding reopened
  recounted e o s G = record { records = G.records; kept = G.kept; dropped = ap suc G.dropped }

  -- one feed to a monitor that agrees
  feed_agrees : {rs rs' : Snoc LogRecord} {es es' : Snoc Stretch} {last last' : Last} {e : LogRecord} {a : Answer}
      (m : Monitor)
      → Agrees C rs es last m → Besides last rs → FedOne C rs es e last a rs' es' last'
      → StepAgrees a rs' es' last' (feed C m e)
  unfolding AtLast
  feed_agrees {e} m G B (refuses k h) = rw (feed_unbroken C m e G, h) (record { answer = refl; next = G })
  feed_agrees {rs} {es} {e} m G B (once {o} {s} h n W) =
      let T : Unbroken C o s m = G.at_last in
      rw (feed_unbroken C m e G, h, accept_once C A e m T n)
      (goes_agrees m rs es o s e T.row T.lawful (counts G)
      (comes_unbroken C A e m T (B T.row T.lawful)) W)
  feed_agrees {rs} {es} {e} m G B (twice {o} {s} h M F W) =
      let T : Unbroken C o s m = G.at_last in
      let R : Unbroken C e.time ε (reopened C m e) = reopened_unbroken C A e m T in
      rw (feed_unbroken C m e G, h, accept_twice C A e m T M F)
      (goes_agrees (reopened C m e) rs (es ▸ record { opening = o; records = s ▸ e; outcome = dropped no_cause })
      e.time ε e R.row R.lawful (recounted e o s G)
      (comes_unbroken C A e (reopened C m e) R (besides_opened e.time rs R.row R.lawful)) W)
  feed_agrees {rs} {e} m G B (again {k} {x}) =
      let T : Broken k x rs m = G.at_last in
      rw (feed_broken C m e (λ z. B (sym T.at_last_accepted ∙ z)))
      (record { answer = rw (T.at_last_accepted, T.of_stretch, T.has_cause); next = G })

  starts : (answers C ε ≡ ε) × Agrees C ε ε (unended 0 ε) (after C ε)
  unfolding answers after AtLast opened
  starts = (
    refl,
    record {
      now = refl;
      records = refl;
      kept = refl;
      dropped = refl;
      at_last = opens_unbroken C A 0 (after C ε) refl
          (fun_ext (λ c. elim (split (ltb c C.clocks)) [ inl t ↦ rw t | inr t ↦ rw t ])) refl;
    },
  )

  -- whatever the feeds mean, the machine's answers and monitor say it
  pub agrees : {fs : Snoc LogRecord} {ans : Snoc Answer} {rs : Snoc LogRecord} {es : Snoc Stretch} {last : Last}
      → Fed C fs ans rs es last → (answers C fs ≡ ans) × Agrees C rs es last (after C fs)
  unfolding answers after
  agrees none_yet = starts
  agrees (one_more {fs} {ans} {e} F N) =
      let S = feed_agrees (after C fs) (agrees F).1 (besides F) N in
      (ap₂ {C = Snoc Answer} (λ l b. l ▸ b) (agrees F).0 S.answer, S.next)

  pub monitor_agrees : {fs : Snoc LogRecord} (M : Meaning C fs)
      → (answers C fs ≡ M.ans) × Agrees C M.accepted M.stretches M.last (after C fs)
  monitor_agrees M = agrees M.fed
