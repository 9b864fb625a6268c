-- Every list of feeds has one meaning: it is cut into stretches in one way. Assumes nothing.
use mathlib.Core.Path.{◌≡◌, refl, sym, ap, ◌∙◌}
use mathlib.Core.Logic.{inl, inr}
use mathlib.Core.Bool.{◌&&◌}
use Prim.Native.Nat.{ℕ, suc}
use Rattle.base.specs.Lists.{Snoc, ε, ◌▸◌, size}
use Rattle.rounds.specs.Chart.{Chart, Accepted}
use Rattle.rounds.specs.Rows.{LogRecord, Row, Lawful}
use Rattle.rounds.specs.Feeds.{refusal, kept, dropped, broken, Stretch, Last, unended, after_break, last_after}
use Rattle.rounds.specs.Feeds.{Answer, runs_on, ends, Missed, Fits, refuses, once, twice, again, Fed, none_yet}
use Rattle.rounds.specs.Feeds.{one_more}
use Rattle.rounds.specs.Machine.{Monitor, Step, missed, fits_opening, reopened, after}
use Rattle.rounds.specs.Demand3.{Unbroken, AtLast, Agrees, Meaning, Same}
use Rattle.base.proofs.Bools.{split, clash}
use Rattle.base.proofs.Facts.{found, none_some}
use Rattle.rounds.proofs.Endings.{FedOne, Goes, one_outcome, ended, Comes, on, keeps, drops, breaks}
use Rattle.rounds.proofs.Offers.{opens, comes_unbroken, reopened_unbroken, both_say, both_are}
use Rattle.rounds.proofs.Feeds.{besides_opened, besides, agrees}

module _ (C : Chart) (A : Accepted C) where
  meant : {fs : Snoc LogRecord} {ans : Snoc Answer} {rs : Snoc LogRecord} {es : Snoc Stretch} {last : Last}
      → Fed C fs ans rs es last → Meaning C fs
  meant F = record { ans = _; accepted = _; stretches = _; last = _; fed = F }

  -- whatever an offer comes to, the stretch goes on so
  record Going (o : ℕ) (s : Snoc LogRecord) (e : LogRecord) (n : ℕ) (es : Snoc Stretch) : Type 0 where
    answer : Answer
    then : Snoc Stretch
    last : Last
    goes : Goes C o s e n es answer then last

  going : {o : ℕ} {s : Snoc LogRecord} {e : LogRecord} (n : ℕ) (es : Snoc Stretch) (q : Row) (lawful : Lawful C o s q)
      {m : Monitor} {v : Step}
      → Comes C A o s e q lawful m v → Going o s e n es
  going n es q lawful (on r a L nf O) = record { answer = _; then = _; last = _; goes = runs_on q r a lawful L nf O }
  going n es q lawful (keeps E) = record { answer = _; then = _; last = _; goes = ends kept E }
  going n es q lawful (drops x E) = record { answer = _; then = _; last = _; goes = ends (dropped x) E }
  going n es q lawful (breaks k x d E) = record { answer = _; then = _; last = _; goes = ends (broken k x) E }

  -- a list with a meaning has one with any further feed
  extend : (fs : Snoc LogRecord) (e : LogRecord) (ans : Snoc Answer) (rs : Snoc LogRecord) (es : Snoc Stretch)
      (last : Last)
      → Fed C fs ans rs es last → Meaning C (fs ▸ e)
  unfolding AtLast
  extend fs e ans rs es (after_break k x) F = meant (one_more F again)
  extend fs e ans rs es (unended o s) F = elim (found (refusal rs e)) [
    | inl h ↦
        let m = after C fs in
        let T : Unbroken C o s m = (agrees C A F).1.at_last in
        elim (split (missed C m e && fits_opening C e)) [
          | inl t ↦
              let R : Unbroken C e.time ε (reopened C m e) = reopened_unbroken C A e m T in
              let D : Missed C o s e × Fits C e = both_say C A e m T t in
              meant (one_more F (twice h D.0 D.1 (going (suc (size rs)) _ R.row R.lawful
              (comes_unbroken C A e (reopened C m e) R (besides_opened C A e.time rs R.row R.lawful))).goes))
          | inr t ↦ meant (one_more F (once h (λ D. clash (both_are C A e m T D.0 D.1) t)
              (going (suc (size rs)) _ T.row T.lawful
              (comes_unbroken C A e m T (besides C A F T.row T.lawful))).goes))
        ]
    | inr f ↦ meant (one_more F (refuses f.0 f.1))
  ]

  pub cut_exists : (fs : Snoc LogRecord) → Meaning C fs
  cut_exists ε = meant none_yet
  cut_exists (fs ▸ e) =
      let M : Meaning C fs = cut_exists fs in
      extend fs e M.ans M.accepted M.stretches M.last M.fed

  -- a stretch goes on in one way
  goes_same : {o n : ℕ} {s : Snoc LogRecord} {e : LogRecord} {es es₁ es₂ : Snoc Stretch} {a b : Answer} {last₁ last₂ : Last}
      (q : Row)
      → Lawful C o s q → Goes C o s e n es a es₁ last₁ → Goes C o s e n es b es₂ last₂
      → (es₁ ≡ es₂) × (last₁ ≡ last₂)
  goes_same q K (runs_on p r a M L nf O) (runs_on p' r' a' M' L' nf' O') = (refl, refl)
  goes_same {o} {s} {e} q K (runs_on p r a M L nf O) (ends x E) = ended C A o s e q K E r L nf
  goes_same {o} {s} {e} q K (ends x E) (runs_on p r a M L nf O) = ended C A o s e q K E r L nf
  goes_same {o} {s} {e} {es} q K (ends x E) (ends y E') =
      let w : x ≡ y = one_outcome C A o s e q K E E' in (
        ap {B = Snoc Stretch} (λ z. es ▸ record { opening = o; records = s ▸ e; outcome = z }) w,
        ap (λ z. last_after z e.time) w,
      )

  -- one feed to a monitor that agrees has one meaning
  one_same : {rs rs₁ rs₂ : Snoc LogRecord} {es es₁ es₂ : Snoc Stretch} {last last₁ last₂ : Last} {e : LogRecord} {a b : Answer}
      → (m : Monitor) → Agrees C rs es last m → FedOne C rs es e last a rs₁ es₁ last₁
      → FedOne C rs es e last b rs₂ es₂ last₂
      → (rs₁ ≡ rs₂) × (es₁ ≡ es₂) × (last₁ ≡ last₂)
  unfolding AtLast
  one_same m G (refuses k h) (refuses k' h') = (refl, refl, refl)
  one_same m G (refuses k h) (once h' n W) = none_some h' h
  one_same m G (refuses k h) (twice h' M F W) = none_some h' h
  one_same m G (once h n W) (refuses k' h') = none_some h h'
  one_same m G (once {o} {s} h n W) (once h' n' W') =
      let T : Unbroken C o s m = G.at_last in
      let S = goes_same T.row T.lawful W W' in
      (refl, S.0, S.1)
  one_same m G (once h n W) (twice h' M F W') = absurd (n (M, F))
  one_same m G (twice h M F W) (refuses k' h') = none_some h h'
  one_same m G (twice h M F W) (once h' n W') = absurd (n (M, F))
  one_same {e} m G (twice h M F W) (twice h' M' F' W') =
      let S = goes_same ε (opens C A e.time) W W' in
      (refl, S.0, S.1)
  one_same m G again again = (refl, refl, refl)

  fed_same : {fs : Snoc LogRecord} {ans ans' : Snoc Answer} {rs rs' : Snoc LogRecord} {es es' : Snoc Stretch} {last last' : Last}
      → Fed C fs ans rs es last → Fed C fs ans' rs' es' last' → (rs ≡ rs') × (es ≡ es') × (last ≡ last')
  fed_same none_yet none_yet = (refl, refl, refl)
  fed_same (one_more {fs} F N) (one_more F' N') =
      let S = fed_same F F' in
      one_same (after C fs) (agrees C A F).1 N (rw (← S.0, ← S.1, ← S.2) at N')

  pub cut_unique : {fs : Snoc LogRecord} (M M' : Meaning C fs) → Same M M'
  cut_unique M M' =
      let S = fed_same M.fed M'.fed in
      record {
        same_answers = sym (agrees C A M.fed).0 ∙ (agrees C A M'.fed).0;
        same_accepted = S.0;
        same_stretches = S.1;
        same_last = S.2;
      }
