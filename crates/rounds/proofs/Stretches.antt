-- Each stretch of a list's meaning, by the feeds that made it: the round ran on up to each record before its end.
-- Assumes nothing.
use mathlib.Core.Path.{◌≡◌, refl, sym, subst, ◌∙◌}
use Prim.Native.Nat.{ℕ}
use Rattle.base.specs.Lists.{Snoc, ε, ◌▸◌, EachIn, Beginning, all_of_it, shorter}
use Rattle.rounds.specs.Chart.{Chart, Accepted}
use Rattle.rounds.specs.Rows.{LogRecord, Row, stands, Lawful, Full}
use Rattle.rounds.specs.Feeds.{Outcome, kept, dropped, broken, Stretch, Last, unended, after_break, last_after}
use Rattle.rounds.specs.Feeds.{Ends, unplaced_prechart, Answer, runs_on, ends, refuses, once, twice, again, Fed}
use Rattle.rounds.specs.Feeds.{none_yet, one_more}
use Rattle.rounds.specs.Demand3.{RunsOn, Ended, Meaning}
use Rattle.base.proofs.Facts.{snoc_same_init, snoc_same_last}
use Rattle.rounds.proofs.Machine.{opening_lacks}
use Rattle.rounds.proofs.Endings.{FedOne, Goes, one_outcome, ended}
use Rattle.rounds.proofs.Offers.{opens}

module _ (C : Chart) (A : Accepted C) where
  -- the stretch that has just opened
  opened : (o : ℕ) → RunsOn C o ε
  unfolding RunsOn
  opened o p all_of_it = (ε, opens C A o, opening_lacks C A)

  longer : (o : ℕ) (s : Snoc LogRecord) (e : LogRecord) → RunsOn C o s → (r : Row) → Lawful C o (s ▸ e) r
      → ¬ Full C (stands r)
      → RunsOn C o (s ▸ e)
  unfolding RunsOn
  longer o s e R r L f p all_of_it = (r, L, f)
  longer o s e R r L f p (shorter b) = R p b

  -- what runs on in the last stretch
  abbrev AtLast : Last → Type 0
  AtLast (unended o s) = RunsOn C o s
  AtLast (after_break k x) = Unit {0}

  after_it : (x : Outcome) (t : ℕ) → AtLast (last_after x t)
  after_it kept t = opened t
  after_it (dropped x) t = opened t
  after_it (broken k x) t = tt

  record Cut (es : Snoc Stretch) (last : Last) : Type 0 where
    ended : EachIn (λ before x. Ended C x) es
    running : AtLast last

  goes : {n : ℕ} {es es' : Snoc Stretch} {o : ℕ} {s : Snoc LogRecord} {last : Last} {e : LogRecord} {a : Answer}
      → Cut es (unended o s) → Goes C o s e n es a es' last → Cut es' last
  goes {o} {s} {e} K (runs_on q r a M L f O) = record { ended = K.ended; running = longer o s e K.running r L f }
  goes {s} {e} K (ends x E) = record {
    ended = (K.ended, record { before = s; last = e; parts = refl; ran_on = K.running; ends = E });
    running = after_it x e.time;
  }

  one : {rs rs' : Snoc LogRecord} {es es' : Snoc Stretch} {last last' : Last} {e : LogRecord} {a : Answer}
      → Cut es last → FedOne C rs es e last a rs' es' last' → Cut es' last'
  one K (refuses k h) = K
  one K (once h n W) = goes K W
  one {e} K (twice {s} h M F W) = goes
      (record {
        ended = (
          K.ended,
          record {
            before = s;
            last = e;
            parts = refl;
            ran_on = K.running;
            ends = unplaced_prechart M.row M.unplaced M.lawful M.in_prechart_case;
          },
        );
        running = opened e.time;
      })
      W
  one K again = K

  cuts : {fs : Snoc LogRecord} {ans : Snoc Answer} {rs : Snoc LogRecord} {es : Snoc Stretch} {last : Last}
      → Fed C fs ans rs es last → Cut es last
  cuts none_yet = record { ended = tt; running = opened 0 }
  cuts (one_more F N) = one (cuts F) N

  pub each_stretch : {fs : Snoc LogRecord} (M : Meaning C fs) → EachIn (λ before x. Ended C x) M.stretches
  each_stretch M = (cuts M.fed).ended

  pub last_stretch : {fs : Snoc LogRecord} (M : Meaning C fs) (o : ℕ) (s : Snoc LogRecord) → M.last ≡ unended o s
      → RunsOn C o s
  last_stretch M o s q = subst AtLast q (cuts M.fed).running

  -- a round that ran on up to its last record but one did not end before
  same_end : (o : ℕ) (x y : Outcome) {l m : Snoc LogRecord} (s t : Snoc LogRecord) (d e : LogRecord)
      → l ≡ s ▸ d → m ≡ t ▸ e → RunsOn C o s → RunsOn C o t → Ends C o s d x → Ends C o t e y → Beginning l m
      → (l ≡ m) × (x ≡ y)
  unfolding RunsOn
  same_end o x y s t d e p q R U E G all_of_it =
      let i : t ≡ s = snoc_same_init (sym q ∙ p) in
      let j : e ≡ d = snoc_same_last (sym q ∙ p) in
      let r = R s all_of_it in
      (refl, one_outcome C A o s d r.0 r.1 E (rw (i, j) at G))
  same_end o x y s t d e p q R U E G (shorter b) =
      let r = U (s ▸ d) (rw (p, snoc_same_init q) at b) in
      let n = R s all_of_it in
      ended C A o s d n.0 n.1 E r.0 r.1 r.2

  pub ends_once : (x y : Stretch) → Ended C x → Ended C y → x.opening ≡ y.opening
      → Beginning x.records y.records → x ≡ y
  ends_once x y X Y q b =
      let s = same_end x.opening x.outcome y.outcome X.before Y.before X.last Y.last
      X.parts Y.parts X.ran_on (rw (← q) at Y.ran_on) X.ends (rw (← q) at Y.ends) b in
      λ i. record { opening = q i; records = s.0 i; outcome = s.1 i }
