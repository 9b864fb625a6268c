-- Every fit monitor of the machine can be stored, its fired regions as a number and its reset moments as a list, and
-- every answer of the machine can be given. Assumes nothing.
use mathlib.Core.Path.{◌≡◌, refl, sym, ap, fun_ext, ◌∙◌}
use mathlib.Core.Logic.{inl, inr}
use mathlib.Core.Bool.{Bool, true, false, cond, ◌||◌}
use mathlib.Core.List.{List, [], ◌∷◌}
use Prim.Native.Nat.{ℕ, zero, suc, ◌≤◌, ◌<◌, ◌^◌}
use native.Mathlib.Nat.{lt_of_lt_of_le}
use native.Mathlib.Decide.{dec_lt, ℕ_discrete}
use native.Mathlib.Omega.{arith}
use borrow.Author.Tests.{eq-eqb, ne_eqb}
use lib.Bits.{or_lt}
use lib.Dec.{eqb, ltb, leb}
use lib.ListN.{length}
use lib.Pow.{pow-lt, pow_mono}
use Rattle.bitset.specs.Set.{contains, single, inserted}
use Rattle.bitset.proofs.Laws.{contains_inserted, member_lt}
use Rattle.model.specs.declared.Moment.{Moment}
use Rattle.model.specs.declared.Tally.{Tally}
use Rattle.model.specs.declared.Monitor.{Monitor}
use Rattle.model.specs.Chart.{most_regions, most_clocks}
use Rattle.std.specs.Prelude.{Ok, Err}
use Rattle.model.specs.declared.Answer.TheVariants.{Broken, Kept, Dropped, Entered, Moved, Quiet}
use Rattle.model.specs.declared.FeedRefusal.TheVariants.{TimeFalls, TooManyRecords}
use Rattle.model.specs.Answers.{Fed, most_records}
use Rattle.rounds.specs.Chart.{Chart as Abstract}
use Rattle.rounds.specs.Rows.{LogRecord}
use Rattle.rounds.specs.Tally.{Tally as AbstractTally}
use Rattle.rounds.specs.Feeds.{Answer as AbstractAnswer, refused, broken_at, kept_now, dropped_now, entered, moved, quiet}
use Rattle.rounds.specs.Machine.{Monitor as AbstractMonitor, Fit, accept, feed}
use Rattle.base.proofs.Bools.{split, or_right}
use Rattle.stepping.specs.Answers.{fed_answer}
use Rattle.firing.specs.Places.{moments_of}
use Rattle.stepping.specs.Monitors.{monitor_at}
use Rattle.stepping.proofs.Back.{NotRefused, accept_taken}
use Rattle.monitor.specs.Stored.{Stored}

-- the numbers below n that pass, as a set
set_of : ℕ → (ℕ → Bool) → ℕ
set_of zero f = 0
set_of (suc n) f = cond (f n) (inserted (set_of n f) n) (set_of n f)

set_small : (n : ℕ) (f : ℕ → Bool) → set_of n f < 2 ^ n
unfolding set_of inserted single
set_small zero f = omega arith
set_small (suc n) f = by (f n) (lt_of_lt_of_le (set_small n f) (pow_mono (omega arith)))
  where
    by : (b : Bool) → set_of n f < 2 ^ suc n → cond b (inserted (set_of n f) n) (set_of n f) < 2 ^ suc n
    by true h = or_lt (suc n) (set_of n f) (2 ^ n) h (pow-lt (omega arith))
    by false h = h

beyond : (n : ℕ) (f : ℕ → Bool) (i : ℕ) → n ≤ i → contains (set_of n f) i ≡ false
beyond n f i h = elim (split (contains (set_of n f) i)) [
  | inl m ↦ absurd (omega (arith, member_lt n (set_of n f) i (set_small n f) m))
  | inr m ↦ m
]

set_members : (n : ℕ) (f : ℕ → Bool) (i : ℕ) → i < n → contains (set_of n f) i ≡ f i
unfolding set_of
set_members zero f i h = absurd (omega arith)
set_members (suc n) f i h = elim (split (f n)) [
  | inl p ↦ rw (p, contains_inserted (set_of n f) n i) (elim (ℕ_discrete i n) [
    | yes q ↦ or_right (contains (set_of n f) i) (eq-eqb i n q) ∙ sym (ap f q ∙ p)
    | no q ↦ rw (ne_eqb i n q, set_members n f i (omega arith)) (or_none (f i))
  ])
  | inr p ↦ rw p (elim (ℕ_discrete i n) [
    | yes q ↦ beyond n f i (omega arith) ∙ sym (ap f q ∙ p)
    | no q ↦ set_members n f i (omega arith)
  ])
]
  where
    or_none : (b : Bool) → (b || false) ≡ b
    or_none true = refl
    or_none false = refl

-- the moments of the first n clocks
moments : ℕ → (ℕ → ℕ) → List Moment
moments zero f = []
moments (suc n) f = record { 0 = f 0 } ∷ moments n (λ k. f (suc k))

moments_tell : (n : ℕ) (f : ℕ → ℕ) → ((k : ℕ) → n ≤ k → f k ≡ 0) → (k : ℕ) → moments_of (moments n f) k ≡ f k
unfolding moments
moments_tell zero f z k = sym (z k (omega arith))
moments_tell (suc n) f z zero = refl
moments_tell (suc n) f z (suc k) = moments_tell n (λ j. f (suc j)) (λ j h. z (suc j) (omega arith)) k

moments_length : (n : ℕ) (f : ℕ → ℕ) → length (moments n f) ≡ n
unfolding moments
moments_length zero f = refl
moments_length (suc n) f = ap suc (moments_length n (λ k. f (suc k)))

-- the tally as a value
abbrev pub stored_tally : AbstractTally → Tally
stored_tally x = record {
  now = record { 0 = x.now };
  records = x.records;
  kept = x.kept;
  dropped = x.dropped;
  broken = record { at = x.broken.at; reason = x.broken.reason; cause = x.broken.cause };
}

pub record StoredAs (x : AbstractMonitor) : Type 0 where
  pub monitor : Monitor
  pub shows : monitor_at monitor ≡ x
  pub stored : Stored monitor

module _ (C : Abstract) (few : C.regions ≤ most_regions) (clocks : C.clocks ≤ most_clocks) {x : AbstractMonitor}
    (F : Fit C x) where
  fired : (i : ℕ) → contains (set_of most_regions x.place.fired) i ≡ x.place.fired i
  fired i = elim (dec_lt i most_regions) [
    | yes l ↦ set_members most_regions x.place.fired i l
    | no l ↦ beyond most_regions x.place.fired i (omega arith) ∙ sym (elim (split (x.place.fired i)) [
      | inl e ↦ absurd (omega (arith, F.within i e))
      | inr e ↦ e
    ])
  ]

  pub stored_as : StoredAs x
  stored_as = record {
    monitor = record {
      place = record { fired = set_of most_regions x.place.fired; resets = moments most_clocks x.place.clocks };
      tally = stored_tally x.tally;
    };
    shows = λ i. record {
      place = record {
        fired = fun_ext fired i;
        clocks = fun_ext (moments_tell most_clocks x.place.clocks (λ k h. F.unused k (omega arith))) i;
      };
      tally = x.tally;
    };
    stored = record {
      bits = set_small most_regions x.place.fired;
      places = moments_length most_clocks x.place.clocks;
    };
  }

-- an answer that is given
pub record AnsweredAs (a : AbstractAnswer) : Type 0 where
  pub answer : Fed
  pub tells : fed_answer answer ≡ a

answered_so : (a : AbstractAnswer) → NotRefused a → AnsweredAs a
unfolding NotRefused
answered_so (refused k) t = absurd t
answered_so (broken_at n k x) t = record { answer = Ok (Broken n k x); tells = refl }
answered_so kept_now t = record { answer = Ok Kept; tells = refl }
answered_so (dropped_now x) t = record { answer = Ok (Dropped x); tells = refl }
answered_so entered t = record { answer = Ok Entered; tells = refl }
answered_so moved t = record { answer = Ok Moved; tells = refl }
answered_so quiet t = record { answer = Ok Quiet; tells = refl }

pub answered_as : (C : Abstract) (m : AbstractMonitor) (e : LogRecord) → AnsweredAs (feed C m e).answer
unfolding feed
answered_as C m e = elim (split (eqb m.tally.broken.at 0)) [
  | inl p ↦ elim (split (ltb e.time m.tally.now)) [
    | inl q ↦ record { answer = Err TimeFalls; tells = rw (p, q) }
    | inr q ↦ elim (split (leb most_records m.tally.records)) [
      | inl r ↦ record { answer = Err TooManyRecords; tells = rw (p, q, r) }
      | inr r ↦
          let t = answered_so (accept C m e).answer (accept_taken C m e) in
          record { answer = t.answer; tells = rw (p, q, r) t.tells }
    ]
  ]
  | inr p ↦
      let b = m.tally.broken in record { answer = Ok (Broken b.at b.reason b.cause); tells = rw p }
]
