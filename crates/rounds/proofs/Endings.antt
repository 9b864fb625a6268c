-- A stretch ends in one way only (W14), or runs on: two ways to end would be two rows, or a row and none, where at most
-- one is lawful. And an offer of an accepted record does what the rows say, by the meaning of its move.
-- Assumes nothing.
use mathlib.Core.Path.{◌≡◌, refl, sym, ap, ◌∙◌, subst}
use mathlib.Core.Logic.{inl, inr}
use mathlib.Core.Bool.{false, cond, true≢false}
use mathlib.Core.Option.{some}
use Prim.Native.Nat.{ℕ}
use native.Mathlib.Omega.{arith}
use Rattle.base.specs.Lists.{Snoc, ◌▸◌, size}
use Rattle.model.specs.declared.Cause.{Cause}
use Rattle.model.specs.Monitor.{no_cause, cause_of}
use Rattle.rounds.specs.Chart.{Chart, Accepted}
use Rattle.rounds.specs.Rows.{LogRecord, Row, stands, chart_message, chart_messages, reset_moment, Lawful, NoRow}
use Rattle.rounds.specs.Rows.{Full, LawfulButLast, first_failing}
use Rattle.rounds.specs.Rows.{clock_test, LawfulBy, NoRowBy}
use Rattle.rounds.specs.Feeds.{no_ready_region, condition_fails, Outcome, kept, dropped, broken, Ends, complete}
use Rattle.rounds.specs.Feeds.{unplaced_main, unplaced_prechart, fails_hot, fails_cold, Answer, entered, moved}
use Rattle.rounds.specs.Feeds.{Stretch, Last, GoesBy, FedOneBy, ExactlyBy, quiet, Onward, completes_prechart}
use Rattle.rounds.specs.Feeds.{fires, stays, is_kept}
use Rattle.rounds.specs.Machine.{Place, Move, take_message, Monitor, Step, prechart_done, full, go_on, keep_round}
use Rattle.rounds.specs.Machine.{drop_round, break_round, conclude, offer}
use Rattle.base.proofs.Bools.{split}
use Rattle.base.proofs.Facts.{none_some, some_same}
use Rattle.rounds.proofs.Machine.{full_true, full_false, done_true, done_false, done_is, done_is_not}
use Rattle.rounds.proofs.Moments.{chart_messages_skip}
use Rattle.rounds.proofs.Rows.{lawful_after, lawful_waived, one_row, one_row_waived}
use Rattle.rounds.proofs.Rounds.{place_of, all_hold, Means, unplaced, failed, grown, move_means}

-- one feed, with conditions tested by the chart's clocks
abbrev pub FedOne
    : Chart → Snoc LogRecord → Snoc Stretch → LogRecord → Last → Answer → Snoc LogRecord → Snoc Stretch → Last → Type 0
FedOne C = FedOneBy C (clock_test C)

-- how a stretch goes on, with the same tests
abbrev pub Goes
    : Chart → ℕ → Snoc LogRecord → LogRecord → ℕ → Snoc Stretch → Answer → Snoc Stretch → Last → Type 0
Goes C = GoesBy C (clock_test C)

-- what an answer says of the rows, with the same tests
abbrev pub Exactly : Chart → ℕ → Snoc LogRecord → LogRecord → Answer → Type 0
Exactly C = ExactlyBy C (clock_test C)

-- from one row to another there is one answer
pub onward_same : {C : Chart} {q r : Row} {a b : Answer} → Onward C q r a → Onward C q r b → a ≡ b
onward_same (completes_prechart h k) (completes_prechart h' k') = refl
onward_same (completes_prechart h k) (fires lt f) = absurd (h (f k))
onward_same (completes_prechart h k) (stays p) = absurd (h (rw (← p) at k))
onward_same (fires lt f) (completes_prechart h k) = absurd (h (f k))
onward_same (fires lt f) (fires lt' f') = refl
onward_same {q} {r} (fires lt f) (stays p) = absurd (omega (arith, ap size p))
onward_same (stays p) (completes_prechart h k) = absurd (h (rw (← p) at k))
onward_same {q} {r} (stays p) (fires lt f) = absurd (omega (arith, ap size p))
onward_same (stays p) (stays p') = refl

-- the stretch s, opened at o, and one more record e
module _ (C : Chart) (A : Accepted C) (o : ℕ) (s : Snoc LogRecord) (e : LogRecord) where
  -- no row is lawful if none is with the conditions at e waived,
  pub none_placed : ((r : Row) → ¬ LawfulButLast C o s e r) → NoRow C o (s ▸ e)
  unfolding NoRowBy
  none_placed W r L = W r (lawful_waived C o s e r L)

  -- nor if in that row a condition fails: it would be the lawful one, in which all hold
  pub none_holds : (r : Row) (x : Cause) → LawfulButLast C o s e r
      → first_failing C o (chart_messages C (s ▸ e)) r ≡ some x
      → NoRow C o (s ▸ e)
  unfolding NoRowBy LawfulBy
  none_holds r x W f r' L =
      let w : r' ≡ r = one_row_waived C A o s e r' r (lawful_waived C o s e r' L) W in
      none_some (all_hold C o (chart_messages C (s ▸ e)) r (rw w at L.placed)) f

  -- a stretch that ends and is not kept has no lawful row
  pub unlawful : {x : Outcome} → Ends C o s e x → is_kept x ≡ false → NoRow C o (s ▸ e)
  unlawful (complete r L F) k = absurd (true≢false k)
  unlawful (unplaced_main q W L h) k = none_placed W
  unlawful (unplaced_prechart q W L h) k = none_placed W
  unlawful (fails_hot r i term W f h) k = none_holds r (cause_of i term) W f
  unlawful (fails_cold r i term W f h) k = none_holds r (cause_of i term) W f

-- the same, with the lawful row q of s
module _ (C : Chart) (A : Accepted C) (o : ℕ) (s : Snoc LogRecord) (e : LogRecord) (q : Row)
    (lawful : Lawful C o s q) where
  -- the three ways to end, each with its outcome
  data Way (x : Outcome) : Type 0 where
    whole : (r : Row) → Lawful C o (s ▸ e) r → Full C (stands r) → x ≡ kept → Way x
    unfit : ((r : Row) → ¬ LawfulButLast C o s e r)
        → x ≡ cond (prechart_done C (stands q)) (broken no_ready_region no_cause) (dropped no_cause)
        → Way x
    untrue : (r : Row) (i term : ℕ) → LawfulButLast C o s e r
        → first_failing C o (chart_messages C (s ▸ e)) r ≡ some (cause_of i term)
        → x ≡ cond (C.hot i) (broken condition_fails (cause_of i term)) (dropped (cause_of i term)) → Way x

  way : {x : Outcome} → Ends C o s e x → Way x
  way (complete r L F) = whole r L F refl
  way (unplaced_main p W L h) = unfit W (rw (one_row C A o s q p lawful L, done_is C (stands p) h))
  way (unplaced_prechart p W L h) = unfit W (rw (one_row C A o s q p lawful L, done_is_not C (stands p) h))
  way (fails_hot r i term W f h) = untrue r i term W f (rw h)
  way (fails_cold r i term W f h) = untrue r i term W f (rw h)

  -- two ways to end have one outcome, since no stretch has two rows
  same_way : {x y : Outcome} → Way x → Way y → x ≡ y
  unfolding NoRowBy
  same_way (whole r L F p) (whole r' L' F' p') = p ∙ sym p'
  same_way (whole r L F p) (unfit W p') = absurd (none_placed C A o s e W r L)
  same_way (whole r L F p) (untrue r' i term W f p') =
      absurd (none_holds C A o s e r' (cause_of i term) W f r L)
  same_way (unfit W p) (whole r' L' F' p') = absurd (none_placed C A o s e W r' L')
  same_way (unfit W p) (unfit W' p') = p ∙ sym p'
  same_way (unfit W p) (untrue r' i term W' f p') = absurd (W r' W')
  same_way (untrue r i term W f p) (whole r' L' F' p') =
      absurd (none_holds C A o s e r (cause_of i term) W f r' L')
  same_way (untrue r i term W f p) (unfit W' p') = absurd (W' r W)
  same_way (untrue r i term W f p) (untrue r' i' term' W' f' p') =
      let w : r ≡ r' = one_row_waived C A o s e r r' W W' in
      let z : cause_of i term ≡ cause_of i' term' = some_same (rw w at f) f' in
      let y : i ≡ i' = omega (arith, ap (λ (x : Cause). x.region) z) in
      p ∙ rw (y, ap (λ (x : Cause). x.term) z) (sym p')

  pub one_outcome : {x y : Outcome} → Ends C o s e x → Ends C o s e y → x ≡ y
  one_outcome E E' = same_way (way E) (way E')

  way_ended : {X : Type 0} {x : Outcome} → Way x → (r : Row) → Lawful C o (s ▸ e) r → ¬ Full C (stands r) → X
  unfolding NoRowBy
  way_ended (whole r L F p) r' L' h = absurd (h (rw (one_row C A o (s ▸ e) r r' L L') at F))
  way_ended (unfit W p) r' L' h = absurd (none_placed C A o s e W r' L')
  way_ended (untrue r i term W f p) r' L' h = absurd (none_holds C A o s e r (cause_of i term) W f r' L')

  -- a stretch that ends does not run on
  pub ended : {X : Type 0} {x : Outcome} → Ends C o s e x → (r : Row) → Lawful C o (s ▸ e) r → ¬ Full C (stands r) → X
  ended E r L h = way_ended (way E) r L h

  -- what an offer of an accepted record comes to
  pub data Comes (m : Monitor) : Step → Type 0 where
    on : (r : Row) (a : Answer) → Lawful C o (s ▸ e) r → ¬ Full C (stands r) → Onward C q r a
        → Comes m (go_on C m e a (place_of C o (chart_messages C (s ▸ e)) r))
    keeps : Ends C o s e kept → Comes m (keep_round C m e)
    drops : (x : Cause) → Ends C o s e (dropped x) → Comes m (drop_round C m e x)
    breaks : (k : ℕ) (x : Cause) (p : Place) → Ends C o s e (broken k x) → Comes m (break_round C m e k x p)

  -- by what the move means, case by case
  comes_move : (m : Monitor) (v : Move) → m.place.fired ≡ stands q → Means C o s q e v → Comes m (conclude C m e v)
  unfolding conclude place_of
  comes_move m v at (unplaced W) = elim (split (prechart_done C (stands q))) [
    | inl t ↦
        rw (ap (prechart_done C) at ∙ t)
        (breaks no_ready_region no_cause m.place (unplaced_main q W lawful (done_true C (stands q) t)))
    | inr t ↦
        rw (ap (prechart_done C) at ∙ t) (drops no_cause (unplaced_prechart q W lawful (done_false C (stands q) t)))
  ]
  comes_move m v at (failed p i term r W f) = elim (split (C.hot i)) [
    | inl t ↦
        rw t (breaks condition_fails (cause_of i term) (place_of C o (chart_messages C (s ▸ e)) p)
        (fails_hot r i term W f t))
    | inr t ↦ rw t (drops (cause_of i term) (fails_cold r i term W f t))
  ]
  comes_move m v at (grown r L lt) = elim (split (full C (stands r))) [
    | inl t ↦ rw t (keeps (complete r L (full_true C (stands r) t)))
    | inr t ↦ elim (split (prechart_done C (stands q))) [
      | inl u ↦
          rw (t, ap (prechart_done C) at ∙ u)
          (on r moved L (full_false C (stands r) t) (fires lt (λ h. done_true C (stands q) u)))
      | inr u ↦ elim (split (prechart_done C (stands r))) [
        | inl w ↦ rw (t, ap (prechart_done C) at ∙ u, w)
            (on r entered L (full_false C (stands r) t)
            (completes_prechart (done_false C (stands q) u) (done_true C (stands r) w)))
        | inr w ↦ rw (t, ap (prechart_done C) at ∙ u, w)
            (on r moved L (full_false C (stands r) t) (fires lt (λ h. absurd (done_false C (stands r) w h))))
      ]
    ]
  ]

  -- the monitor's place is the one that the row shows
  place_same : (m : Monitor) → m.place.fired ≡ stands q → m.place.clocks ≡ reset_moment C o (chart_messages C s) q
      → m.place ≡ place_of C o (chart_messages C s) q
  unfolding place_of
  place_same m f c = λ i. record { fired = f i; clocks = c i }

  pub comes : (m : Monitor) → m.place.fired ≡ stands q → m.place.clocks ≡ reset_moment C o (chart_messages C s) q
      → ¬ Full C (stands q)
      → Comes m (offer C m e)
  unfolding offer
  comes m f c h = elim (split (chart_message C e)) [
    | inl t ↦ rw (t, ap (λ (p : Place). take_message C p e) (place_same m f c))
        (comes_move m (take_message C (place_of C o (chart_messages C s) q) e) f (move_means C A o s e t q lawful))
    | inr t ↦ rw t (subst (λ (p : Place). Comes m (go_on C m e quiet p))
        (ap (λ (l : Snoc LogRecord). place_of C o l q) (chart_messages_skip C s e t) ∙ sym (place_same m f c))
        (on q quiet (lawful_after C o s e q t lawful) h (stays refl)))
  ]
