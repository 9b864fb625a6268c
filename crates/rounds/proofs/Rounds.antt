-- What the machine makes of one more chart message, after the lawful row of the stretch so far. Its settling is that of
-- rows, region by region; every row for the longer stretch goes through the row before and the message's region; so the
-- machine's move says whether there is such a row. Assumes nothing.
use mathlib.Core.Path.{◌≡◌, refl, sym, ap, ◌∙◌}
use mathlib.Core.Logic.{inl, inr}
use mathlib.Core.Bool.{Bool, false, cond, So}
use mathlib.Core.Option.{none, some}
use Prim.Native.Nat.{ℕ, zero, suc, ◌≤◌, ◌<◌}
use native.Mathlib.Omega.{arith}
use lib.Dec.{eqb, ltb}
use borrow.Author.Tests.{lt-ltb}
use Rattle.base.specs.Lists.{Snoc, ε, ◌▸◌, size, each, EachIn}
use Rattle.model.specs.declared.Cause.{Cause}
use Rattle.model.specs.Monitor.{cause_of}
use Rattle.rounds.specs.Chart.{Chart, condition_of, Accepted}
use Rattle.rounds.specs.Rows.{LogRecord, Row, stands, chart_message, chart_messages, message_regions, Ready, values}
use Rattle.rounds.specs.Rows.{moment_of, reset_moment, Placed, Lawful, LawfulButLast, first_failing}
use Rattle.rounds.specs.Rows.{LawfulButLastBy, LawfulBy, clock_test, first_failing_by, holds_by, waived_by}
use Rattle.rounds.specs.Machine.{Place, Move, stuck, fails, rests, ready_plain, ready_for, unfired, fire, settle}
use Rattle.rounds.specs.Machine.{try_region, take_message}
use Rattle.base.proofs.Bools.{split, clash, or_left}
use Rattle.base.proofs.Facts.{found, none_some}
use Rattle.rounds.proofs.Machine.{plain_some, plain_none, for_some, has_message, message_stuck, message_fails}
use Rattle.rounds.proofs.Machine.{message_fires}
use Rattle.rounds.proofs.Moments.{holds, waived, chart_messages_take, message_regions_take, message_regions_skip}
use Rattle.rounds.proofs.Moments.{moment_of_last}
use Rattle.rounds.proofs.Moments.{reset_moment_earlier, holds_earlier, retest}
use Rattle.rounds.proofs.Settling.{RowMove, fails_at, rests_at, settle_row, Plains, stop, more, Result, resting}
use Rattle.rounds.proofs.Settling.{failing, free, placed_plain, settling, plains_placed, plains_messages}
use Rattle.rounds.proofs.Rows.{codes, as_many, placed_waived, waived_early, through, one_row}

-- the place that a row shows
unfoldable pub place_of : Chart → ℕ → Snoc LogRecord → Row → Place
place_of C o l r = record { fired = stands r; clocks = reset_moment C o l r }

-- a row's settling, as the machine's move
as_move : Chart → ℕ → Snoc LogRecord → RowMove → Move
as_move C o l (fails_at r i) = fails i (clock_test C o l r i) (place_of C o l r)
as_move C o l (rests_at r) = rests (place_of C o l r)

-- the machine's settling at moment t is the settling of rows whose regions to come belong to a record of that time
module _ (C : Chart) (o : ℕ) (l : Snoc LogRecord) (t : ℕ) where
  fire_is : (q : Row) (i : ℕ) → moment_of C o l (q ▸ i) ≡ t → fire C t (place_of C o l q) i ≡ place_of C o l (q ▸ i)
  unfolding fire place_of reset_moment
  fire_is q i h = ap {B = Place}
      (λ (u : ℕ). record { fired = stands (q ▸ i); clocks = λ c. cond (C.resets i c) u (reset_moment C o l q c) })
      (sym h)

  terms_same : (q : Row) (i : ℕ) → moment_of C o l (q ▸ i) ≡ t
      → clock_test C o l q i ≡ C.failing i (values C t (place_of C o l q).clocks)
  unfolding clock_test place_of
  terms_same q i h = ap (λ (u : ℕ). C.failing i (values C u (reset_moment C o l q))) h

  tests_same : (q : Row) (i : ℕ) → moment_of C o l (q ▸ i) ≡ t
      → holds C o l q i ≡ condition_of C i (values C t (place_of C o l q).clocks)
  unfolding holds_by condition_of
  tests_same q i h = ap (λ (k : ℕ). eqb k 0) (terms_same q i h)

  module _ (A : Accepted C) where
    plain_moment_lem : (q : Row) (i : ℕ) → ready_plain C (stands q) ≡ some i → moment_of C o l (q ▸ i) ≡ moment_of C o l q
    unfolding moment_of
    plain_moment_lem q i f = rw (message_regions_skip C q i (plain_some C A (stands q) i f).is_plain)

    settle_is : (k : ℕ) (q : Row) → moment_of C o l q ≡ t
        → settle C t k (place_of C o l q) ≡ as_move C o l (settle_row C (holds C o l) k q)
    unfolding settle try_region settle_row as_move place_of
    settle_is zero q h = refl
    settle_is (suc k) q h = elim (found (ready_plain C (stands q))) [
      | inl n ↦ rw n
      | inr f ↦
          let i : ℕ = f.0 in
          let g : moment_of C o l (q ▸ i) ≡ t = plain_moment_lem q i f.1 ∙ h in
          elim (split (holds C o l q i)) [
            | inl u ↦ rw (f.1, u, ← (tests_same q i g), u) (ap (settle C t k) (fire_is q i g) ∙ settle_is k (q ▸ i) g)
            | inr u ↦ rw (f.1, u, ← (tests_same q i g), u, ← (terms_same q i g))
          ]
    ]

-- which condition of a row fails first
module _ (C : Chart) (o : ℕ) (l : Snoc LogRecord) where
  pub all_hold : (r : Row) → EachIn (Placed C (holds C o l)) r → first_failing C o l r ≡ none
  unfolding first_failing_by
  all_hold ε P = refl
  all_hold (p ▸ i) P = rw (all_hold p P.0, P.1.condition)

  fails_last : (p : Row) (i : ℕ) → first_failing C o l p ≡ none → holds C o l p i ≡ false
      → first_failing C o l (p ▸ i) ≡ some (cause_of i (clock_test C o l p i))
  unfolding first_failing_by
  fails_last p i h t = rw (h, t)

  fails_still : (ok : Row → ℕ → Bool) {b r : Row} {x : Cause} → Plains C ok b r → first_failing C o l b ≡ some x
      → first_failing C o l r ≡ some x
  unfolding first_failing_by
  fails_still ok stop h = h
  fails_still ok (more w e t) h = rw (fails_still ok w h)

-- settling shortens no row
longer : (C : Chart) (ok : Row → ℕ → Bool) {b r : Row} → Plains C ok b r → size b ≤ size r
longer C ok stop = omega arith
longer C ok (more w e t) = omega (arith, longer C ok w)

-- what the machine's move on the record e means, after the row q of s
pub data Means (C : Chart) (o : ℕ) (s : Snoc LogRecord) (q : Row) (e : LogRecord) : Move → Type 0 where
  unplaced : ((r : Row) → ¬ LawfulButLast C o s e r) → Means C o s q e stuck
  failed : (p : Row) (i term : ℕ) (r : Row) → LawfulButLast C o s e r
      → first_failing C o (chart_messages C (s ▸ e)) r ≡ some (cause_of i term)
      → Means C o s q e (fails i term (place_of C o (chart_messages C (s ▸ e)) p))
  grown : (r : Row) → Lawful C o (s ▸ e) r → size q < size r
      → Means C o s q e (rests (place_of C o (chart_messages C (s ▸ e)) r))

-- one more chart message e, and the lawful row q of the stretch s before it
module _ (C : Chart) (A : Accepted C) (o : ℕ) (s : Snoc LogRecord) (e : LogRecord) (chart : So (chart_message C e))
    (q : Row)
    (lawful : Lawful C o s q) where
  abbrev l : Snoc LogRecord
  l = chart_messages C (s ▸ e)

  abbrev strict : Row → ℕ → Bool
  strict = holds C o l

  abbrev loose : Row → ℕ → Bool
  loose = waived C o s e

  only : (r : Row) → Lawful C o s r → q ≡ r
  only r M = one_row C A o s q r lawful M

  size_q : size (message_regions C q) ≡ size (chart_messages C s)
  unfolding LawfulBy
  size_q = as_many C (chart_messages C s) q lawful.one_for_one

  -- e changes nothing at q
  place_q : place_of C o l q ≡ place_of C o (chart_messages C s) q
  unfolding place_of
  place_q = ap {B = Place} (λ (f : ℕ → ℕ). record { fired = stands q; clocks = f })
      (rw (chart_messages_take C s e chart) (reset_moment_earlier C o (chart_messages C s) e q (omega (arith, size_q))))

  placed_q : EachIn (Placed C strict) q
  unfolding LawfulBy
  placed_q = retest C (holds C o (chart_messages C s)) strict (size (chart_messages C s))
      (λ p i h t. rw (chart_messages_take C s e chart, holds_earlier C o (chart_messages C s) e p i h) t)
      q (omega (arith, size_q)) lawful.placed

  -- the row has one message region more than s has chart messages, so that its last region belongs to e
  OfLast : Row → Type 0
  OfLast r = size (message_regions C r) ≡ suc (size (chart_messages C s))

  now : (r : Row) → OfLast r → moment_of C o l r ≡ e.time
  unfolding OfLast
  now r h = rw (chart_messages_take C s e chart) (moment_of_last C o (chart_messages C s) e r h)

  waived_last : (p : Row) (i : ℕ) → OfLast (p ▸ i) → So (loose p i)
  unfolding waived_by OfLast
  waived_last p i h = or_left {x = ltb (size (chart_messages C s)) (size (message_regions C (p ▸ i)))} (strict p i)
      (lt-ltb (size (chart_messages C s)) (size (message_regions C (p ▸ i))) (omega arith))

  -- the next plain region belongs to e too
  plain_last : {ok : Row → ℕ → Bool} {b r : Row} {i : ℕ} → OfLast b → Plains C ok b r → ready_plain C (stands r) ≡ some i
      → OfLast (r ▸ i)
  unfolding OfLast
  plain_last {ok} {b} {r} {i} h w f =
      rw (message_regions_skip C r i (plain_some C A (stands r) i f).is_plain, plains_messages C A ok w) h

  rests_loose : (b : Row) {v : RowMove} → OfLast b → Result C loose b v
      → (r : Row) × Plains C loose b r × (ready_plain C (stands r) ≡ none)
  rests_loose b h (resting {r} w n) = (r, w, n)
  rests_loose b h (failing {r} {i} w f t) = clash (waived_last r i (plain_last h w f)) t

  -- the row p is lawful as far as it goes, its next region i could stand, and its condition fails
  fails_here : (p : Row) (i : ℕ) → EachIn (Placed C strict) p → Placed C loose p i → strict p i ≡ false
      → each C.key (message_regions C (p ▸ i)) ≡ codes l → OfLast (p ▸ i)
      → Means C o s q e (fails i (clock_test C o l p i) (place_of C o l p))
  unfolding LawfulButLastBy
  fails_here p i P N t c h =
      let W : (r : Row) × Plains C loose (p ▸ i) r × (ready_plain C (stands r) ≡ none)
      = rests_loose (p ▸ i) h (settling C A loose (p ▸ i)) in
      failed p i (clock_test C o l p i) W.0
      (record {
        one_for_one = rw (plains_messages C A loose W.1) c;
        placed = plains_placed C A loose W.1 (placed_waived C o s e p P, N);
        settled = plain_none C A (stands W.0) W.2;
      })
      (fails_still C o l loose W.1 (fails_last C o l p i (all_hold C o l p P) t))

  -- the region m is ready for the message
  module _ (m : ℕ) (fits : ready_for C (stands q) e ≡ some m) where
    key_m : C.key m ≡ e.code
    key_m = (for_some C A (stands q) e m fits).1

    placed_m : (ok : Row → ℕ → Bool) → So (ok q m) → Placed C ok q m
    unfolding LawfulBy
    placed_m ok t =
        let R : Ready C (stands q) m = (for_some C A (stands q) e m fits).0 in
        record {
          region = R.region;
          once = R.unfired;
          order = R.under;
          prompt = λ j p S. absurd (lawful.settled j p S);
          condition = t;
        }

    last_m : OfLast (q ▸ m)
    unfolding OfLast
    last_m = rw (message_regions_take C q m (has_message C e m chart key_m)) (ap suc size_q)

    codes_m : each C.key (message_regions C (q ▸ m)) ≡ codes l
    unfolding LawfulBy
    codes_m =
        rw (
          message_regions_take C q m (has_message C e m chart key_m),
          chart_messages_take C s e chart,
          key_m,
          lawful.one_for_one,
        )

    means_settled : (v : RowMove) → So (strict q m) → Result C strict (q ▸ m) v → Means C o s q e (as_move C o l v)
    unfolding as_move LawfulBy
    means_settled v t (resting {r} w n) = grown r
        (record {
          one_for_one = rw (plains_messages C A strict w) codes_m;
          placed = plains_placed C A strict w (placed_q, placed_m strict t);
          settled = plain_none C A (stands r) n;
        })
        (omega (arith, longer C strict w))
    means_settled v t (failing {r} {i} w f u) =
        fails_here r i (plains_placed C A strict w (placed_q, placed_m strict t))
        (placed_plain C A loose r i f (waived_last r i (plain_last last_m w f))) u
        (rw (message_regions_skip C r i (plain_some C A (stands r) i f).is_plain, plains_messages C A strict w) codes_m)
        (plain_last last_m w f)

    place_settles : So (strict q m) → take_message C (place_of C o l q) e ≡ as_move C o l
        (settle_row C strict (free C (q ▸ m)) (q ▸ m))
    unfolding free place_of
    place_settles t =
        message_fires C (place_of C o l q) e m fits (sym (tests_same C o l e.time q m (now (q ▸ m) last_m)) ∙ t)
        ∙ ap (λ (p : Place). settle C e.time (unfired C p.fired) p)
        (fire_is C o l e.time q m (now (q ▸ m) last_m))
        ∙ settle_is C o l e.time A (unfired C (stands (q ▸ m))) (q ▸ m) (now (q ▸ m) last_m)

    means_for : Means C o s q e (take_message C (place_of C o l q) e)
    unfolding place_of
    means_for = elim (split (strict q m)) [
      | inl t ↦
          rw (place_settles t)
          (means_settled (settle_row C strict (free C (q ▸ m)) (q ▸ m)) t (settling C A strict (q ▸ m)))
      | inr t ↦
          rw (
            message_fails C (place_of C o l q) e m fits (sym (tests_same C o l e.time q m (now (q ▸ m) last_m)) ∙ t),
            ← (terms_same C o l e.time q m (now (q ▸ m) last_m)),
          )
          (fails_here q m placed_q (placed_m loose (waived_last q m last_m)) t codes_m last_m)
    ]

  -- no ready region has the message, and no row is lawful even with its conditions waived; or one has, and one is
  pub unready : ready_for C (stands q) e ≡ none → (r : Row) → ¬ LawfulButLast C o s e r
  unfolding LawfulButLastBy
  unready n r M = none_some n (through C A o s e chart q only loose r (waived_early C o s e chart) M).fits

  pub placeable : (m : ℕ) → ready_for C (stands q) e ≡ some m → (r : Row) × LawfulButLast C o s e r
  unfolding LawfulButLastBy
  placeable m fits =
      let W : (r : Row) × Plains C loose (q ▸ m) r × (ready_plain C (stands r) ≡ none)
      = rests_loose (q ▸ m) (last_m m fits) (settling C A loose (q ▸ m)) in (
        W.0,
        record {
          one_for_one = rw (plains_messages C A loose W.1) (codes_m m fits);
          placed = plains_placed C A loose W.1
              (placed_waived C o s e q placed_q, placed_m m fits loose (waived_last q m (last_m m fits)));
          settled = plain_none C A (stands W.0) W.2;
        },
      )

  -- the machine's move on a chart message, after the lawful row of the stretch so far
  pub move_means : Means C o s q e (take_message C (place_of C o (chart_messages C s) q) e)
  unfolding LawfulButLastBy place_of
  move_means = rw (← place_q) (elim (found (ready_for C (stands q) e)) [
    | inl n ↦ rw (message_stuck C (place_of C o l q) e n) (unplaced (unready n))
    | inr f ↦ means_for f.0 f.1
  ])
