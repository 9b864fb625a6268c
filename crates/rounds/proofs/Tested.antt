-- Rows that are written out: one that passes a test is lawful, and the machine's move says where no region has the
-- message. Assumes nothing.
use mathlib.Core.Path.{◌≡◌}
use mathlib.Core.Logic.{inl, inr}
use mathlib.Core.Bool.{Bool, true, So, ◌&&◌}
use mathlib.Core.Option.{none}
use Prim.Native.Nat.{ℕ, ◌≤◌}
use native.Mathlib.Omega.{arith}
use lib.Dec.{ltb, leb}
use borrow.Author.Tests.{ltb-true, leb-true}
use Rattle.base.specs.Lists.{Snoc, ε, ◌▸◌, each, EachIn, on_found}
use Rattle.rounds.specs.Chart.{Chart, Accepted}
use Rattle.rounds.specs.Rows.{LogRecord, Row, stands, chart_message, chart_messages, plain, message_regions, Ready}
use Rattle.rounds.specs.Rows.{Placed, LawfulIf, Lawful, LawfulButLast}
use Rattle.rounds.specs.Rows.{LawfulButLastBy, LawfulBy}
use Rattle.rounds.specs.Machine.{Move, stuck, ready, ready_plain, take_message}
use Rattle.base.proofs.Bools.{and_left, and_right}
use Rattle.base.proofs.Facts.{found}
use Rattle.rounds.proofs.Machine.{ready_true, plain_some, plain_none}
use Rattle.rounds.proofs.Moments.{holds, waived}
use Rattle.rounds.proofs.Rows.{codes}
use Rattle.rounds.proofs.Rounds.{place_of, Means, unplaced, move_means}

module _ (C : Chart) (ok : Row → ℕ → Bool) where
  -- if a plain region could stand after p, region i is plain and not higher than the lowest such
  unfoldable pub prompt_test : Row → ℕ → Bool
  prompt_test p i = on_found (ready_plain C (stands p)) true (λ j. plain C i && leb i j)

  unfoldable pub placed_test : Row → ℕ → Bool
  placed_test p i = ltb i C.regions && (ready C (stands p) i && (prompt_test p i && ok p i))

  unfoldable pub row_test : Row → Bool
  row_test ε = true
  row_test (p ▸ i) = row_test p && placed_test p i

  module _ (A : Accepted C) where
    prompt_tested : (p : Row) (i : ℕ) → So (prompt_test p i) → (j : ℕ) → So (plain C j) → Ready C (stands p) j
        → So (plain C i) × (i ≤ j)
    unfolding prompt_test
    prompt_tested p i h j q R = elim (found (ready_plain C (stands p))) [
      | inl n ↦ absurd (plain_none C A (stands p) n j q R)
      | inr f ↦
          let t : So (plain C i && leb i f.0) = rw f.1 at h in
          let l : i ≤ f.0 = leb-true i f.0 (and_right (plain C i) (leb i f.0) t) in
          (and_left (plain C i) (leb i f.0) t, omega (arith, (plain_some C A (stands p) f.0 f.1).lowest j q R))
    ]

    placed_tested : (p : Row) (i : ℕ) → So (placed_test p i) → Placed C ok p i
    unfolding placed_test
    placed_tested p i h =
        let l = ltb-true i C.regions (and_left (ltb i C.regions) _ h) in
        let k = and_right (ltb i C.regions) _ h in
        let R : Ready C (stands p) i = ready_true C A (stands p) i l (and_left (ready C (stands p) i) _ k) in
        let u = and_right (ready C (stands p) i) (prompt_test p i && ok p i) k in
        record {
          region = R.region;
          once = R.unfired;
          order = R.under;
          prompt = prompt_tested p i (and_left (prompt_test p i) (ok p i) u);
          condition = and_right (prompt_test p i) (ok p i) u;
        }

    each_tested : (r : Row) → So (row_test r) → EachIn (Placed C ok) r
    unfolding row_test
    each_tested ε h = tt
    each_tested (p ▸ i) h = (
      each_tested p (and_left (row_test p) (placed_test p i) h),
      placed_tested p i (and_right (row_test p) (placed_test p i) h),
    )

    tested : (s : Snoc LogRecord) (r : Row) → each C.key (message_regions C r) ≡ codes (chart_messages C s)
        → So (row_test r) → ready_plain C (stands r) ≡ none → LawfulIf C ok s r
    tested s r m h n = record { one_for_one = m; placed = each_tested r h; settled = plain_none C A (stands r) n }

module _ (C : Chart) (A : Accepted C) (o : ℕ) (s : Snoc LogRecord) where
  pub lawful_tested : (r : Row) → each C.key (message_regions C r) ≡ codes (chart_messages C s)
      → So (row_test C (holds C o (chart_messages C s)) r) → ready_plain C (stands r) ≡ none → Lawful C o s r
  unfolding LawfulBy
  lawful_tested r m h n = tested C (holds C o (chart_messages C s)) A s r m h n

  pub waived_tested : (e : LogRecord) (r : Row) → each C.key (message_regions C r) ≡ codes (chart_messages C (s ▸ e))
      → So (row_test C (waived C o s e) r) → ready_plain C (stands r) ≡ none → LawfulButLast C o s e r
  unfolding LawfulButLastBy
  waived_tested e r m h n = tested C (waived C o s e) A (s ▸ e) r m h n

-- one more chart message, after the lawful row q of the stretch s
module _ (C : Chart) (A : Accepted C) (o : ℕ) (s : Snoc LogRecord) (e : LogRecord) (q : Row) (lawful : Lawful C o s q)
    (chart : So (chart_message C e)) where
  abbrev move : Move
  move = take_message C (place_of C o (chart_messages C s) q) e

  means : {v : Move} → move ≡ v → Means C o s q e v
  means p = rw p at (move_means C A o s e chart q lawful)

  none_unplaced : Means C o s q e stuck → (r : Row) → ¬ LawfulButLast C o s e r
  none_unplaced (unplaced W) = W

  -- no region has the message: no row, even with the conditions at e waived
  pub no_region : move ≡ stuck → (r : Row) → ¬ LawfulButLast C o s e r
  no_region p = none_unplaced (means p)
