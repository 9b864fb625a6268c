-- The standing by the last stretch, and the verdict. Assumes nothing.
use mathlib.Core.Path.{◌≡◌, refl, sym, ap, subst, ◌∙◌}
use mathlib.Core.Logic.{◌≢◌, ◌↔◌, inl, inr}
use mathlib.Core.Bool.{Bool, true, false, cond, not}
use Prim.Native.Nat.{ℕ, ◌<◌}
use borrow.Author.Tests.{eq-eqb, ne_eqb, not-true}
use Rattle.base.specs.Lists.{Snoc, ε, ◌▸◌, all_below}
use Rattle.base.proofs.Bools.{split, clash, or_left}
use Rattle.base.proofs.Facts.{all_of, all_at, empty_snoc}
use Rattle.model.specs.declared.Chart.{Chart}
use Rattle.model.specs.declared.Cause.{Cause}
use Rattle.resting.specs.Rest.{rests as rests_test}
use Rattle.resting.proofs.Exact.{exact}
use Rattle.rounds.specs.Chart.{Chart as Abstract, Accepted}
use Rattle.rounds.specs.Rows.{LogRecord, Row, stands, Lawful, LawfulBy}
use Rattle.rounds.specs.Tally.{Tally}
use Rattle.rounds.specs.Feeds.{Last, unended, after_break}
use Rattle.rounds.specs.Machine.{Monitor as AbstractMonitor, after, prechart_done}
use Rattle.rounds.specs.Demand3.{Meaning, Unbroken, AtLast, Agrees}
use Rattle.rounds.proofs.Machine.{done_true, done_is, done_false, done_is_not}
use Rattle.rounds.proofs.Feeds.{Besides, besides, monitor_agrees}
use Rattle.rounds.proofs.Agreeing.{agrees_only}
use Rattle.rounds.proofs.Demand3.{demand_3}
use Rattle.chart_value.specs.View.{chart_of}
use Rattle.verdict.specs.Verdict.{broken, nothing_fired, in_prechart, owed, resting, standing_of, verdict_with, verdict_of}
use Rattle.claims.specs.Standing.{StandsAs, opens, in_prechart_case, owes, rests}

-- a broken monitor's standing
standing_broken : (c : Chart) (m : AbstractMonitor) → m.tally.broken.at ≢ 0 → standing_of c m ≡ broken
unfolding standing_of
standing_broken c m n = rw (ne_eqb m.tally.broken.at 0 n)

-- a region of a lawful row is one of the chart's
row_region : (C : Abstract) (o : ℕ) (s : Snoc LogRecord) (p : Row) (i : ℕ) → Lawful C o s (p ▸ i) → i < C.regions
unfolding LawfulBy
row_region C o s p i L = L.placed.1.region

module _ (c : Chart) where
  -- the standing of regions that are fired, without a break
  abbrev by_fired : (ℕ → Bool) → ℕ
  by_fired fired =
      cond (all_below c.count (λ i. not (fired i))) nothing_fired
      (cond (not (prechart_done (chart_of c) fired)) in_prechart (cond (rests_test c fired) resting owed))

  -- nothing is fired exactly if the row is empty
  module _ (r : Row) where
    none_there : r ≡ ε → all_below c.count (λ i. not (stands r i)) ≡ true
    none_there e = all_of c.count _ (λ i h. ap (λ (x : Row). not (stands x i)) e)

    pub row_cases : (r ≢ ε → all_below c.count (λ i. not (stands r i)) ≡ false) → StandsAs c r (by_fired (stands r))
    row_cases some = by r refl some
      where
        done : r ≢ ε → all_below c.count (λ i. not (stands r i)) ≡ false → StandsAs c r (by_fired (stands r))
        done n e = elim (split (prechart_done (chart_of c) (stands r))) [
          | inr d ↦ rw (e, d) (in_prechart_case n (done_false (chart_of c) (stands r) d))
          | inl d ↦ elim (split (rests_test c (stands r))) [
            | inl t ↦ rw (e, d, t) (rests n (done_true (chart_of c) (stands r) d) ((exact c (stands r)).0 t))
            | inr t ↦ rw (e, d, t) (owes n (done_true (chart_of c) (stands r) d)
                (λ R. clash ((exact c (stands r)).1 R) t))
          ]
        ]

        by : (x : Row) → r ≡ x → (r ≢ ε → all_below c.count (λ i. not (stands r i)) ≡ false)
            → StandsAs c r (by_fired (stands r))
        by ε e s = rw (none_there e) (opens e)
        by (p ▸ i) e s = let n : r ≢ ε = λ z. empty_snoc (sym z ∙ e) in done n (s n)

    row_only : (r ≢ ε → all_below c.count (λ i. not (stands r i)) ≡ false) → (k : ℕ) → StandsAs c r k
        → by_fired (stands r) ≡ k
    row_only s k (opens e) = rw (none_there e)
    row_only s k (in_prechart_case n d) = rw (s n, done_is_not (chart_of c) (stands r) d)
    row_only s k (owes n d t) =
        elim (split (rests_test c (stands r))) [
          | inl y ↦ absurd (t ((exact c (stands r)).0 y))
          | inr y ↦ rw (s n, done_is (chart_of c) (stands r) d, y)
        ]
    row_only s k (rests n d t) = rw (s n, done_is (chart_of c) (stands r) d, (exact c (stands r)).1 t)

  some_there : (o : ℕ) (s : Snoc LogRecord) (r : Row) → Lawful (chart_of c) o s r → r ≢ ε
      → all_below c.count (λ i. not (stands r i)) ≡ false
  some_there o s ε L n = absurd (n refl)
  some_there o s (p ▸ i) L n = elim (split (all_below c.count (λ j. not (stands (p ▸ i) j)))) [
    | inl e ↦ clash (or_left (stands p i) (eq-eqb i i refl))
        (not-true (stands (p ▸ i) i) (all_at c.count (λ j. not (stands (p ▸ i) j)) e i
        (row_region (chart_of c) o s p i L)))
    | inr e ↦ e
  ]

-- monitors that agree with the stretches
module _ (c : Chart) (A : Accepted (chart_of c)) {fs : Snoc LogRecord} (M : Meaning (chart_of c) fs)
    (m : AbstractMonitor) (G : Agrees (chart_of c) M.accepted M.stretches M.last m) where
  abbrev C : Abstract
  C = chart_of c

  -- without a broken stretch the standing is that of the row
  module _ (o : ℕ) (s : Snoc LogRecord) (q : M.last ≡ unended o s) (r : Row) (L : Lawful C o s r) where
    at_row : Unbroken C o s m
    unfolding AtLast
    at_row = subst (λ (l : Last). AtLast C l M.accepted m) q G.at_last

    by_row : standing_of c m ≡ by_fired c (stands r)
    unfolding standing_of
    by_row =
        let U = at_row in
        let e : U.row ≡ r = (demand_3 C A).one_row o s U.row r U.lawful L in
        let f : m.place.fired ≡ stands r = U.has_fired ∙ ap stands e in
        rw (eq-eqb _ _ U.no_break_case) (ap (by_fired c) f)

    pub standing_row : (k : ℕ) → (standing_of c m ≡ k) ↔ StandsAs c r k
    standing_row k = (
      λ e. subst (StandsAs c r) (sym by_row ∙ e) (row_cases c r (some_there c o s r L)),
      λ x. by_row ∙ row_only c r (some_there c o s r L) k x,
    )

  -- with one it is 3
  module _ {k : ℕ} {x : Cause} (q : M.last ≡ after_break k x) where
    after_broken : (after C fs).tally.broken.at ≢ 0
    unfolding AtLast
    after_broken z =
        let H : Agrees C M.accepted M.stretches (after_break k x) (after C fs) = rw q at (monitor_agrees C A M).1 in
        let B : Besides C A (after_break k x) M.accepted = rw q at (besides C A M.fed) in
        B (sym H.at_last.at_last_accepted ∙ z)

    same_tally : m.tally ≡ (after C fs).tally
    same_tally = (agrees_only C A M m G).0

    pub standing_after_break : standing_of c m ≡ broken
    standing_after_break =
        standing_broken c m (λ z. after_broken (sym (ap (λ (u : Tally). u.broken.at) same_tally) ∙ z))

    same_broken : verdict_of c m ≡ verdict_of c (after C fs)
    same_broken =
        ap (λ (s : ℕ). verdict_with s m.tally) standing_after_break
        ∙ ap (verdict_with broken) same_tally
        ∙ sym (ap (λ (s : ℕ). verdict_with s (after C fs).tally) (standing_broken c (after C fs) after_broken))

  -- they have one verdict
  by_last : (l : Last) → M.last ≡ l → verdict_of c m ≡ verdict_of c (after C fs)
  by_last (unended o s) q = ap (verdict_of c) ((agrees_only C A M m G).1 o s q)
  by_last (after_break k x) q = same_broken q

  pub same_verdict : verdict_of c m ≡ verdict_of c (after C fs)
  same_verdict = by_last M.last refl
