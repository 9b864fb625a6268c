-- Laws by which what is written out is shown by computation: configurations by the values of the chart's own clocks,
-- readiness and what is missed by the machine's tests, and how a record is taken by its move. Assumes nothing.
use mathlib.Core.Path.{◌≡◌, refl, sym, ap, ap₂, subst, ◌∙◌, fun_ext}
use mathlib.Core.Logic.{inl, inr}
use mathlib.Core.Bool.{Bool, false, So, ◌&&◌}
use mathlib.Core.List.{List}
use mathlib.Core.Option.{none, some}
use Prim.Native.Nat.{ℕ, zero, suc, ◌≤◌}
use native.Mathlib.Nat.{le_of_suc-le-suc, not-suc-le-zero}
use native.Mathlib.Omega.{arith}
use lib.Dec.{eqb, ltb, leb}
use lib.ListN.{get_or, length, get_or-eq_default}
use borrow.Author.Tests.{eqb-true, eq-eqb, ltb-true, ltb-false, leb-true, le-ltb}
use Rattle.base.specs.Lists.{Snoc, ε, ◌▸◌, size}
use Rattle.model.specs.Answers.{most_records}
use Rattle.rounds.specs.Chart.{Chart, Accepted}
use Rattle.rounds.specs.Rows.{LogRecord, Row, stands, chart_message, values, Ready, PrechartDone, Lawful, LawfulButLast}
use Rattle.rounds.specs.Feeds.{refusal, Stretch, unended, Answer, Onward, runs_on, once, Missed, Fits}
use Rattle.rounds.specs.Machine.{Place, fails, ready, ready_for, ready_plain, take_message, opening, full, prechart_done}
use Rattle.rounds.specs.Machine.{Monitor, Step, feed, after}
use Rattle.base.specs.Table.{table}
use Rattle.base.proofs.Bools.{split, and_left, and_right, or_left}
use Rattle.base.proofs.Table.{get_d_table}
use Rattle.rounds.proofs.Machine.{LowestPlain, full_false, done_false, ready_true, plain_some, plain_none, for_none}
use Rattle.rounds.proofs.Rows.{lawful_waived, lawful_empty, one_row}
use Rattle.rounds.proofs.Rounds.{unready}
use Rattle.rounds.proofs.Endings.{FedOne}
use Rattle.rounds.proofs.Offers.{opens}
use Rattle.rounds.proofs.Fitness.{after_fit}
use Rattle.paper.specs.Runs.{Config, initial, reset, shift, add, wait, successor, Next, AtRest, config_at}
use Rattle.paper.specs.Taken.{Status, Turn, Unmatched, MissedIn, Starts, Taken, case_of, status_of, Acceptable}
use Rattle.paper.proofs.Steps.{opening_config, failure_of}
use Rattle.paper.proofs.Turns.{turn_of}
use Rattle.paper.proofs.Taking.{number, numbered, given}
use Rattle.witness_rounds.specs.Rounds.{config_of, status_as}

-- a table holds nothing beyond its bound
beyond : (n : ℕ) (v : ℕ → ℕ) (x : ℕ) → n ≤ x → get_or (table n v) x 0 ≡ 0
beyond zero v x h = refl
beyond (suc n) v zero h = absurd (not-suc-le-zero h)
beyond (suc n) v (suc x) h = beyond n (λ k. v (suc k)) x (le_of_suc-le-suc h)

-- clocks have the values listed, if those from the bound on have 0
listed : (n : ℕ) (v : ℕ → ℕ) (l : List ℕ) → ((x : ℕ) → n ≤ x → v x ≡ 0) → table n v ≡ l → v ≡ (λ x. get_or l x 0)
listed n v l z p = fun_ext (λ x. elim (split (ltb x n)) [
  | inl h ↦ sym (get_d_table n x v 0 (ltb-true x n h)) ∙ ap (λ (k : List ℕ). get_or k x 0) p
  | inr h ↦ z x (ltb-false x n h) ∙ sym (beyond n v x (ltb-false x n h)) ∙ ap (λ (k : List ℕ). get_or k x 0) p
])

module _ (C : Chart) where
  config_at_lem : (t : ℕ) (p : Place) (r : Row) (l : List ℕ) → p.fired ≡ stands r
      → table C.clocks (values C t p.clocks) ≡ l → config_at C t p ≡ config_of r l
  unfolding config_at values
  config_at_lem t p r l f k = ap₂ {C = Config} (λ (c : ℕ → Bool) (v : ℕ → ℕ). record { cut = c; valuation = v }) f
      (listed C.clocks (values C t p.clocks) l (λ x h. rw (le-ltb x C.clocks h)) k)

  pub wait_is : (x : Config) (d : ℕ) (r : Row) (l : List ℕ) → x.cut ≡ stands r
      → table C.clocks (shift C x.valuation d) ≡ l → wait C x d ≡ config_of r l
  unfolding shift
  wait_is x d r l f k = ap₂ {C = Config} (λ (c : ℕ → Bool) (v : ℕ → ℕ). record { cut = c; valuation = v }) f
      (listed C.clocks (shift C x.valuation d) l (λ x h. rw (le-ltb x C.clocks h)) k)

  pub successor_is : (r : Row) (k : List ℕ) (s : ℕ) (l : List ℕ) → length k ≡ C.clocks
      → table C.clocks (reset C s (λ x. get_or k x 0)) ≡ l → successor C (config_of r k) s ≡ config_of (r ▸ s) l
  unfolding reset add
  successor_is r k s l q p = ap {B = Config} (λ (v : ℕ → ℕ). record { cut = stands (r ▸ s); valuation = v })
      (listed C.clocks (reset C s (λ x. get_or k x 0)) l (λ x h. elim (split (C.resets s x)) [
        | inl t ↦ rw t
        | inr t ↦ rw t (get_or-eq_default k 0 (omega arith))
      ]) p)

  module _ (A : Accepted C) where
    pub ready_at : (r : Row) (i : ℕ) → So (ltb i C.regions && ready C (stands r) i) → Ready C (stands r) i
    ready_at r i h =
        let l = and_left (ltb i C.regions) (ready C (stands r) i) h in
        let k = and_right (ltb i C.regions) (ready C (stands r) i) h in
        ready_true C A (stands r) i (ltb-true i C.regions l) k

    pub rests_at_lem : (r : Row) → ready_plain C (stands r) ≡ none → AtRest C (stands r)
    unfolding AtRest
    rests_at_lem r h = plain_none C A (stands r) h

    pub next_at_lem : (r : Row) (i : ℕ) → ready_plain C (stands r) ≡ some i → Next C (stands r) i
    next_at_lem r i h =
        let L : LowestPlain C (stands r) i = plain_some C A (stands r) i h in
        record { is_plain = L.is_plain; follows = L.is_ready; lowest = L.lowest }

-- a monitor's status, with its configuration written out
abbrev pub status_with : Config → Monitor → Status
status_with z m =
    status_as z m.tally.now m.tally.records m.tally.kept m.tally.dropped m.tally.broken.at
    m.tally.broken.reason m.tally.broken.cause

-- one more record, after the records fs
module _ (C : Chart) (A : Accepted C) (fs : Snoc LogRecord) (e : LogRecord) where
  abbrev m : Monitor
  m = after C fs

  -- which is not refused
  unfoldable pub accepts : Bool
  accepts = eqb m.tally.broken.at 0 && (leb m.tally.now e.time && ltb m.tally.records most_records)

  acceptable : So accepts → Acceptable C m e
  unfolding accepts
  acceptable h =
      let b = and_left (eqb m.tally.broken.at 0)
      (leb m.tally.now e.time && ltb m.tally.records most_records) h in
      let k = and_right (eqb m.tally.broken.at 0)
      (leb m.tally.now e.time && ltb m.tally.records most_records) h in
      record {
        fit = after_fit C A fs;
        unbroken = eqb-true m.tally.broken.at 0 b;
        forward =
            leb-true m.tally.now e.time
            (and_left (leb m.tally.now e.time) (ltb m.tally.records most_records) k);
        room = ltb-true m.tally.records most_records
            (and_right (leb m.tally.now e.time) (ltb m.tally.records most_records) k);
      }

  module _ (P : Acceptable C m e) where
    at_rest : AtRest C m.place.fired
    unfolding AtRest
    at_rest = P.fit.settled P.unbroken

    turn_failing : (i term : ℕ) (p : Place) → So (chart_message C e) → take_message C m.place e ≡ fails i term p
        → Turn C (status_of C m) e i (config_at C e.time p)
    unfolding config_at
    turn_failing i term p c q =
        turn_of C (status_of C m) e at_rest
        (failure_of C A m.place e m.tally.now P.fit.moments P.forward c i term p q)

  -- taken by this case, with the machine's status, whose configuration is z
  abbrev TakenSo : ℕ → Config → Answer → Type 0
  TakenSo n z a = (T : Taken C (status_of C m) e (status_with z (feed C m e).next) a) × (case_of C T ≡ n)

  abbrev v : Step
  v = feed C m e

  taken_by : (n : ℕ) (z : Config) (a : Answer) → So accepts → config_at C v.next.tally.now v.next.place ≡ z
      → v.answer ≡ a → number C m e a ≡ n → TakenSo n z a
  taken_by n z a h p q c =
      let P : Acceptable C m e = acceptable h in
      let S : Taken C (status_of C m) e (status_with z v.next) v.answer
      = subst (λ (y : Config). Taken C (status_of C m) e (status_with y v.next) v.answer) p (given C A m e P) in
      let T : Taken C (status_of C m) e (status_with z v.next) a
      = subst (λ (b : Answer). Taken C (status_of C m) e (status_with z v.next) b) q S in
      (T, numbered C A m e P T ∙ c)

  -- a round opens
  pub taken_anew : (n : ℕ) (a : Answer) → So accepts → v.next.place ≡ opening C v.next.tally.now
      → v.answer ≡ a → number C m e a ≡ n → TakenSo n initial a
  taken_anew n a h p q c =
      taken_by n initial a h (ap (config_at C v.next.tally.now) p ∙ opening_config C v.next.tally.now) q c

  -- the round runs on, or is broken
  pub taken_at_lem : (n : ℕ) (r : Row) (l : List ℕ) (a : Answer) → So accepts → v.next.place.fired ≡ stands r
      → table C.clocks (values C v.next.tally.now v.next.place.clocks) ≡ l → v.answer ≡ a
      → number C m e a ≡ n
      → TakenSo n (config_of r l) a
  taken_at_lem n r l a h f k q c =
      taken_by n (config_of r l) a h (config_at_lem C v.next.tally.now v.next.place r l f k) q c

  -- the condition of region i fails when it is its turn, by this term
  pub turn_at : (i term : ℕ) (p : Place) (r : Row) (l : List ℕ) → So accepts → So (chart_message C e)
      → take_message C m.place e ≡ fails i term p → p.fired ≡ stands r
      → table C.clocks (values C e.time p.clocks) ≡ l
      → Turn C (status_of C m) e i (config_of r l)
  turn_at i term p r l h c q f k =
      subst (λ (y : Config). Turn C (status_of C m) e i y) (config_at_lem C e.time p r l f k)
      (turn_failing (acceptable h) i term p c q)

  -- missed: the last row ends in region i, and no region that is ready after it has the message
  pub misses_at : (p : Row) (i : ℕ) → Lawful C 0 fs (p ▸ i) → m.place.fired ≡ stands (p ▸ i) → So (chart_message C e)
      → prechart_done C (stands (p ▸ i)) ≡ false → ready_for C (stands (p ▸ i)) e ≡ none
      → Missed C 0 fs e × MissedIn C (status_of C m).config e
  unfolding config_at Unmatched
  misses_at p i L f c d n = (
    record {
      row = p ▸ i;
      lawful = L;
      fired_before = omega arith;
      in_prechart_case = done_false C (stands (p ▸ i)) d;
      unplaced = unready C A 0 fs e c (p ▸ i) L n;
    },
    rw f (record {
      unmatched = λ j R. for_none C A (stands (p ▸ i)) e j n R;
      in_prechart_case = done_false C (stands (p ▸ i)) d;
      fired_before = (i, or_left (stands p i) (eq-eqb i i refl));
    }),
  )

-- whether record e can start a stretch, and a round
module _ (C : Chart) (A : Accepted C) (e : LogRecord) where
  pub starts_by : (r : Row) (i : ℕ) → LawfulButLast C e.time ε e r → So (chart_message C e)
      → So (ltb i C.regions && ready C (stands ε) i) → C.key i ≡ e.code
      → Fits C e × Starts C e
  starts_by r i W c h k = (
    record { is_message_case = c; row = r; lawful = W },
    record { region = i; follows = ready_at C A ε i h; has_it = k },
  )

  pub starts_not : ready_for C (stands ε) e ≡ none → (¬ Fits C e) × (¬ Starts C e)
  starts_not n = (
    λ F. unready C A e.time ε e F.is_message_case ε (opens C A e.time) n F.row F.lawful,
    λ S. for_none C A (stands ε) e S.region n S.follows S.has_it,
  )

-- record e, after the stretch s that opened at o
module _ (C : Chart) (o : ℕ) (s : Snoc LogRecord) (e : LogRecord) where
  -- it is not missed: it has its place in a row
  pub placed_not : (r : Row) → Lawful C o (s ▸ e) r → ¬ Missed C o s e
  placed_not r L M = M.unplaced r (lawful_waived C o s e r L)

  -- the stretch runs on with it
  pub fed_on : {rs : Snoc LogRecord} {es : Snoc Stretch} (q r : Row) (a : Answer) → refusal rs e ≡ none → Lawful C o s q
      → Lawful C o (s ▸ e) r → full C (stands r) ≡ false → Onward C q r a
      → FedOne C rs es e (unended o s) a (rs ▸ e) es (unended o (s ▸ e))
  fed_on q r a h Q L f O =
      once h (λ X. placed_not r L X.0) (runs_on q r a Q L (full_false C (stands r) f) O)

  -- it is not missed: the row of s has the whole prechart
  pub done_not : Accepted C → (q : Row) → Lawful C o s q → PrechartDone C (stands q) → ¬ Missed C o s e
  done_not A q L D M = M.in_prechart_case (rw (one_row C A o s M.row q M.lawful L) D)

-- nothing is missed where nothing was fired
pub none_not : (C : Chart) → Accepted C → (o : ℕ) (e : LogRecord) → ¬ Missed C o ε e
none_not C A o e M =
    let w : size M.row ≡ 0 = ap size (lawful_empty C A o M.row M.lawful) in
    absurd (omega (arith, M.fired_before))
