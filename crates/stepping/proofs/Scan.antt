-- What the scan for a message decides. Assumes nothing.
use mathlib.Core.Path.{◌≡◌, sym, ap, ◌∙◌, fun_ext}
use mathlib.Core.Logic.{◌⊎◌, inl, inr}
use mathlib.Core.Bool.{Bool, true, false, cond, So, ◌&&◌}
use mathlib.Core.Option.{Option, none, some}
use mathlib.Core.List.{List}
use Prim.Native.Nat.{ℕ}
use native.Mathlib.Omega.{arith}
use lib.Dec.{eqb}
use lib.ListN.{get_or}
use Rattle.bitset.specs.Set.{contains}
use Rattle.bitset.proofs.Laws.{contains_empty}
use Rattle.model.specs.declared.Monitor.{Monitor}
use Rattle.base.specs.Lists.{first, some_below}
use Rattle.rounds.specs.Chart.{Chart}
use Rattle.rounds.specs.Rows.{LogRecord, chart_message, Ready}
use Rattle.rounds.specs.Feeds.{quiet}
use Rattle.rounds.specs.Machine.{ready_for, take_message, go_on, conclude, accept}
use Rattle.base.proofs.Bools.{split, and_left}
use Rattle.base.proofs.Facts.{found, first_some}
use Rattle.rounds.proofs.Machine.{for_some}
use Rattle.rounds.proofs.Offers.{accept_quiet, accept_ready}
use Rattle.layout.specs.declared.compiled.Plan.{Plan}
use Rattle.layout.specs.Plans.{chart_of_plan}
use Rattle.layout.proofs.Plans.{compiled}
use Rattle.firing.specs.declared.Sought.{Sought}
use Rattle.firing.specs.declared.Sought.TheVariants.{Ready as ReadyAt, Unready, Foreign}
use Rattle.stepping.specs.Monitors.{monitor_at, record_of}
use Rattle.firing.specs.Parts.{ready_by, sought_by, taken_at}
use Rattle.stepping.specs.Parts.{Offerable, offered_by, Decides}
use Rattle.base.proofs.Loops.{one_passes}
use Rattle.firing.proofs.Ready.{first_same, ready_same}
use Rattle.stepping.proofs.Again.{first_decides}

-- the ready region that has the message, and whether some region has it
abbrev the_ready : List ℕ → List ℕ → ℕ → ℕ → ℕ → Option ℕ
the_ready keys above count fired code = first count (λ i. eqb (get_or keys i 0) code && ready_by above fired i)

abbrev some_has : List ℕ → ℕ → ℕ → Bool
some_has keys count code = some_below count (λ i. eqb (get_or keys i 0) code)

not_ready : {X : Type 0} (b : Bool) {i : ℕ} → cond b Unready Foreign ≡ ReadyAt i → X
not_ready true e = absurd (let z : ◌≡◌ {A = ℕ} 0 1 = cc in omega arith)
not_ready false e = absurd (let z : ◌≡◌ {A = ℕ} 0 1 = cc in omega arith)

-- with nothing fired, what is ready now is ready at the opening
pub opening_none : (C : Chart) (e : LogRecord) (fired : ℕ) → fired ≡ 0 → ready_for C (contains fired) e ≡ none
    → ready_for C (λ i. false) e ≡ none
opening_none C e fired z n = ap (λ (f : ℕ → Bool). ready_for C f e) (sym (fun_ext contains_empty)) ∙ (rw z at n)

module _ (p : Plan) (m : Monitor) (code t : ℕ) where
  ready_at : (fired : ℕ) → ready_for (chart_of_plan p) (contains fired) (record_of code t)
      ≡ the_ready p.keys p.above p.head.count fired code
  unfolding ready_for
  ready_at fired =
      sym (first_same p.head.count _ _
      (λ i l. ap (λ (b : Bool). eqb (get_or p.keys i 0) code && b) (ready_same (compiled p) fired i l)))

  ready_for_lem : ready_for (chart_of_plan p) (contains m.place.fired) (record_of code t)
      ≡ the_ready p.keys p.above p.head.count m.place.fired code
  ready_for_lem = ready_at m.place.fired

  -- the search at the opening
  pub ready_opening : {o : Option ℕ} → o ≡ the_ready p.keys p.above p.head.count 0 code
      → ready_for (chart_of_plan p) (λ i. false) (record_of code t) ≡ o
  ready_opening q =
      ap (λ (f : ℕ → Bool). ready_for (chart_of_plan p) f (record_of code t))
      (sym (fun_ext contains_empty))
      ∙ ready_at 0 ∙ sym q

  -- a message that some region has
  chart_message_lem : eqb code 0 ≡ false → So (some_has p.keys p.head.count code)
      → So (chart_message (chart_of_plan p) (record_of code t))
  unfolding chart_message
  chart_message_lem z s = rw (z, s)

  has : (i : ℕ) → the_ready p.keys p.above p.head.count m.place.fired code ≡ some i → So (some_has p.keys p.head.count code)
  has i f = let L = first_some p.head.count _ i f in
      one_passes (λ i. eqb (get_or p.keys i 0) code) i p.head.count L.below (and_left _ _ L.passes)

  -- a record of time
  pub time_quiet : So (eqb code 0)
      → accept (chart_of_plan p) (monitor_at m) (record_of code t)
      ≡ go_on (chart_of_plan p) (monitor_at m) (record_of code t) quiet (monitor_at m).place
  unfolding chart_message
  time_quiet z =
      let q : chart_message (chart_of_plan p) (record_of code t) ≡ false = rw z in
      accept_quiet (chart_of_plan p) (monitor_at m) (record_of code t) q

  -- one that no region has
  foreign_quiet : eqb code 0 ≡ false
      → sought_by p.keys p.above p.head.count m.place.fired code ≡ Foreign
      → accept (chart_of_plan p) (monitor_at m) (record_of code t)
      ≡ go_on (chart_of_plan p) (monitor_at m) (record_of code t) quiet (monitor_at m).place
  unfolding chart_message sought_by
  foreign_quiet z f = elim (found (the_ready p.keys p.above p.head.count m.place.fired code)) [
    | inl n ↦ elim (split (some_has p.keys p.head.count code)) [
      | inl s ↦
          let g : Unready ≡ Foreign = rw (n, s) at f in
          absurd (let z : ◌≡◌ {A = ℕ} 0 1 = cc in omega arith)
      | inr s ↦
          let q : chart_message (chart_of_plan p) (record_of code t) ≡ false = rw (z, s) in
          accept_quiet (chart_of_plan p) (monitor_at m) (record_of code t) q
    ]
    | inr f' ↦
        let g : ReadyAt f'.0 ≡ Foreign = rw f'.1 at f in
        absurd (let z : ◌≡◌ {A = ℕ} 0 1 = cc in omega arith)
  ]

  -- one that the ready region i has
  found_ready : {i : ℕ} → sought_by p.keys p.above p.head.count m.place.fired code ≡ ReadyAt i
      → the_ready p.keys p.above p.head.count m.place.fired code ≡ some i
  unfolding sought_by
  found_ready {i} q = elim (found (the_ready p.keys p.above p.head.count m.place.fired code)) [
    | inl n ↦ not_ready (some_has p.keys p.head.count code) (rw n at q)
    | inr f ↦
        let g : ReadyAt f.0 ≡ ReadyAt i = rw f.1 at q in
        let w : f.0 ≡ i = cc in
        rw w at f.1
  ]

  ready_taken : eqb code 0 ≡ false → {i : ℕ}
      → sought_by p.keys p.above p.head.count m.place.fired code ≡ ReadyAt i
      → accept (chart_of_plan p) (monitor_at m) (record_of code t)
      ≡ conclude (chart_of_plan p) (monitor_at m) (record_of code t)
      (taken_at (chart_of_plan p) t (monitor_at m).place i)
  unfolding take_message
  ready_taken z {i} q =
      let f = found_ready q in
      rw (
        accept_ready (chart_of_plan p) (monitor_at m) (record_of code t) (chart_message_lem z (has i f)) i
            (ready_for_lem ∙ f),
        ready_for_lem,
        f,
      )

  sought_ready : {i : ℕ} → sought_by p.keys p.above p.head.count m.place.fired code ≡ ReadyAt i
      → Ready (chart_of_plan p) (contains m.place.fired) i
  sought_ready {i} q = (for_some _ (compiled p).accepted _ (record_of code t) i (ready_for_lem ∙ found_ready q)).0

  pub sought_unready : eqb code 0 ≡ false → sought_by p.keys p.above p.head.count m.place.fired code ≡ Unready
      → So (chart_message (chart_of_plan p) (record_of code t))
      × (ready_for (chart_of_plan p) (contains m.place.fired) (record_of code t) ≡ none)
  unfolding sought_by
  sought_unready z q = elim (found (the_ready p.keys p.above p.head.count m.place.fired code)) [
    | inl n ↦ elim (split (some_has p.keys p.head.count code)) [
      | inl s ↦ (chart_message_lem z s, ready_for_lem ∙ n)
      | inr s ↦
          let g : Foreign ≡ Unready = rw (n, s) at q in
          absurd (let z : ◌≡◌ {A = ℕ} 0 1 = cc in omega arith)
    ]
    | inr f ↦
        let g : ReadyAt f.0 ≡ Unready = rw f.1 at q in
        absurd (let z : ◌≡◌ {A = ℕ} 0 1 = cc in omega arith)
  ]

  -- with a ready region, or with none that has the message, the first offer decides
  pub first_offer : eqb code 0 ≡ false → {x : Sought} → ((i : ℕ) × (x ≡ ReadyAt i)) ⊎ (x ≡ Foreign)
      → sought_by p.keys p.above p.head.count m.place.fired code ≡ x → Offerable m t
      → Decides (chart_of_plan p) m (record_of code t) (record { sought = x; monitor = m })
  unfolding offered_by
  first_offer z {x} (inl r) q H =
      first_decides _ m (record_of code t) H x (rw r.1 (ready_taken z (q ∙ r.1))) (λ j e. sought_ready (q ∙ e))
  first_offer z {x} (inr f) q H =
      first_decides _ m (record_of code t) H x (rw f (foreign_quiet z (q ∙ f)))
      (λ j e. absurd (let z : ◌≡◌ {A = ℕ} 0 1 = cc in omega arith))
