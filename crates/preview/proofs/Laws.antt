-- A region's byte from the compiled chart is that of its message, fed; and what the buffer becomes. Assumes nothing.
use mathlib.Core.Path.{◌≡◌, refl, sym, ap, subst, ◌∙◌}
use mathlib.Core.Bool.{Bool, true, false, cond}
use mathlib.Core.List.{List}
use Prim.Native.Nat.{ℕ, suc, ◌+◌, ◌≤◌, ◌<◌}
use native.Mathlib.Numerals.{add-one}
use borrow.Author.Tests.{lt-ltb, le-ltb, ne_eqb}
use native.Mathlib.Nat.{suc-ne-zero}
use lib.ListN.{length, set}
use Rattle.base.specs.Table.{table}
use Rattle.base.proofs.Table.{length_table, table_more, table_same}
use Rattle.wire.specs.Writing.{Wrote, starting_with}
use Rattle.wire.proofs.Writing.{then, nothing, one, spelled, at_start}
use Rattle.model.specs.declared.Chart.{Chart}
use Rattle.model.specs.declared.Event.{Event}
use Rattle.model.specs.declared.Event.TheVariants.{Message, Plain}
use Rattle.model.specs.declared.Moment.{Moment}
use Rattle.model.specs.declared.Monitor.{Monitor}
use Rattle.model.specs.declared.Record.TheVariants as a-record
use Rattle.model.specs.declared.FeedRefusal.TheVariants.{NotAChart, Unfit}
use Rattle.model.specs.Chart.{region_at, zero_region}
use Rattle.model.specs.Answers.{Fed, fed_number}
use Rattle.chart_value.specs.WellFormed.{well_formed}
use Rattle.chart_value.specs.View.{key_of, chart_of}
use Rattle.rounds.specs.Chart.{Chart as Abstract}
use Rattle.rounds.specs.Machine as machine
use Rattle.stepping.specs.Answers.{fed_answer, told_number}
use Rattle.stepping.specs.Monitors.{monitor_at, record_of}
use Rattle.stepping.proofs.Answers.{told_number_lem}
use Rattle.monitor.specs.Fit.{fits}
use Rattle.monitor.proofs.Feeding.{fed_on}
use Rattle.std.specs.Prelude.{Err}
use Rattle.preview.specs.declared.PreviewRefusal.TheVariants.{TooShort, Feed}
use Rattle.preview.specs.Preview.{Previewed, foreseen_of, foreseen, preview_bytes, timely, shown_if, preview_of, is_shown}
use Rattle.preview.specs.Preview.{buffer_of}
use Rattle.preview.specs.Parts.{shown_by}

-- a region's byte: that of a plain one, and that of a message
pub shown_plain : (C : Abstract) (m : Monitor) (t : Moment) (code : ℕ) → code ≡ 0 → 0 ≡ shown_by C m t code
unfolding shown_by
shown_plain C m t code e = rw e refl

pub shown_message : (C : Abstract) (m : Monitor) (t : Moment) (code : ℕ) → ¬ (code ≡ 0) → (a : Fed)
    → fed_answer a ≡ (machine.feed C (monitor_at m) (record_of code t.0)).answer → fed_number a ≡ shown_by C m t code
unfolding shown_by
shown_message C m t code n a e = rw (ne_eqb code 0 n) (sym (told_number_lem a) ∙ ap told_number e)

-- the loop: the first bytes stand, one more at each turn
pub record Front (l : List ℕ) (f : ℕ → ℕ) (i : ℕ) (out : List ℕ) : Type 0 where
  pub wrote : Wrote l 0 (table i f) out i

pub front_none : (l : List ℕ) (f : ℕ → ℕ) → Front l f 0 l
front_none l f = record { wrote = nothing l 0 0 refl }

pub front_more : {l : List ℕ} {f : ℕ → ℕ} {i : ℕ} {out : List ℕ} → Front l f i out → (b : ℕ) → b ≡ f i
    → Front l f (i + 1) (set out i b)
front_more {l} {f} {i} {out} F b e =
    let next : Front l f (suc i) (set out i b)
    = record { wrote = spelled (rw e (table_more i f)) (then F.wrote (one out i b (suc i) (sym (add-one i)))) } in
    subst (λ (k : ℕ). Front l f k (set out i b)) (sym (add-one i)) next

pub front_whole : {l : List ℕ} {f : ℕ → ℕ} {i : ℕ} {out : List ℕ} → Front l f i out → (n : ℕ) → i ≡ n → n ≤ length l
    → out ≡ starting_with (table n f) l
front_whole {l} {f} {i} {out} F n e h =
    let G : Front l f n out = subst (λ (k : ℕ). Front l f k out) e F in
    at_start G.wrote (rw (length_table n f) h)

-- the tests in their order; with a refusal the buffer stays
module _ (c : Chart) (m : Monitor) (t : Moment) (l : List ℕ) where
  abbrev pub Gives : Previewed → List ℕ → Type 0
  Gives r out = (r ≡ preview_of c m t (length l)) × (out ≡ buffer_of c m t l)

  pub stays : (r : Previewed) → is_shown r ≡ false → r ≡ preview_of c m t (length l) → Gives r l
  unfolding buffer_of
  stays r s e = (e, rw (← e, s))

  pub no_chart : well_formed c ≡ false → Gives (Err (Feed NotAChart)) l
  unfolding preview_of
  no_chart w = stays (Err (Feed NotAChart)) refl (rw w)

  module _ (w : well_formed c ≡ true) (C : Abstract) (same : C ≡ chart_of c) where
    fits_as : {b : Bool} → fits C m ≡ b → fits (chart_of c) m ≡ b
    fits_as e = ap (λ (C : Abstract). fits C m) (sym same) ∙ e

    pub not_fit_lem : fits C m ≡ false → Gives (Err (Feed Unfit)) l
    unfolding preview_of
    not_fit_lem f = stays (Err (Feed Unfit)) refl (rw (w, fits_as f))

    module _ (f : fits C m ≡ true) where
      pub too_short_case : length l < C.regions → Gives (Err TooShort) l
      unfolding preview_of
      too_short_case h =
          let q : length l < c.count = rw (ap (λ (C : Abstract). C.regions) (sym same)) h in
          stays (Err TooShort) refl (rw (w, fits_as f, lt-ltb (length l) c.count q))

      module _ (h : C.regions ≤ length l) (r : Previewed) (e : r ≡ shown_if (timely m.tally t)) where
        pub on_time : r ≡ preview_of c m t (length l)
        unfolding preview_of
        on_time =
            let q : c.count ≤ length l = rw (ap (λ (C : Abstract). C.regions) (sym same)) h in
            rw (w, fits_as f, le-ltb (length l) c.count q) e

        pub untimely : is_shown r ≡ false → Gives r l
        untimely s = stays r s on_time

        by_event : (e : Event) (code : ℕ) → code ≡ key_of e → shown_by C m t code ≡ foreseen_of c m t e
        unfolding shown_by
        by_event (Plain z) code q = rw q
        by_event (Message x) code q =
            rw (ne_eqb code 0 (λ z. suc-ne-zero _ (sym q ∙ z)))
            (ap (λ (s : machine.Step). told_number s.answer)
            (fed_on c m (a-record.Message x t) _ w C same f code t q refl refl))

        in_chart : (i : ℕ) → i < c.count → shown_by C m t (C.key i) ≡ foreseen c m t i
        in_chart i b =
            by_event (region_at c i).event (C.key i)
            (ap (λ (C : Abstract). C.key i) same
            ∙ ap (λ (b : Bool). key_of (cond b (region_at c i) zero_region).event) (lt-ltb i c.count b))

        pub shows : is_shown r ≡ true → (out : List ℕ)
            → out ≡ starting_with (table C.regions (λ i. shown_by C m t (C.key i))) l → Gives r out
        unfolding buffer_of preview_bytes
        shows s out q =
            let k = ap (λ (C : Abstract). C.regions) same in (
              on_time,
              rw (← on_time, s)
                  (q
                  ∙ ap (λ (n : ℕ). starting_with (table n (λ i. shown_by C m t (C.key i))) l) k
                  ∙ ap (λ (x : List ℕ). starting_with x l) (table_same c.count _ _ in_chart)),
            )
