-- Saving a chart, case by case; what was written is read as the chart, and bytes tell charts apart. Assumes nothing.
use mathlib.Core.Path.{◌≡◌, refl, sym, ap, subst, ◌∙◌}
use mathlib.Core.Logic.{◌↔◌, inl, inr}
use mathlib.Core.Bool.{Bool, true, false}
use mathlib.Core.List.{List}
use Prim.Native.Nat.{ℕ, ◌≤◌}
use Rattle.std.specs.Prelude.{Result, Ok, Err}
use native.Mathlib.Omega.{arith}
use borrow.Author.Tests.{ltb-true, ltb-false, lt-ltb, le-ltb}
use lib.Dec.{ltb}
use lib.ListN.{length, take, drop}
use Rattle.base.proofs.Bools.{split, clash}
use Rattle.wire.specs.Writing.{starting_with}
use Rattle.wire.proofs.Writing.{take_front, starting_size, starting_byte, starting_rest, starting_only}
use Rattle.model.specs.declared.Chart.{Chart}
use Rattle.chart_reader.specs.Said.{Said, accepted_as}
use Rattle.chart_reader.specs.Read.{read_chart}
use Rattle.chart_value.specs.Given.{Given}
use Rattle.chart_value.specs.WellFormed.{well_formed}
use Rattle.chart_value.specs.Writer.{chart_bytes}
use Rattle.chart_value.proofs.Sound.{sound}
use Rattle.chart_value.proofs.RoundTrip.{round_trip}
use Rattle.chart_writer.specs.declared.SaveRefusal.{SaveRefusal}
use Rattle.chart_writer.specs.declared.SaveRefusal.TheVariants.{NotAChart, TooShort}
use Rattle.chart_writer.specs.Save.{saved_answer, saved_buffer}
use Rattle.save_claims.specs.Saves as save
use Rattle.save_claims.specs.Saves.{SavesAs, SavesJust, written_length}

-- the writer's bytes of a given chart are read as the chart
pub saved_read : (c : Chart) → Given c → read_chart (chart_bytes c) ≡ accepted_as c
saved_read c g = let w = sound g.bytes c g.accepted in round_trip c w.shape w.fine

pub bytes_tell : (c d : Chart) → Given c → Given d → (c ≡ d) ↔ (chart_bytes c ≡ chart_bytes d)
bytes_tell c d g h = (
  λ e. ap chart_bytes e,
  λ e. ap (λ (x : Said). x.chart) (sym (saved_read c g) ∙ ap read_chart e ∙ saved_read d h),
)

written? : Result ℕ SaveRefusal → Bool
written? (Ok n) = true
written? (Err k) = false

module _ (c : Chart) (G : (well_formed c ≡ true) ↔ Given c) (l : List ℕ) where
  -- each case has what is computed
  as_computed : {s : Result ℕ SaveRefusal} {k : List ℕ} → SavesAs c l s k → (s ≡ saved_answer c l) × (k ≡ saved_buffer c l)
  as_computed (save.not_given u) = elim (split (well_formed c)) [
    | inl w ↦ absurd (u (G.0 w))
    | inr w ↦ (rw w refl, rw w refl)
  ]
  as_computed (save.too_short_case g h) =
      let w = G.1 g in
      let f = lt-ltb (length l) (length (chart_bytes c)) h in
      (rw (w, f) refl, rw (w, f) refl)
  as_computed (save.saves g h n H) =
      let w = G.1 g in
      let f = le-ltb (length l) (length (chart_bytes c)) h in
      (rw (w, f) refl, rw (w, f) (starting_only (chart_bytes c) l n h H.size H.bytes H.rest))

  -- and one of them applies
  along : {s : Result ℕ SaveRefusal} {k : List ℕ} → SavesAs c l s k → SavesAs c l (saved_answer c l) (saved_buffer c l)
  along {s} {k} S =
      let p = as_computed S in
      subst (λ (m : List ℕ). SavesAs c l (saved_answer c l) m) p.1
      (subst (λ (r : Result ℕ SaveRefusal). SavesAs c l r k) p.0 S)

  applies : SavesAs c l (saved_answer c l) (saved_buffer c l)
  applies = elim (split (well_formed c)) [
    | inr w ↦ along (save.not_given (λ g. clash (G.1 g) w))
    | inl w ↦ elim (split (ltb (length l) (length (chart_bytes c)))) [
      | inl f ↦ along (save.too_short_case (G.0 w) (ltb-true _ _ f))
      | inr f ↦
          let h = ltb-false (length l) (length (chart_bytes c)) f in
          along (save.saves (G.0 w) h (starting_with (chart_bytes c) l) (record {
            size = starting_size (chart_bytes c) l h;
            bytes = starting_byte (chart_bytes c) l;
            rest = starting_rest (chart_bytes c) l;
          }))
    ]
  ]

  module _ (r : Result ℕ SaveRefusal) (n : List ℕ) (e : r ≡ saved_answer c l) (q : n ≡ saved_buffer c l) where
    pub saves_just : SavesJust c l r n
    saves_just = record {
      holds =
          subst (λ (m : List ℕ). SavesAs c l r m) (sym q)
          (subst (λ (s : Result ℕ SaveRefusal). SavesAs c l s (saved_buffer c l)) (sym e) applies);
      only = λ s k S. let p = as_computed S in (p.0 ∙ sym e, p.1 ∙ sym q);
    }

    -- what was written stands in the buffer, and is read as the chart
    by_room : well_formed c ≡ true → (b : Bool) → ltb (length l) (length (chart_bytes c)) ≡ b
        → (written_length r ≤ length n) × (written? r ≡ true → take (written_length r) n ≡ chart_bytes c)
    unfolding written?
    by_room w true f =
        let a : r ≡ Err (TooShort (length (chart_bytes c))) = e ∙ rw (w, f) refl in
        (rw a (omega arith), λ h. clash h (ap written? a))
    by_room w false f =
        let a : r ≡ Ok (length (chart_bytes c)) = e ∙ rw (w, f) refl in
        let b : n ≡ starting_with (chart_bytes c) l = q ∙ rw (w, f) refl in
        let h = ltb-false (length l) (length (chart_bytes c)) f in (
          rw (a, b, starting_size (chart_bytes c) l h) h,
          λ w. (λ i. take (written_length (a i)) (b i)) ∙ take_front (chart_bytes c) (drop (length (chart_bytes c)) l),
        )

    by_chart : (b : Bool) → well_formed c ≡ b
        → (written_length r ≤ length n) × (written? r ≡ true → read_chart (take (written_length r) n) ≡ accepted_as c)
    unfolding written?
    by_chart false w =
        let a : r ≡ Err NotAChart = e ∙ rw w refl in
        (rw a (omega arith), λ h. clash h (ap written? a))
    by_chart true w =
        let p = by_room w (ltb (length l) (length (chart_bytes c))) refl in
        (p.0, λ h. ap read_chart (p.1 h) ∙ saved_read c (G.0 w))

    pub in_buffer : written_length r ≤ length n
    in_buffer = (by_chart (well_formed c) refl).0

    pub read_back : (k : ℕ) → r ≡ Ok k → read_chart (take (written_length r) n) ≡ accepted_as c
    unfolding written?
    read_back k h = (by_chart (well_formed c) refl).1 (ap written? h)
