-- Where the bytes are shown: each byte of the buffer. Assumes nothing.
use mathlib.Core.Path.{◌≡◌, refl, sym, ap, ◌∙◌}
use mathlib.Core.Logic.{inl, inr}
use mathlib.Core.Bool.{true}
use mathlib.Core.List.{List}
use Prim.Native.Nat.{ℕ, ◌≤◌, ◌<◌}
use native.Mathlib.Omega.{arith}
use borrow.Author.Tests.{ltb-false}
use lib.Dec.{ltb}
use lib.ListN.{length, get_or}
use Rattle.wire.specs.Writing.{starting_with}
use Rattle.wire.proofs.Writing.{starting_size, starting_byte, starting_rest}
use Rattle.base.proofs.Bools.{split, clash}
use Rattle.base.proofs.Table.{length_table, get_d_table}
use Rattle.model.specs.declared.Chart.{Chart}
use Rattle.model.specs.declared.Event.{Event}
use Rattle.model.specs.declared.Event.TheVariants as event
use Rattle.model.specs.declared.Message.{Message}
use Rattle.model.specs.declared.Moment.{Moment}
use Rattle.model.specs.declared.Monitor.{Monitor}
use Rattle.model.specs.declared.Record.TheVariants as a-record
use Rattle.model.specs.declared.FeedRefusal.TheVariants.{NotAChart, Unfit, TimeFalls, TooManyRecords}
use Rattle.model.specs.Chart.{region_at}
use Rattle.model.specs.Answers.{fed_number}
use Rattle.chart_value.specs.WellFormed.{well_formed}
use Rattle.chart_value.specs.View.{chart_of}
use Rattle.rounds.specs.Machine as machine
use Rattle.stepping.specs.declared.Step.{Step}
use Rattle.stepping.specs.Answers.{told_number}
use Rattle.stepping.specs.Monitors.{step_of}
use Rattle.stepping.proofs.Answers.{told_number_lem}
use Rattle.monitor.specs.Fit.{fits}
use Rattle.monitor.specs.Feed.{feed_of}
use Rattle.std.specs.Prelude.{Ok, Err}
use Rattle.preview.specs.declared.PreviewRefusal.TheVariants.{TooShort, Feed}
use Rattle.preview.specs.Preview.{Previewed, preview_number, foreseen_of, foreseen, preview_bytes, preview_of, is_shown}
use Rattle.preview.specs.Preview.{buffer_of}

-- only with 0 is anything shown
pub zero_shown : (a : Previewed) → preview_number a ≡ 0 → is_shown a ≡ true
zero_shown (Ok u) e = refl
zero_shown (Err TooShort) e = absurd (omega arith)
zero_shown (Err (Feed NotAChart)) e = absurd (omega arith)
zero_shown (Err (Feed Unfit)) e = absurd (omega arith)
zero_shown (Err (Feed TimeFalls)) e = absurd (omega arith)
zero_shown (Err (Feed TooManyRecords)) e = absurd (omega arith)

-- there is a byte for each region
enough : (c : Chart) (m : Monitor) (t : Moment) (room : ℕ) → is_shown (preview_of c m t room) ≡ true → c.count ≤ room
unfolding preview_of
enough c m t room s = elim (split (well_formed c)) [
  | inr w ↦ absurd (clash s (rw w))
  | inl w ↦ elim (split (fits (chart_of c) m)) [
    | inr f ↦ absurd (clash s (rw (w, f)))
    | inl f ↦ elim (split (ltb room c.count)) [
      | inl l ↦ absurd (clash s (rw (w, f, l)))
      | inr l ↦ ltb-false room c.count l
    ]
  ]
]

module _ (c : Chart) (m : Monitor) (t : Moment) (l : List ℕ) (s : is_shown (preview_of c m t (length l)) ≡ true) where
  regions : length (preview_bytes c m t) ≡ c.count
  unfolding preview_bytes
  regions = length_table c.count (foreseen c m t)

  filled : buffer_of c m t l ≡ starting_with (preview_bytes c m t) l
  unfolding buffer_of
  filled = rw s

  pub same_size : length (buffer_of c m t l) ≡ length l
  same_size =
      let h = enough c m t (length l) s in
      ap length filled ∙ starting_size (preview_bytes c m t) l (omega (arith, h, regions))

  pub shown_byte : (i : ℕ) → i < c.count → get_or (buffer_of c m t l) i 0 ≡ foreseen c m t i
  unfolding preview_bytes
  shown_byte i h =
      ap (λ (x : List ℕ). get_or x i 0) filled
      ∙ starting_byte (preview_bytes c m t) l i (rw regions h)
      ∙ get_d_table c.count i (foreseen c m t) 0 h

  pub byte_beyond : (i : ℕ) → c.count ≤ i → get_or (buffer_of c m t l) i 0 ≡ get_or l i 0
  byte_beyond i h =
      ap (λ (x : List ℕ). get_or x i 0) filled ∙ starting_rest (preview_bytes c m t) l i (rw regions h)

  -- a message region's byte is the number of the answer to its message, fed
  pub byte_fed : (i : ℕ) → i < c.count → (x : Message) → (region_at c i).event ≡ event.Message x → (r : Step)
      → step_of r ≡ feed_of c m (a-record.Message x t) → get_or (buffer_of c m t l) i 0 ≡ fed_number r.answer
  byte_fed i h x e r q =
      shown_byte i h
      ∙ ap (λ (y : Event). foreseen_of c m t y) e
      ∙ ap (λ (y : machine.Step). told_number y.answer) (sym q)
      ∙ told_number_lem r.answer
