-- The chart in live bytes: what the reader gives for its part, zeros where there is none; zeros are no chart. Assumes
-- nothing.
use mathlib.Core.Path.{◌≡◌, refl, sym, ap, ◌∙◌}
use mathlib.Core.Bool.{true, false, cond, ◌&&◌}
use mathlib.Core.Logic.{inl, inr}
use mathlib.Core.List.{List, ◌++◌}
use Prim.Native.Nat.{ℕ, ◌+◌, ◌-◌, ◌≤◌, ◌<◌, ◌^◌}
use native.Mathlib.Omega.{arith}
use borrow.Author.Tests.{le-leb, lt-leb, leb-true, eq-eqb, ne_eqb, eqb-true, eqb-false}
use lib.Dec.{eqb, leb}
use Rattle.std.specs.Prelude.{Some, None}
use lib.ListN.{length, take, drop}
use lib.Seq.{get_or-drop, drop-drop, take_at}
use Rattle.base.proofs.Bools.{both, and_left, split}
use Rattle.model.specs.declared.Chart.{Chart}
use Rattle.model.specs.Chart.{zero_chart}
use Rattle.chart_value.proofs.Exact.{accepted_whole}
use Rattle.chart_reader.specs.Read.{read_chart}
use Rattle.chart_reader.specs.Said.{Said}
use Rattle.chart_reader.proofs.Ends.{Reads, accepts, refuses, reads}
use Rattle.chart_value.specs.WellFormed.{well_formed}
use Rattle.wire.specs.Bytes.{word64}
use Rattle.wire.specs.Writing.{long_bytes}
use Rattle.monitor_image.specs.MonitorImage.{monitor_size}
use Rattle.wire.proofs.Writing.{long_back}
use Rattle.live.specs.Live.{head_size, length_in, chart_part, chart_in, chart_if_live, is_framed, is_live}

pub too_few : (l : List ℕ) → length l < head_size → None ≡ chart_if_live l
unfolding is_live
too_few l h = rw (lt-leb head_size (length l) h)

pub beyond : (l : List ℕ) → head_size ≤ length l → length l - head_size < length_in l → None ≡ chart_if_live l
unfolding is_live
beyond l h k = rw (le-leb head_size (length l) h, lt-leb (length_in l) (length l - head_size) k)

-- what the reader says of the part as the code lends it
module _ (l : List ℕ) (n : ℕ) (h : head_size ≤ length l) (e : n ≡ length_in l) (k : n ≤ length l - head_size)
    (s : Said) (r : s ≡ read_chart (take (head_size + n - head_size) (drop head_size l))) where
  framed : is_framed l ≡ true
  framed =
      let b : length_in l ≤ length l - head_size = omega arith in
      rw (le-leb head_size (length l) h, le-leb (length_in l) (length l - head_size) b)

  said_there : s ≡ read_chart (chart_part l)
  said_there =
      let t : head_size + n - head_size ≡ length_in l = omega arith in
      r ∙ ap (λ (j : ℕ). read_chart (take j (drop head_size l))) t

  pub accepted_there : s.number ≡ 0 → Some s.chart ≡ chart_if_live l
  unfolding is_live chart_in
  accepted_there z =
      let x : eqb (read_chart (chart_part l)).number 0 ≡ true =
      ap (λ (s : Said). eqb s.number 0) (sym said_there) ∙ eq-eqb s.number 0 z in
      rw (framed, x) (ap (λ (s : Said). Some s.chart) said_there)

  pub refused_there : ¬ (s.number ≡ 0) → None ≡ chart_if_live l
  unfolding is_live
  refused_there z =
      let x : eqb (read_chart (chart_part l)).number 0 ≡ false =
      ap (λ (s : Said). eqb s.number 0) (sym said_there) ∙ ne_eqb s.number 0 z in
      rw (framed, x)

-- the chart depends on the number of bytes and on what stands after the monitor's image
chart_from : ℕ → List ℕ → Chart
chart_from k t =
    cond (leb head_size k && leb (word64 t 0) (k - head_size)) (read_chart (take (word64 t 0) (drop 8 t))).chart zero_chart

chart_from_lem : (l : List ℕ) → chart_from (length l) (drop monitor_size l) ≡ chart_in l
unfolding chart_from chart_in
chart_from_lem l =
    rw (
      get_or-drop monitor_size l 0 0,
      get_or-drop monitor_size l 1 0,
      get_or-drop monitor_size l 2 0,
      get_or-drop monitor_size l 3 0,
      get_or-drop monitor_size l 4 0,
      get_or-drop monitor_size l 5 0,
      get_or-drop monitor_size l 6 0,
      get_or-drop monitor_size l 7 0,
      drop-drop 8 monitor_size l,
    )

pub same_chart : (l n : List ℕ) → length n ≡ length l → drop monitor_size n ≡ drop monitor_size l → chart_in n ≡ chart_in l
same_chart l n p q = sym (chart_from_lem n) ∙ (λ i. chart_from (p i) (q i)) ∙ chart_from_lem l

-- a chart's length and its bytes after the image, with anything after them
pub chart_after : (l chart rest : List ℕ) → drop monitor_size l ≡ long_bytes (length chart) ++ (chart ++ rest)
    → head_size + length chart ≤ length l
    → length chart < 2 ^ 64 → chart_in l ≡ (read_chart chart).chart
unfolding chart_from
chart_after l chart rest e h k =
    let b : length chart ≤ length l - head_size = omega arith in
    sym (chart_from_lem l) ∙ ap (chart_from (length l)) e
    ∙ rw (
      long_back (length chart) (chart ++ rest) k,
      le-leb head_size (length l) (omega arith),
      le-leb (length chart) (length l - head_size) b,
      take_at chart rest (length chart) refl,
    )

refused_zeros : {x : Said} → Reads x → (x.number ≡ 0 → ⊥) → x.chart ≡ zero_chart
refused_zeros (accepts c) h = absurd (h refl)
refused_zeros (refuses f offset) h = refl

pub not_live : (l : List ℕ) → is_live l ≡ false → chart_in l ≡ zero_chart
unfolding is_live chart_in
not_live l e = elim (split (is_framed l)) [
  | inl f ↦
      let n : eqb (read_chart (chart_part l)).number 0 ≡ false = rw f at e in
      rw f (refused_zeros (reads (chart_part l)) (eqb-false _ _ n))
  | inr f ↦ rw f
]

pub zero_refused : well_formed zero_chart ≡ false
unfolding well_formed
zero_refused = refl

live_whole : (l : List ℕ) → is_live l ≡ true → well_formed (chart_in l) ≡ true
unfolding is_live chart_in
live_whole l e =
    let b = both (is_framed l) (eqb (read_chart (chart_part l)).number 0) e in
    rw b.0 (accepted_whole (chart_part l) (eqb-true _ _ b.1))

-- live bytes are those with a chart
pub live_exact : (l : List ℕ) → is_live l ≡ well_formed (chart_in l)
live_exact l = elim (split (is_live l)) [
  | inl e ↦ e ∙ sym (live_whole l e)
  | inr e ↦ e ∙ sym (ap well_formed (not_live l e) ∙ zero_refused)
]

pub some_live : (l : List ℕ) (c : Chart) → Some c ≡ chart_if_live l → (c ≡ chart_in l) × (well_formed (chart_in l) ≡ true)
some_live l c e = elim (split (is_live l)) [
  | inl y ↦ let q : Some c ≡ Some (chart_in l) = rw y at e in (cc, live_whole l y)
  | inr n ↦ let q : Some c ≡ None = rw n at e in absurd (cc)
]

pub none_live : (l : List ℕ) → None ≡ chart_if_live l → is_live l ≡ false
none_live l e = elim (split (is_live l)) [
  | inl y ↦ let q : None ≡ Some (chart_in l) = rw y at e in absurd (cc)
  | inr n ↦ n
]

-- live bytes have room for the head
pub live_long : (l : List ℕ) → well_formed (chart_in l) ≡ true → head_size ≤ length l
unfolding is_live
live_long l w =
    leb-true head_size (length l)
    (and_left _ _ (and_left (is_framed l) (eqb (read_chart (chart_part l)).number 0) (live_exact l ∙ w)))
