-- Opening a live monitor: the chart's refusal, too few places, or the bytes of a fresh one. Assumes nothing.
use mathlib.Core.Path.{◌≡◌, refl, sym, ap, subst, ◌∙◌}
use mathlib.Core.Bool.{Bool, true, false, cond}
use mathlib.Core.List.{List, ◌++◌, append_assoc}
use Prim.Native.Nat.{ℕ, ◌+◌, ◌-◌, ◌≤◌, ◌<◌, ◌^◌}
use native.Mathlib.Omega.{arith}
use borrow.Author.Tests.{lt-ltb, le-ltb, ne_eqb}
use lib.Dec.{eqb}
use lib.ListN.{length, drop, length-append}
use Rattle.model.specs.declared.Monitor.{Monitor}
use Rattle.model.specs.Monitor.{zero_monitor}
use Rattle.model.specs.Answers.{too_short}
use Rattle.std.proofs.Common.{Result, Ok, Err}
use Rattle.chart_step.specs.declared.Fault.{Fault}
use Rattle.chart_step.specs.Refusal.{refusal_number}
use Rattle.chart_reader.specs.declared.ChartRead.{ChartRead}
use Rattle.chart_reader.specs.Read.{read_chart}
use Rattle.chart_reader.specs.Said.{Said, said, number_of, offset_of}
use Rattle.wire.specs.Writing.{Wrote, starting_with, long_bytes}
use Rattle.wire.proofs.Writing.{then, spelled, at_start, starting_size}
use Rattle.monitor_image.specs.MonitorImage.{monitor_size, monitor_bytes, monitor_in}
use Rattle.monitor_image.proofs.Laws.{monitor_length}
use Rattle.live.specs.Live.{head_size, largest, live_size, fresh_bytes, Opened, opened_by, opened_of, bytes_opened, Holds}
use Rattle.live.proofs.Charts.{chart_after}
use Rattle.chart_step.proofs.Numbers.{refusal_nonzero}

pub size_sum : (n : ℕ) → n ≤ largest - head_size → live_size n ≡ head_size + n
unfolding live_size
size_sum n h = rw (le-ltb (largest - head_size) n h)

pub fresh_length : (chart : List ℕ) → length (fresh_bytes chart) ≡ head_size + length chart
unfolding fresh_bytes
fresh_length chart =
    length-append (monitor_bytes zero_monitor) (long_bytes (length chart) ++ chart)
    ∙ omega (arith, monitor_length zero_monitor, length-append (long_bytes (length chart)) chart)

-- the parts of a fresh live monitor, each in its place
pub fresh_parts : {l a b n s : List ℕ} {i j k : ℕ} (m : Monitor) (chart : List ℕ) → m ≡ zero_monitor
    → head_size + length chart ≤ length l → s ≡ long_bytes (length chart) → Wrote l 0 (monitor_bytes m) a i
    → Wrote a monitor_size s b j → Wrote b head_size chart n k → n ≡ starting_with (fresh_bytes chart) l
unfolding fresh_bytes
fresh_parts {l} {a} {b} {n} {s} m chart z h e u v w =
    let p : Wrote l 0 (monitor_bytes m) a monitor_size =
    subst (λ (x : ℕ). Wrote l 0 (monitor_bytes m) a x) (omega (arith, u.next, monitor_length m)) u in
    let t : Wrote a monitor_size (long_bytes (length chart)) b (monitor_size + 8) = spelled e (subst (λ (x : ℕ). Wrote a monitor_size s b x) (v.next ∙ ap (λ (x : List ℕ). monitor_size + length x) e) v) in
    at_start
    (spelled
    (append_assoc (monitor_bytes m) (long_bytes (length chart)) chart
    ∙ ap (λ (m : Monitor). monitor_bytes m ++ (long_bytes (length chart) ++ chart)) z)
    (then (then p t) w))
    (omega (arith, h, fresh_length chart))

-- what the reader says, by its answer
as_answered : (chart : List ℕ) (r : ChartRead) (a : Result (Unit {0}) Fault) → said r ≡ read_chart chart → r.answer ≡ a
    → read_chart chart ≡ record { number = number_of a; offset = offset_of a; chart = r.chart }
as_answered chart r a p q = sym p ∙ (λ i. record { number = number_of (q i); offset = offset_of (q i); chart = r.chart })

bytes_by : (chart l : List ℕ) (o : Opened) (b : Bool) → opened_of chart (length l) ≡ o → eqb o.number 0 ≡ b
    → cond b (fresh_bytes chart ++ drop (live_size (length chart)) l) l ≡ bytes_opened chart l
unfolding bytes_opened
bytes_by chart l o b p q =
    sym (ap (λ (x : Opened). cond (eqb x.number 0) (fresh_bytes chart ++ drop (live_size (length chart)) l) l) p
    ∙ ap (λ (b : Bool). cond b (fresh_bytes chart ++ drop (live_size (length chart)) l) l) q)

-- bytes that start with those of a fresh live monitor hold its chart and a fresh monitor
held : (chart n rest : List ℕ) → n ≡ fresh_bytes chart ++ rest → head_size + length chart ≤ length n
    → length chart < 2 ^ 64 → Holds chart n
unfolding fresh_bytes monitor_bytes monitor_in
held chart n rest b h k =
    let tail : drop monitor_size (fresh_bytes chart ++ rest) ≡ long_bytes (length chart) ++ (chart ++ rest) = refl in
    let again : monitor_in (fresh_bytes chart ++ rest) ≡ zero_monitor = refl in
    record {
      chart_read = chart_after n chart rest (ap (drop monitor_size) b ∙ tail) h k;
      fresh = ap monitor_in b
          ∙ again;
    }

module _ (chart l : List ℕ) (r : ChartRead) (e : said r ≡ read_chart chart) where
  pub opened_refused : (f : Fault) → r.answer ≡ Err f
      → (record { number = refusal_number f.refusal; at = f.offset } ≡ opened_of chart (length l)) × (l ≡ bytes_opened chart l)
  unfolding opened_of
  opened_refused f a =
      let z : eqb (refusal_number f.refusal) 0 ≡ false = ne_eqb _ _ (refusal_nonzero f.refusal) in
      let s : record { number = refusal_number f.refusal; at = f.offset } ≡ opened_of chart (length l) =
      rw (ap (λ (x : Said). opened_by x (live_size (length chart)) (length l)) (as_answered chart r (Err f) e a))
      (rw z) in
      (s, bytes_by chart l (record { number = refusal_number f.refusal; at = f.offset }) false (sym s) z)

  pub opened_short : (size : ℕ) → r.answer ≡ Ok tt → size ≡ live_size (length chart) → length l < size
      → (record { number = too_short; at = size } ≡ opened_of chart (length l)) × (l ≡ bytes_opened chart l)
  unfolding opened_of
  opened_short size a p h =
      let g : length l < live_size (length chart) = omega arith in
      let s : record { number = too_short; at = size } ≡ opened_of chart (length l) =
      rw (
        ap (λ (x : Said). opened_by x (live_size (length chart)) (length l)) (as_answered chart r (Ok tt) e a),
        lt-ltb _ _ g,
        p,
      ) in
      (s, bytes_by chart l (record { number = too_short; at = size }) false (sym s) refl)

  -- a fresh live monitor, written where it has room
  pub opened_fresh : (size : ℕ) {n : List ℕ} → r.answer ≡ Ok tt → size ≡ live_size (length chart) → size ≤ length l
      → length chart ≤ largest - head_size → n ≡ starting_with (fresh_bytes chart) l
      → (record { number = 0; at = size } ≡ opened_of chart (length l)) × ((n ≡ bytes_opened chart l) × Holds chart n)
  unfolding opened_of
  opened_fresh size {n} a p h k w =
      let g : live_size (length chart) ≤ length l = omega arith in
      let s : record { number = 0; at = size } ≡ opened_of chart (length l) =
      rw (
        ap (λ (x : Said). opened_by x (live_size (length chart)) (length l)) (as_answered chart r (Ok tt) e a),
        le-ltb _ _ g,
        p,
      ) in
      let z : length (fresh_bytes chart) ≡ live_size (length chart) = fresh_length chart
      ∙ sym (size_sum (length chart) k) in
      let b : n ≡ fresh_bytes chart ++ drop (live_size (length chart)) l =
      w ∙ ap (λ (x : ℕ). fresh_bytes chart ++ drop x l) z in
      let f : length n ≡ length l = ap length w ∙ starting_size (fresh_bytes chart) l (omega (arith, z)) in
      let y : head_size + length chart ≤ length n = omega (arith, f, size_sum (length chart) k) in (
        s,
        (
          b ∙ bytes_by chart l (record { number = 0; at = size }) true (sym s) refl,
          held chart n (drop (live_size (length chart)) l) b y (omega arith),
        ),
      )
