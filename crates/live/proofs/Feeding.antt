-- Feeding the monitor in live bytes. Assumes nothing.
use mathlib.Core.Path.{◌≡◌, refl, sym, ap, subst, ◌∙◌}
use mathlib.Core.Bool.{Bool, true, false, cond, ◌||◌}
use mathlib.Core.Logic.{◌↔◌, inl, inr}
use mathlib.Core.List.{List, ◌++◌}
use Prim.Native.Nat.{ℕ, ◌≤◌}
use native.Mathlib.Omega.{arith}
use borrow.Author.Tests.{eq-eqb, ne_eqb}
use lib.ListN.{length, drop, length-append, length-drop}
use lib.Seq.{drop_at}
use Rattle.base.proofs.Bools.{or_right, split}
use Rattle.model.specs.declared.Chart.{Chart}
use Rattle.model.specs.declared.Monitor.{Monitor}
use Rattle.model.specs.declared.Record.{Record}
use Rattle.model.specs.Chart.{zero_chart}
use Rattle.std.specs.Prelude.{Ok, Err}
use Rattle.model.specs.declared.Answer.{Answer}
use Rattle.model.specs.declared.Answer.TheVariants.{Broken, Kept, Dropped, Entered, Moved, Quiet}
use Rattle.model.specs.declared.FeedRefusal.{FeedRefusal}
use Rattle.model.specs.declared.FeedRefusal.TheVariants.{NotAChart}
use Rattle.model.specs.Answers.{feed_refusal_number, Fed, fed_number}
use Rattle.rounds.specs.Feeds.{refused}
use Rattle.rounds.specs.Machine.{Step as AbstractStep}
use Rattle.stepping.proofs.Back.{refuses_with}
use Rattle.stepping.proofs.Answers.{answer_told}
use Rattle.chart_value.specs.View.{chart_of}
use Rattle.monitor.specs.Fit.{fits}
use Rattle.stepping.specs.declared.Step.{Step}
use Rattle.stepping.specs.Answers.{fed_answer, HandsBack}
use Rattle.stepping.specs.Monitors.{monitor_at, step_of}
use Rattle.monitor.specs.Feed.{feed_of, refuse}
use Rattle.chart_value.specs.Records.{log_record}
use Rattle.chart_value.specs.WellFormed.{well_formed}
use Rattle.wire.specs.Writing.{Wrote}
use Rattle.monitor_image.specs.MonitorImage.{monitor_size, monitor_bytes, monitor_in}
use Rattle.wire.proofs.Writing.{at_start}
use Rattle.monitor_image.proofs.Laws.{monitor_length}
use Rattle.live.specs.Live.{chart_in, is_refused, is_broken, bytes_fed, LiveFedBy, LiveFed}
use Rattle.live.proofs.Charts.{same_chart, live_exact, zero_refused}

-- an answer whose number is 20
answered_20 : (a : Fed) → fed_answer a ≡ refused (feed_refusal_number NotAChart)
    → fed_number a ≡ feed_refusal_number NotAChart
answered_20 a e = ap fed_number (answer_told a (Err NotAChart) e)

-- with a chart of zeros the answer is 20
zeros_fed : (m : Monitor) (e : Record) → feed_of zero_chart m e ≡ refuse NotAChart m
unfolding feed_of
zeros_fed m e = rw zero_refused

-- with a chart it is another: feeding refuses with 21, 22, 23 or not at all
answered_as : (a : Fed) → fed_number a ≡ feed_refusal_number NotAChart
    → fed_answer a ≡ refused (feed_refusal_number NotAChart)
answered_as (Err k) e = ap refused e
answered_as (Ok (Broken n k x)) e = absurd (omega arith)
answered_as (Ok Kept) e = absurd (omega arith)
answered_as (Ok (Dropped x)) e = absurd (omega arith)
answered_as (Ok Entered) e = absurd (omega arith)
answered_as (Ok Moved) e = absurd (omega arith)
answered_as (Ok Quiet) e = absurd (omega arith)

same_number : {a b : ℕ} → refused a ≡ refused b → a ≡ b
same_number e = cc

whole_never : (c : Chart) (m : Monitor) (e : Record) → well_formed c ≡ true
    → (feed_of c m e).answer ≡ refused (feed_refusal_number NotAChart) → ⊥
unfolding feed_of
whole_never c m e w h = elim (split (fits (chart_of c) m)) [
  | inl f ↦ elim (refuses_with (chart_of c) (monitor_at m) (log_record e) (rw (w, f) at h)) [
    | inl p ↦ omega (arith, p)
    | inr p ↦ omega (arith, p)
  ]
  | inr f ↦ let z = same_number (rw (w, f) at h) in omega arith
]

-- 20 exactly for a value that is no chart
pub exactly_20 : (c : Chart) (m : Monitor) (e : Record) (s : Step) → step_of s ≡ feed_of c m e
    → (well_formed c ≡ false) ↔ (fed_number s.answer ≡ feed_refusal_number NotAChart)
unfolding feed_of
exactly_20 c m e s f = (
  λ w. let r : feed_of c m e ≡ refuse NotAChart m = rw w in answered_20 s.answer (λ i. ((f ∙ r) i).answer),
  λ n. elim (split (well_formed c)) [
    | inl w ↦ absurd (whole_never c m e w (sym (ap (λ (x : AbstractStep). x.answer) f) ∙ answered_as s.answer n))
    | inr w ↦ w
  ],
)

-- a monitor's image written at the start
pub monitor_at_start : {l n : List ℕ} {j : ℕ} (m : Monitor) → Wrote l 0 (monitor_bytes m) n j → monitor_size ≤ length l
    → n ≡ monitor_bytes m ++ drop monitor_size l
monitor_at_start {l} {n} m w h =
    let size = monitor_length m in
    at_start w (omega (arith, size)) ∙ ap (λ (x : ℕ). monitor_bytes m ++ drop x l) size

module _ (c : Chart) (l : List ℕ) (m : Monitor) (e : Record) (s : Step) (q : m ≡ monitor_in l)
    (f : step_of s ≡ feed_of c m e) (r : Fed)
    (t : r ≡ s.answer) where
  fed_in : step_of s ≡ feed_of c (monitor_in l) e
  fed_in = f ∙ ap (λ (m : Monitor). feed_of c m e) q

  -- the bytes stay as they were: the record is refused, or the monitor was broken before
  stays : (is_refused s.answer || is_broken m) ≡ true → s.next ≡ m → LiveFedBy c l e r l
  unfolding bytes_fed
  stays g n = record { taken = s; fed = fed_in; ans = t; bytes = rw (← q, g); next = sym q ∙ sym n }

  pub stays_refused : HandsBack m s → (k : FeedRefusal) → s.answer ≡ Err k → LiveFedBy c l e r l
  stays_refused b k a = stays (rw a) (b.refused k a)

  pub stays_broken : HandsBack m s → ¬ (m.tally.broken.at ≡ 0) → LiveFedBy c l e r l
  stays_broken b n = stays (or_right (is_refused s.answer) (rw (ne_eqb _ _ n))) (b.broken n)

  -- the monitor handed back is written
  pub written : {n : List ℕ} {j : ℕ} {a : Answer} → s.answer ≡ Ok a → m.tally.broken.at ≡ 0 → monitor_size ≤ length l
      → Wrote l 0 (monitor_bytes s.next) n j → monitor_in n ≡ s.next → LiveFedBy c l e r n
  unfolding bytes_fed
  written {n} {j} a b h w k = record {
    taken = s;
    fed = fed_in;
    ans = t;
    bytes = rw (← q, a, eq-eqb _ _ b) (monitor_at_start s.next w h);
    next = k;
  }

-- bytes that hold no chart: 20, and they stay as they were
pub fed_none : (l : List ℕ) (e : Record) → chart_in l ≡ zero_chart → LiveFed l e (Err NotAChart) l
unfolding bytes_fed
fed_none l e z = record {
  by_chart = record {
    taken = record { answer = Err NotAChart; next = monitor_in l };
    fed = sym (ap (λ (c : Chart). feed_of c (monitor_in l) e) z ∙ zeros_fed (monitor_in l) e);
    ans = refl;
    bytes = refl;
    next = refl;
  };
  chart = refl;
  none = ((λ n. refl), (λ n. live_exact l ∙ ap well_formed z ∙ zero_refused));
}

-- the chart after the monitor's image is not written
chart_stays : (l : List ℕ) (s : Step) (b : Bool) → monitor_size ≤ length l
    → chart_in (cond b l (monitor_bytes s.next ++ drop monitor_size l)) ≡ chart_in l
chart_stays l s true h = refl
chart_stays l s false h =
    let size = monitor_length s.next in
    same_chart l (monitor_bytes s.next ++ drop monitor_size l)
    (length-append (monitor_bytes s.next) (drop monitor_size l) ∙ omega (arith, size, length-drop monitor_size l))
    (drop_at (monitor_bytes s.next) (drop monitor_size l) monitor_size size)

pub fed_live : {l n : List ℕ} {e : Record} {r : Fed} (c : Chart) → c ≡ chart_in l → monitor_size ≤ length l
    → LiveFedBy c l e r n → LiveFed l e r n
unfolding bytes_fed
fed_live {l} {n} {e} {r} c p h F = record {
  by_chart = subst (λ (c : Chart). LiveFedBy c l e r n) p F;
  chart = ap chart_in F.bytes ∙ chart_stays l F.taken (is_refused F.taken.answer || is_broken (monitor_in l)) h;
  none = (
    λ x. ap fed_number F.ans ∙ exact.0 (ap well_formed p ∙ sym (live_exact l) ∙ x),
    λ n. live_exact l ∙ ap well_formed (sym p) ∙ exact.1 (sym (ap fed_number F.ans) ∙ n),
  );
}
  where
    exact : (well_formed c ≡ false) ↔ (fed_number F.taken.answer ≡ feed_refusal_number NotAChart)
    exact = exactly_20 c (monitor_in l) e F.taken F.fed
