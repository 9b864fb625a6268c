-- Showing what would be answered, case by case; and what is fed then is answered so. Assumes nothing.
use mathlib.Core.Path.{◌≡◌, refl, sym, ap, subst, ◌∙◌}
use mathlib.Core.Logic.{◌≢◌, ◌↔◌, ◌⊎◌, inl, inr, ⊎_elim}
use mathlib.Core.Bool.{Bool, true, false, So}
use mathlib.Core.List.{List}
use Prim.Native.Nat.{ℕ, ◌≤◌, ◌<◌}
use native.Mathlib.Decide.{dec_lt}
use native.Mathlib.Nat.{suc-ne-zero}
use native.Mathlib.Omega.{arith}
use borrow.Author.Tests.{ltb-true, ltb-false, leb-true, leb-false, lt-ltb, le-ltb, le-leb, lt-leb, eq-eqb, ne_eqb}
use borrow.Author.Tests.{eqb-true, eqb-false}
use lib.Dec.{eqb, leb, ltb}
use lib.ListN.{length, get_or}
use lib.Seq.{ext_get_or}
use Rattle.base.proofs.Bools.{split, clash}
use Rattle.base.proofs.Loops.{one_passes}
use Rattle.model.specs.declared.Chart.{Chart}
use Rattle.model.specs.declared.Event.{Event}
use Rattle.model.specs.declared.Event.TheVariants as event
use Rattle.model.specs.declared.Message.{Message}
use Rattle.model.specs.declared.Moment.{Moment}
use Rattle.model.specs.declared.Monitor.{Monitor}
use Rattle.model.specs.declared.Record.TheVariants as a-record
use Rattle.model.specs.declared.FeedRefusal.{FeedRefusal}
use Rattle.model.specs.declared.FeedRefusal.TheVariants.{NotAChart, Unfit, TimeFalls, TooManyRecords}
use Rattle.model.specs.Chart.{most_clocks, region_at}
use Rattle.model.specs.Answers.{Fed, most_records, feed_refusal_number}
use Rattle.chart_value.specs.Given.{Given}
use Rattle.chart_value.specs.WellFormed.{well_formed}
use Rattle.chart_value.specs.View.{key_of, code_of, chart_of}
use Rattle.chart_value.specs.Records.{log_record}
use Rattle.chart_value.proofs.Shown.{shown}
use Rattle.rounds.specs.Chart.{Chart as Abstract}
use Rattle.rounds.specs.Rows.{LogRecord, chart_message}
use Rattle.rounds.specs.Feeds.{Answer as AbstractAnswer, refused, broken_at, kept_now, dropped_now, entered, moved, quiet}
use Rattle.rounds.specs.Machine as machine
use Rattle.rounds.specs.Machine.{feed, Fit}
use Rattle.paper.specs.Taken as case
use Rattle.paper.specs.Taken.{Status, Offered, Taken, Acceptable}
use Rattle.paper.specs.Demand2.{Demand2}
use Rattle.paper.proofs.Demand2.{demand_2}
use Rattle.stepping.specs.Answers.{fed_answer, told_number}
use Rattle.stepping.specs.Monitors.{monitor_at, step_of}
use Rattle.stepping.proofs.Answers.{answer_told}
use Rattle.monitor.specs.Fit.{fits}
use Rattle.monitor.specs.Feed.{feed_of}
use Rattle.monitor.proofs.Fitness.{of_fit, fit_exactly}
use Rattle.monitor.proofs.History.{feeding}
use Rattle.std.specs.Prelude.{Ok, Err}
use Rattle.preview.specs.declared.PreviewRefusal.TheVariants.{TooShort, Feed}
use Rattle.preview.specs.Preview.{Previewed, foreseen_of, timely, shown_if, preview_of, is_shown, buffer_of}
use Rattle.preview.proofs.Laws.{Gives, no_chart, not_fit_lem, too_short_case, on_time, untimely}
use Rattle.preview.proofs.Bytes.{same_size, shown_byte, byte_beyond, byte_fed}
use Rattle.preview_claims.specs.declared.Pressed.{Pressed}
use Rattle.preview_claims.specs.Previews as preview
use Rattle.preview_claims.specs.Previews.{ForeseenAs, PreviewsAs, PreviewsJust, Foretold}

-- what a record that is taken is answered: never a refusal; for a chart's message 1 to 5
abbrev is_refusal : AbstractAnswer → Bool
is_refusal (refused k) = true
is_refusal (broken_at n k x) = false
is_refusal kept_now = false
is_refusal (dropped_now x) = false
is_refusal entered = false
is_refusal moved = false
is_refusal quiet = false

abbrev InRange : ℕ → Type 0
InRange n = (1 ≤ n) × (n ≤ 5)

module _ (C : Abstract) where
  offered_range : {x : Status} {e : LogRecord} {y : Status} {a : AbstractAnswer} → Offered C x e y a → InRange (told_number a)
  offered_range (case.moves z M l p) = (omega arith, omega arith)
  offered_range (case.enters z M l n p) = (omega arith, omega arith)
  offered_range (case.keeps z M f) = (omega arith, omega arith)
  offered_range (case.fails_cold i y T t) = (omega arith, omega arith)
  offered_range (case.fails_hot i y T b) = (omega arith, omega arith)
  offered_range (case.unmatched_prechart h U n) = (omega arith, omega arith)
  offered_range (case.unmatched_main h U d) = (omega arith, omega arith)

  taken_range : {x : Status} {e : LogRecord} {y : Status} {a : AbstractAnswer} → So (chart_message C e) → Taken C x e y a
      → InRange (told_number a)
  taken_range s (case.passes h) = absurd (clash s h)
  taken_range s (case.once n O) = offered_range O
  taken_range s (case.twice m f O) = offered_range O

  offered_unrefused : {x : Status} {e : LogRecord} {y : Status} {a : AbstractAnswer} → Offered C x e y a → is_refusal a ≡ false
  offered_unrefused (case.moves z M l p) = refl
  offered_unrefused (case.enters z M l n p) = refl
  offered_unrefused (case.keeps z M f) = refl
  offered_unrefused (case.fails_cold i y T t) = refl
  offered_unrefused (case.fails_hot i y T b) = refl
  offered_unrefused (case.unmatched_prechart h U n) = refl
  offered_unrefused (case.unmatched_main h U d) = refl

  taken_unrefused : {x : Status} {e : LogRecord} {y : Status} {a : AbstractAnswer} → Taken C x e y a → is_refusal a ≡ false
  taken_unrefused (case.passes h) = refl
  taken_unrefused (case.once n O) = offered_unrefused O
  taken_unrefused (case.twice m f O) = offered_unrefused O

-- a region's message is the chart's
own_message : (c : Chart) (t : Moment) (i : ℕ) → i < c.count → (x : Message) → (region_at c i).event ≡ event.Message x
    → So (chart_message (chart_of c) (log_record (a-record.Message x t)))
unfolding chart_message
own_message c t i h x e =
    let k : (chart_of c).key i ≡ code_of x = rw (lt-ltb i c.count h) (ap key_of e) in
    rw (ne_eqb (code_of x) 0 (suc-ne-zero _))
    (one_passes (λ j. eqb ((chart_of c).key j) (code_of x)) i c.count h (eq-eqb ((chart_of c).key i) (code_of x) k))

-- there is a break, or the moment is not before now and there is room for a record
abbrev Timely : Monitor → Moment → Type 0
Timely m t = (m.tally.broken.at ≢ 0) ⊎ ((m.tally.now.0 ≤ t.0) × (m.tally.records < most_records))

timely_shown : (m : Monitor) (t : Moment) → Timely m t → Ok tt ≡ shown_if (timely m.tally t)
timely_shown m t T = elim (split (eqb m.tally.broken.at 0)) [
  | inr b ↦ rw b
  | inl b ↦ ⊎_elim (λ n. absurd (n (eqb-true _ _ b)))
      (λ p. rw (b, le-ltb t.0 m.tally.now.0 p.0, lt-leb most_records m.tally.records p.1)) T
]

-- the message of an event, and the refusal of an answer; or another one
message_in : Event → Message → Message
message_in (event.Message x) d = x
message_in (event.Plain z) d = d

refusal_in : Previewed → FeedRefusal → FeedRefusal
refusal_in (Ok u) d = d
refusal_in (Err TooShort) d = d
refusal_in (Err (Feed k)) d = k

told_alike : (j k : FeedRefusal) → ◌≡◌ {A = Previewed} (Err (Feed j)) (Err (Feed k))
    → refused (feed_refusal_number j) ≡ refused (feed_refusal_number k)
unfolding refusal_in
told_alike j k e = ap (λ (a : Previewed). refused (feed_refusal_number (refusal_in a j))) e

same_refusal : (j k : FeedRefusal) → refused (feed_refusal_number j) ≡ refused (feed_refusal_number k) → j ≡ k
same_refusal j k e =
    ap {A = Fed} (λ a. fed_refusal a j) (answer_told (Err j) (Err k) e)
  where
    fed_refusal : Fed → FeedRefusal → FeedRefusal
    fed_refusal (Err f) d = f
    fed_refusal (Ok a) d = d

module _ (c : Chart) (G : (well_formed c ≡ true) ↔ Given c) (m : Monitor)
    (places : length m.place.resets ≡ most_clocks) (t : Moment) where
  -- of a given chart and a fit monitor
  module _ (g : Given c) (F : Fit (chart_of c) (monitor_at m)) where
    steps : Demand2 (chart_of c)
    steps = demand_2 (chart_of c) (shown c g).accepted

    passes_fit : fits (chart_of c) m ≡ true
    passes_fit = of_fit (chart_of c) (shown c g).accepted m F

    as_machine : (x : Message)
        → feed_of c m (a-record.Message x t) ≡ feed (chart_of c) (monitor_at m) (log_record (a-record.Message x t))
    as_machine x = (feeding c (G.1 g) (shown c g).accepted).one m (a-record.Message x t) F

    again : (x : Message) → m.tally.broken.at ≢ 0 → (feed_of c m (a-record.Message x t)).answer
        ≡ broken_at m.tally.broken.at m.tally.broken.reason m.tally.broken.cause
    unfolding feed
    again x b = ap (λ (s : machine.Step). s.answer) (as_machine x) ∙ rw (ne_eqb m.tally.broken.at 0 b)

    acceptable : (x : Message) → m.tally.broken.at ≡ 0 → Timely m t
        → Acceptable (chart_of c) (monitor_at m) (log_record (a-record.Message x t))
    acceptable x b T =
        ⊎_elim (λ n. absurd (n b)) (λ p. record { fit = F; unbroken = b; forward = p.0; room = p.1 }) T

    -- the byte that the case gives, and no other
    foreseen_as : Timely m t → (e : Event) → ForeseenAs c m t e (foreseen_of c m t e)
    foreseen_as T (event.Plain z) = preview.plain z
    foreseen_as T (event.Message x) = elim (split (eqb m.tally.broken.at 0)) [
      | inr b ↦
          let n = eqb-false _ _ b in
          subst (ForeseenAs c m t (event.Message x)) (sym (ap told_number (again x n))) (preview.broken x n)
      | inl b ↦
          let P = acceptable x (eqb-true _ _ b) T in
          subst (λ (s : machine.Step). ForeseenAs c m t (event.Message x) (told_number s.answer)) (sym (as_machine x))
          (preview.taken x P _ _ (steps.given (monitor_at m) (log_record (a-record.Message x t)) P))
    ]

    foreseen_only : (e : Event) (b : ℕ) → ForeseenAs c m t e b → b ≡ foreseen_of c m t e
    foreseen_only e b (preview.plain z) = refl
    foreseen_only e b (preview.broken x n) = sym (ap told_number (again x n))
    foreseen_only e b (preview.taken x P y a T) =
        ap told_number
        ((steps.only (monitor_at m) (log_record (a-record.Message x t)) P y a T).1
        ∙ sym (ap (λ (s : machine.Step). s.answer) (as_machine x)))

    unrefused : Timely m t → (x : Message) → is_refusal (feed_of c m (a-record.Message x t)).answer ≡ false
    unrefused T x = elim (split (eqb m.tally.broken.at 0)) [
      | inr b ↦ ap is_refusal (again x (eqb-false _ _ b))
      | inl b ↦
          let P = acceptable x (eqb-true _ _ b) T in
          ap (λ (s : machine.Step). is_refusal s.answer) (as_machine x)
          ∙ taken_unrefused (chart_of c) (steps.given (monitor_at m) (log_record (a-record.Message x t)) P)
    ]

    in_range : (x : Message) → So (chart_message (chart_of c) (log_record (a-record.Message x t))) → {e : Event} {b : ℕ}
        → ForeseenAs c m t e b → e ≡ event.Message x → InRange b
    unfolding message_in
    in_range x s (preview.plain z) e = let y : ◌≡◌ {A = ℕ} 0 1 = cc in absurd (omega arith)
    in_range x s (preview.broken y n) e = (omega arith, omega arith)
    in_range x s (preview.taken y P z a T) e =
        taken_range (chart_of c)
        (subst (λ (w : Message). So (chart_message (chart_of c) (log_record (a-record.Message w t))))
        (sym (ap (λ (w : Event). message_in w x) e)) s) T

  -- of every chart value, monitor and buffer
  module _ (l : List ℕ) where
    -- a case that applies gives what the tests give
    only : (s : Previewed) (k : List ℕ) → PreviewsAs c m t l s k → Gives c m t l s k
    only s k (preview.not_given n) = elim (split (well_formed c)) [
      | inl w ↦ absurd (n (G.0 w))
      | inr w ↦ no_chart c m t l w
    ]
    only s k (preview.unfit g u) = elim (split (fits (chart_of c) m)) [
      | inl f ↦ absurd (u ((fit_exactly (chart_of c) (shown c g).accepted m places true (sym f)).0 refl))
      | inr f ↦ not_fit_lem c m t l (G.1 g) (chart_of c) refl f
    ]
    only s k (preview.too_short_case g F h) = too_short_case c m t l (G.1 g) (chart_of c) refl (passes_fit g F) h
    only s k (preview.time_falls_case g F h b q) =
        untimely c m t l (G.1 g) (chart_of c) refl (passes_fit g F) h (Err (Feed TimeFalls))
        (rw (eq-eqb _ _ b, lt-ltb _ _ q)) refl
    only s k (preview.too_many g F h b q r) =
        untimely c m t l (G.1 g) (chart_of c) refl (passes_fit g F) h (Err (Feed TooManyRecords))
        (rw (eq-eqb _ _ b, le-ltb _ _ q, le-leb _ _ r)) refl
    only s k (preview.shows g F h T n S) =
        let e = on_time c m t l (G.1 g) (chart_of c) refl (passes_fit g F) h (Ok tt) (timely_shown m t T) in
        let y : is_shown (preview_of c m t (length l)) ≡ true = sym (ap is_shown e) in (
          e,
          ext_get_or 0 n (buffer_of c m t l) (S.size ∙ sym (same_size c m t l y))
              (λ i b. elim (dec_lt i c.count) [
                | yes q ↦ foreseen_only g F _ _ (S.regions i q) ∙ sym (shown_byte c m t l y i q)
                | no q ↦ let z : c.count ≤ i = omega (arith, q) in S.rest i z ∙ sym (byte_beyond c m t l y i z)
              ]),
        )

    as_given : {r : Previewed} {n : List ℕ} → PreviewsAs c m t l r n → Gives c m t l r n
        → PreviewsAs c m t l (preview_of c m t (length l)) (buffer_of c m t l)
    as_given {r} {n} P e =
        subst (λ (k : List ℕ). PreviewsAs c m t l (preview_of c m t (length l)) k) e.1
        (subst (λ (s : Previewed). PreviewsAs c m t l s n) e.0 P)

    -- one of them applies
    module _ (g : Given c) (F : Fit (chart_of c) (monitor_at m)) (h : c.count ≤ length l) where
      given_shown : Timely m t → PreviewsAs c m t l (preview_of c m t (length l)) (buffer_of c m t l)
      given_shown T =
          let e = on_time c m t l (G.1 g) (chart_of c) refl (passes_fit g F) h (Ok tt) (timely_shown m t T) in
          let y : is_shown (preview_of c m t (length l)) ≡ true = sym (ap is_shown e) in
          as_given (preview.shows g F h T (buffer_of c m t l) (record {
            size = same_size c m t l y;
            regions = λ i q. subst (ForeseenAs c m t (region_at c i).event) (sym (shown_byte c m t l y i q))
                (foreseen_as g F T (region_at c i).event);
            rest = byte_beyond c m t l y;
          })) (e, refl)

      given_room : PreviewsAs c m t l (preview_of c m t (length l)) (buffer_of c m t l)
      given_room = elim (split (eqb m.tally.broken.at 0)) [
        | inr b ↦ given_shown (inl (eqb-false _ _ b))
        | inl b ↦ elim (split (ltb t.0 m.tally.now.0)) [
          | inl q ↦ let P = preview.time_falls_case g F h (eqb-true _ _ b) (ltb-true _ _ q) in as_given P (only _ _ P)
          | inr q ↦ elim (split (leb most_records m.tally.records)) [
            | inl r ↦
                let P = preview.too_many g F h (eqb-true _ _ b) (ltb-false _ _ q) (leb-true _ _ r) in
                as_given P (only _ _ P)
            | inr r ↦ given_shown (inr (ltb-false _ _ q, leb-false _ _ r))
          ]
        ]
      ]

    given_case : PreviewsAs c m t l (preview_of c m t (length l)) (buffer_of c m t l)
    given_case = elim (split (well_formed c)) [
      | inr w ↦ as_given (preview.not_given (λ g. clash (G.1 g) w)) (no_chart c m t l w)
      | inl w ↦
          let g = G.0 w in
          let A = (shown c g).accepted in
          elim (split (fits (chart_of c) m)) [
            | inr f ↦
                as_given (preview.unfit g (λ F. clash (of_fit (chart_of c) A m F) f))
                (not_fit_lem c m t l w (chart_of c) refl f)
            | inl f ↦
                let F = (fit_exactly (chart_of c) A m places true (sym f)).0 refl in
                elim (split (ltb (length l) c.count)) [
                  | inl s ↦ let P = preview.too_short_case g F (ltb-true _ _ s) in as_given P (only _ _ P)
                  | inr s ↦ given_room g F (ltb-false _ _ s)
                ]
          ]
    ]

    module _ (r : Previewed) (n : List ℕ) (e : r ≡ preview_of c m t (length l)) (q : n ≡ buffer_of c m t l) where
      holds : PreviewsAs c m t l r n
      holds =
          subst (λ (k : List ℕ). PreviewsAs c m t l r k) (sym q)
          (subst (λ (s : Previewed). PreviewsAs c m t l s (buffer_of c m t l)) (sym e) given_case)

      pub previews_just : PreviewsJust c m t l r n
      previews_just = record {
        holds = holds;
        only = λ s k P. let o = only s k P in (o.0 ∙ sym e, o.1 ∙ sym q);
      }

    -- a refusal to show is a refusal to feed
    refused_alike : {s : Previewed} {n : List ℕ} → PreviewsAs c m t l s n → (k : FeedRefusal) → s ≡ Err (Feed k)
        → (x : Message) → (feed_of c m (a-record.Message x t)).answer ≡ refused (feed_refusal_number k)
    unfolding feed_of feed
    refused_alike (preview.not_given n) k q x = elim (split (well_formed c)) [
      | inl w ↦ absurd (n (G.0 w))
      | inr w ↦ rw w (told_alike NotAChart k q)
    ]
    refused_alike (preview.unfit g u) k q x = elim (split (fits (chart_of c) m)) [
      | inl f ↦ absurd (u ((fit_exactly (chart_of c) (shown c g).accepted m places true (sym f)).0 refl))
      | inr f ↦ rw (G.1 g, f) (told_alike Unfit k q)
    ]
    refused_alike (preview.too_short_case g F h) k q x = let y : ◌≡◌ {A = ℕ} 0 1 = cc in absurd (omega arith)
    refused_alike (preview.time_falls_case g F h b p) k q x =
        rw (G.1 g, passes_fit g F, eq-eqb _ _ b, lt-ltb _ _ p) (told_alike TimeFalls k q)
    refused_alike (preview.too_many g F h b p r) k q x =
        rw (G.1 g, passes_fit g F, eq-eqb _ _ b, le-ltb _ _ p, le-leb _ _ r) (told_alike TooManyRecords k q)
    refused_alike (preview.shows g F h T n S) k q x = let y : ◌≡◌ {A = ℕ} 0 1 = cc in absurd (omega arith)

    -- and the other way, where the buffer has room
    refused_back : {s : Previewed} {n : List ℕ} → PreviewsAs c m t l s n → (k : FeedRefusal) (x : Message)
        → (feed_of c m (a-record.Message x t)).answer ≡ refused (feed_refusal_number k) → s ≢ Err TooShort → s ≡ Err (Feed k)
    refused_back (preview.not_given n) k x q z =
        ap {B = Previewed} (λ (f : FeedRefusal). Err (Feed f)) (same_refusal NotAChart k (sym (refused_alike (preview.not_given n) NotAChart refl x) ∙ q))
    refused_back (preview.unfit g u) k x q z =
        ap {B = Previewed} (λ (f : FeedRefusal). Err (Feed f)) (same_refusal Unfit k (sym (refused_alike (preview.unfit g u) Unfit refl x) ∙ q))
    refused_back (preview.too_short_case g F h) k x q z = absurd (z refl)
    refused_back (preview.time_falls_case g F h b p) k x q z =
        ap {B = Previewed} (λ (f : FeedRefusal). Err (Feed f))
        (same_refusal TimeFalls k (sym (refused_alike (preview.time_falls_case g F h b p) TimeFalls refl x) ∙ q))
    refused_back (preview.too_many g F h b p r) k x q z =
        ap {B = Previewed} (λ (f : FeedRefusal). Err (Feed f))
        (same_refusal TooManyRecords k
        (sym (refused_alike (preview.too_many g F h b p r) TooManyRecords refl x) ∙ q))
    refused_back (preview.shows g F h T n S) k x q z = absurd (clash (ap is_refusal q) (unrefused g F T x))

    -- each byte of the message is in range
    ranged : {s : Previewed} {n : List ℕ} → PreviewsAs c m t l s n → s ≡ Ok tt → (x : Message) (i : ℕ)
        → i < c.count → (region_at c i).event ≡ event.Message x → InRange (get_or n i 0)
    ranged (preview.not_given n) q x i b e = let y : ◌≡◌ {A = ℕ} 0 1 = cc in absurd (omega arith)
    ranged (preview.unfit g u) q x i b e = let y : ◌≡◌ {A = ℕ} 0 1 = cc in absurd (omega arith)
    ranged (preview.too_short_case g F h) q x i b e = let y : ◌≡◌ {A = ℕ} 0 1 = cc in absurd (omega arith)
    ranged (preview.time_falls_case g F h z p) q x i b e = let y : ◌≡◌ {A = ℕ} 0 1 = cc in absurd (omega arith)
    ranged (preview.too_many g F h z p r) q x i b e = let y : ◌≡◌ {A = ℕ} 0 1 = cc in absurd (omega arith)
    ranged (preview.shows g F h T n S) q x i b e =
        in_range g F x (own_message c t i b x e) (S.regions i b) e

    pub foretold : (n : List ℕ) (x : Message) (r : Pressed) → r.shown ≡ preview_of c m t (length l)
        → n ≡ buffer_of c m t l → step_of r.fed ≡ feed_of c m (a-record.Message x t) → Foretold c x n r
    foretold n x r e q f =
        let P = holds r.shown n e q in
        let a = ap (λ (y : machine.Step). y.answer) f in
        record {
          byte = λ s i b v.
              ap (λ (k : List ℕ). get_or k i 0) q
              ∙ byte_fed c m t l (sym (ap is_shown e) ∙ ap is_shown s) i b x v r.fed f;
          range = λ s i b v. ranged P s x i b v;
          refused = λ k s. answer_told r.fed.answer (Err k) (a ∙ refused_alike P k s x);
          refuses = λ k s z. refused_back P k x (sym a ∙ ap fed_answer s) z;
        }
