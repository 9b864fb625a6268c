-- Whole rounds after a list of feeds (S17 to S19): times never fall, so that the rows are prompt runs. So the running
-- round is one, to the monitor's configuration; those over the round's word decide the next answer; and where that is
-- entered, kept or broken, the word satisfies the prechart or the chart, or violates it. Assumes nothing.
use mathlib.Core.Path.{◌≡◌, refl, sym, ap, ap₂, subst, ◌∙◌}
use mathlib.Core.Logic.{◌↔◌, inl, inr}
use mathlib.Core.Bool.{Bool, true, false, not, cond, So, ◌&&◌}
use mathlib.Core.Option.{none, some}
use Prim.Native.Nat.{ℕ, ◌-◌, ◌≤◌, ◌<◌}
use native.Mathlib.Omega.{arith}
use lib.Dec.{ltb}
use borrow.Author.Tests.{ltb-false}
use Rattle.base.specs.Lists.{Snoc, ε, ◌▸◌}
use Rattle.model.specs.Answers.{time_falls}
use Rattle.model.specs.declared.Cause.{Cause}
use Rattle.rounds.specs.Chart.{Chart, Accepted}
use Rattle.rounds.specs.Rows.{LogRecord, chart_message, chart_messages, PrechartDone}
use Rattle.rounds.specs.Feeds.{last_moment, refusal, kept, dropped, broken, Outcome, Stretch, Last, unended, after_break}
use Rattle.rounds.specs.Feeds.{last_after, Answer, refused, broken_at, kept_now, dropped_now, entered, moved, quiet}
use Rattle.rounds.specs.Feeds.{runs_on, ends, Missed, Fits, refuses, once, twice, again, Fed, none_yet, one_more}
use Rattle.rounds.specs.Feeds.{SaysDroppedOrBroken}
use Rattle.rounds.specs.Machine.{Move, stuck, fails, rests, take_message, prechart_done, full, Monitor, go_on, keep_round}
use Rattle.rounds.specs.Machine.{drop_round, conclude, offer, missed, fits_opening, reopened, feed, after}
use Rattle.rounds.specs.Demand3.{Unbroken, AtLast, Meaning}
use Rattle.base.proofs.Bools.{split, clash}
use Rattle.base.proofs.Facts.{found, none_some}
use Rattle.rounds.proofs.Machine.{done_true}
use Rattle.rounds.proofs.Moments.{chart_messages_take, chart_messages_skip}
use Rattle.rounds.proofs.Rounds.{place_of}
use Rattle.rounds.proofs.Endings.{FedOne, Goes, Comes}
use Rattle.rounds.proofs.Offers.{comes_unbroken, reopened_unbroken, both_say, both_are, accept_once, accept_twice}
use Rattle.rounds.proofs.Feeds.{feed_unbroken, besides_opened, besides, agrees}
use Rattle.rounds.proofs.Exactly.{exactly, second_offer}
use Rattle.rounds.proofs.Fitness.{after_fit}
use Rattle.paper.specs.Runs.{Config, Letter, delay, message, initial, ◌·◌, strip, IsCut, Prompt, config_at}
use Rattle.paper.specs.Runs.{config_of, last_of, Rising, spelled}
use Rattle.paper.specs.Taken.{MissedIn, Starts}
use Rattle.paper.specs.Demand2.{CompletedBy, word, Reaches, Decided, DecidedOffered, Violated}
use Rattle.paper.proofs.Parts.{Failure, at_once, later}
use Rattle.paper.proofs.Prompts.{prompt_run, goes_on, silents_prompt}
use Rattle.paper.proofs.Steps.{failure_of}
use Rattle.paper.proofs.Words.{full_completes, main_follows}
use Rattle.paper.proofs.Unique.{one_prompt}
use Rattle.paper.proofs.Beginnings.{Begun, violates, begun_of, never_begun}
use Rattle.paper.proofs.Missing.{starts_chart, twice_of, of_twice}
use Rattle.paper.proofs.Chains.{past, row_is_prompt}
use Rattle.paper.proofs.Deciding.{full_of, comes_enter, no_run, decided_by}

-- no other answer is a broken one
dropped_broken : {X : Type 0} {n k : ℕ} {x y : Cause} → dropped_now y ≡ broken_at n k x → X
dropped_broken p = absurd (let z : ◌≡◌ {A = ℕ} 0 1 = cc in omega arith)

kept_broken : {X : Type 0} {n k : ℕ} {x : Cause} → kept_now ≡ broken_at n k x → X
kept_broken p = absurd (let z : ◌≡◌ {A = ℕ} 0 1 = cc in omega arith)

onward_broken : {X : Type 0} (b : Bool) {n k : ℕ} {x : Cause} → cond b entered moved ≡ broken_at n k x → X
onward_broken true p = absurd (let z : ◌≡◌ {A = ℕ} 0 1 = cc in omega arith)
onward_broken false p = absurd (let z : ◌≡◌ {A = ℕ} 0 1 = cc in omega arith)

quiet_broken : {X : Type 0} {n k : ℕ} {x : Cause} → quiet ≡ broken_at n k x → X
quiet_broken p = absurd (let z : ◌≡◌ {A = ℕ} 0 1 = cc in omega arith)

-- the answers that neither a refused record has nor one that is offered twice
abbrev first_only : Answer → Bool
first_only (refused k) = false
first_only (broken_at n k x) = true
first_only (dropped_now x) = false
first_only kept_now = true
first_only entered = true
first_only moved = false
first_only quiet = true

-- the chart messages' times never fall either
module _ (C : Chart) (o : ℕ) where
  messages_last : (s : Snoc LogRecord) → Rising o s → last_of o (chart_messages C s) ≤ last_of o s
  messages_last ε R = unfold chart_messages in omega arith
  messages_last (s ▸ e) R = elim (split (chart_message C e)) [
    | inl h ↦ rw (chart_messages_take C s e h) (omega arith)
    | inr h ↦ rw (chart_messages_skip C s e h) (omega (arith, messages_last s R.0, R.1))
  ]

  messages_rising : (s : Snoc LogRecord) → Rising o s → Rising o (chart_messages C s)
  messages_rising ε R = unfold chart_messages in tt
  messages_rising (s ▸ e) R = elim (split (chart_message C e)) [
    | inl h ↦ rw (chart_messages_take C s e h) (messages_rising s R.0, omega (arith, messages_last s R.0, R.1))
    | inr h ↦ rw (chart_messages_skip C s e h) (messages_rising s R.0)
  ]

-- what a list of feeds makes sure of for its last stretch
Steady : Last → Snoc LogRecord → Type 0
Steady (unended o s) rs = Rising o s × (last_of o s ≡ last_moment rs)
Steady (after_break k x) rs = Unit {0}

-- a record that is not refused is not before the last one
not_below : (rs : Snoc LogRecord) (e : LogRecord) → refusal rs e ≡ none → last_moment rs ≤ e.time
unfolding refusal
not_below rs e h = elim (split (ltb e.time (last_moment rs))) [
  | inl t ↦ none_some {o = some time_falls} {a = time_falls} (rw t at h) refl
  | inr t ↦ ltb-false e.time (last_moment rs) t
]

-- a stretch that has just opened
steady_after : (x : Outcome) (rs : Snoc LogRecord) (e : LogRecord) → Steady (last_after x e.time) (rs ▸ e)
unfolding Steady
steady_after kept rs e = (tt, refl)
steady_after (dropped x) rs e = (tt, refl)
steady_after (broken k x) rs e = tt

module _ (C : Chart) where
  -- feed by feed
  steady_goes : {o n : ℕ} {s : Snoc LogRecord} {e : LogRecord} {a : Answer} {es es' : Snoc Stretch} {last : Last}
      (rs : Snoc LogRecord)
      → Rising o s → last_of o s ≤ e.time → Goes C o s e n es a es' last → Steady last (rs ▸ e)
  unfolding Steady
  steady_goes rs R h (runs_on q r a M L nf O) = ((R, h), refl)
  steady_goes {e} rs R h (ends x E) = steady_after x rs e

  steady_one : {rs rs' : Snoc LogRecord} {es es' : Snoc Stretch} {last last' : Last} {e : LogRecord} {a : Answer}
      → Steady last rs → FedOne C rs es e last a rs' es' last' → Steady last' rs'
  unfolding Steady
  steady_one S (refuses k h) = S
  steady_one {rs} {e} S (once h n W) = steady_goes rs S.0 (omega (arith, not_below rs e h, S.1)) W
  steady_one {rs} {e} S (twice h M F W) = steady_goes rs tt (omega arith) W
  steady_one S again = S

  steady : {fs : Snoc LogRecord} {ans : Snoc Answer} {rs : Snoc LogRecord} {es : Snoc Stretch} {last : Last}
      → Fed C fs ans rs es last → Steady last rs
  steady none_yet = (unfold Steady in (tt, refl))
  steady (one_more F N) = steady_one (steady F) N

  module _ (A : Accepted C) where
    pub monitor_is_cut : (fs : Snoc LogRecord) → IsCut C (after C fs).place.fired
    monitor_is_cut fs = record { within = (after_fit C A fs).within; closed = (after_fit C A fs).closed }

    module _ {fs : Snoc LogRecord} {ans : Snoc Answer} {rs : Snoc LogRecord} {es : Snoc Stretch} {o : ℕ} {s : Snoc LogRecord}
        (F : Fed C fs ans rs es (unended o s)) where
      abbrev here : Monitor
      here = after C fs

      rising : Rising o s
      unfolding Steady
      rising = (steady F).0

      -- so too with a record that is not refused
      rising_on : (e : LogRecord) → refusal rs e ≡ none → Rising o (chart_messages C (s ▸ e))
      unfolding Steady
      rising_on e h = messages_rising C o (s ▸ e) (rising, omega (arith, not_below rs e h, (steady F).1))

      stands_at : Unbroken C o s here
      unfolding AtLast
      stands_at = (agrees C A F).1.at_last

      -- the monitor's configuration at the round's last chart message
      abbrev at_message : Config
      at_message = config_at C (last_of o (chart_messages C s)) here.place

      pub round_is_prompt : Reaches C o s at_message
      unfolding config_at config_of
      round_is_prompt =
          let T : Unbroken C o s here = stands_at in
          rw (T.has_fired, T.has_clocks) (row_is_prompt C A o s T.row (messages_rising C o s rising) T.lawful)

      not_refused : (e : LogRecord) → So (first_only (feed C here e).answer) → refusal rs e ≡ none
      not_refused e q = elim (found (refusal rs e)) [
        | inl h ↦ h
        | inr f ↦ clash q (rw (feed_unbroken C here e (agrees C A F).1, f.1))
      ]

      -- one more record that is not refused
      module _ (e : LogRecord) (h : refusal rs e ≡ none) where
        abbrev said : Answer
        said = (feed C here e).answer

        abbrev meaning : Meaning C fs
        meaning = record { ans = ans; accepted = rs; stretches = es; last = unended o s; fed = F }

        not_twice : So (first_only said) → ¬ (Missed C o s e × Fits C e)
        not_twice q D = elim (second_offer C A meaning o s e refl h D.0 D.1) [
          | inl p ↦ clash q (ap first_only p)
          | inr p ↦ clash q (ap first_only p.1)
        ]

        -- what it comes to, offered once or twice
        feeds_once : ¬ (Missed C o s e × Fits C e) → feed C here e ≡ offer C here e
        feeds_once n = rw (feed_unbroken C here e (agrees C A F).1, h) (accept_once C A e here stands_at n)

        comes_once : ¬ (Missed C o s e × Fits C e)
            → Comes C A o s e stands_at.row stands_at.lawful here (feed C here e)
        comes_once n =
            rw (feeds_once n) (comes_unbroken C A e here stands_at
            (besides C A F stands_at.row stands_at.lawful))

        opened_at : Unbroken C e.time ε (reopened C here e)
        opened_at = reopened_unbroken C A e here stands_at

        comes_twice : Missed C o s e → Fits C e
            → Comes C A e.time ε e opened_at.row opened_at.lawful (reopened C here e) (feed C here e)
        comes_twice M S =
            rw (feed_unbroken C here e (agrees C A F).1, h, accept_twice C A e here stands_at M S)
            (comes_unbroken C A e (reopened C here e) opened_at
            (besides_opened C A e.time rs opened_at.row opened_at.lawful))

        -- the prompt runs decide it: those of the round, or those of the round that opens
        decided_once : ¬ (Missed C o s e × Fits C e) → Decided C o s e said
        decided_once n =
            decided_by C A o s e stands_at.row stands_at.lawful (rising_on e h) here {v = feed C here e}
            (comes_once n) ((exactly C A meaning o s e refl h).once_exactly n)

        decided_twice : Missed C o s e → Fits C e
            → ((z : Config) → ¬ Reaches C o (s ▸ e) z) × Decided C e.time ε e said
        decided_twice M S =
            let X = (exactly C A meaning o s e refl h).twice_exactly M S in (
              no_run C A o s e stands_at.row stands_at.lawful (rising_on e h) X.0,
              decided_by C A e.time ε e opened_at.row opened_at.lawful
                  (messages_rising C e.time (ε ▸ e) (tt, omega arith)) (reopened C here e) {v = feed C here e}
                  (comes_twice M S) X.1,
            )

        -- rows and configurations say alike whether it is offered twice
        in_config : Missed C o s e × Fits C e → MissedIn C at_message e × Starts C e
        in_config D =
            twice_of C A e here (last_of o (chart_messages C s)) (both_are C A e here stands_at D.0 D.1)

        in_rows : (y : Config) → Reaches C o s y → MissedIn C y e → Starts C e → Missed C o s e × Fits C e
        in_rows y P M S =
            both_say C A e here stands_at (of_twice C A e here (last_of o (chart_messages C s)) (after_fit C A fs).within
            (subst (λ (c : Config). MissedIn C c e) (one_prompt C A P round_is_prompt).1 M) S)

        pub decided : DecidedOffered C o s e said
        decided = record {
          once_decided = λ n. decided_once (λ D. n at_message round_is_prompt (in_config D));
          twice_decided = λ y P M S. let D = in_rows y P M S in decided_twice D.0 D.1;
        }

        -- a broken round
        abbrev since : ℕ
        since = e.time - last_of o (chart_messages C s)

        begun_before : So (chart_message C e) → PrechartDone C at_message.cut → Begun C A o (s ▸ e)
        begun_before c D =
            let P = round_is_prompt in (
              P.letters,
              ε ▸ delay since ▸ message e.code,
              at_message,
              ap (spelled o) (chart_messages_take C s e c)
                  ∙ ap {B = Snoc Letter} (λ (w : Snoc Letter). w ▸ delay since ▸ message e.code) (sym P.spells),
              P.run,
              D,
            )

        main_region : (i : ℕ) → So (C.hot i) → ¬ (i < C.prechart)
        main_region i t l = clash t (A.cold_prechart i l)

        begun_failing : So (chart_message C e) → {i : ℕ} {y : Config} → Failure C at_message since e.code i y
            → So (C.hot i) → Begun C A o (s ▸ e)
        begun_failing c {i} (at_once R k f) t =
            begun_before c (main_follows C A at_message.cut i R (main_region i t))
        begun_failing c {i} (later j R p k g y S N f) t =
            let P = round_is_prompt in
            let T = silents_prompt C (goes_on C since j P.run P.rests R p g) S in (
              T.0,
              ε,
              y,
              ap (spelled o) (chart_messages_take C s e c)
                  ∙ sym (T.1 ∙ ap₂ {C = Snoc Letter} (λ (w : Snoc Letter) (n : ℕ). w ▸ delay since ▸ message n)
                  P.spells k),
              T.2,
              main_follows C A y.cut i N.follows (main_region i t),
            )

        held : (c : ℕ) → Rising o (chart_messages C s) → here.place.clocks c ≤ last_of o (chart_messages C s)
        unfolding place_of
        held c R = rw stands_at.has_clocks (past C o (chart_messages C s) stands_at.row R c)

        begun_move : So (chart_message C e) → {n k : ℕ} {x : Cause} (v : Move) → take_message C here.place e ≡ v
            → (conclude C here e v).answer ≡ broken_at n k x → Begun C A o (s ▸ e)
        unfolding conclude config_at drop_round keep_round go_on
        begun_move c stuck p a = elim (split (prechart_done C here.place.fired)) [
          | inl d ↦ begun_before c (done_true C here.place.fired d)
          | inr d ↦ dropped_broken (rw d at a)
        ]
        begun_move c (fails i term q) p a = elim (split (C.hot i)) [
          | inl t ↦
              let R : Rising o (chart_messages C s ▸ e) = rw (chart_messages_take C s e c) at (rising_on e h) in
              begun_failing c
              (failure_of C A here.place e (last_of o (chart_messages C s)) (λ x. held x R.0)
              R.1 c i term q p) t
          | inr t ↦ dropped_broken (rw t at a)
        ]
        begun_move c (rests q) p a = elim (split (full C q.fired)) [
          | inl t ↦ kept_broken (rw t at a)
          | inr t ↦ onward_broken (not (prechart_done C here.place.fired) && prechart_done C q.fired) (rw t at a)
        ]

        begun : {n k : ℕ} {x : Cause} → (offer C here e).answer ≡ broken_at n k x → Begun C A o (s ▸ e)
        unfolding offer go_on
        begun a = elim (split (chart_message C e)) [
          | inl c ↦ begun_move c (take_message C here.place e) refl (rw c at a)
          | inr c ↦ quiet_broken (rw c at a)
        ]

        violated : {n k : ℕ} {x : Cause} → (feed C here e).answer ≡ broken_at n k x → Violated C o (s ▸ e)
        violated a =
            let n = not_twice (ap first_only a) in
            violates C A o (begun (rw (feeds_once n) at a))
            ((decided_once n).dropped_or_broken_exactly.0 (inr (_, _, _, a)))

        -- where the round missed the record, neither side holds
        pub violated_exactly : Violated C o (s ▸ e)
            ↔ (SaysDroppedOrBroken said
            × (u v : Snoc Letter) × (z : Config) × (word C o (s ▸ e) ≡ strip u · v) × Prompt C initial u z
            × PrechartDone C z.cut)
        violated_exactly = elim (split (missed C here e && fits_opening C e)) [
          | inl t ↦
              let M = twice_of C A e here (last_of o (chart_messages C s)) t in
              let never = never_begun C A o s e round_is_prompt M.0 (starts_chart C A e M.1) in (
                λ x. absurd (never (begun_of C A o x)),
                λ y. absurd (never (y.1, y.2, y.3, y.4, y.5, y.6)),
              )
          | inr t ↦
              let D = (decided_once (λ D. clash (both_are C A e here stands_at D.0 D.1) t)
              ).dropped_or_broken_exactly in (
                λ x. let B = begun_of C A o x in (D.1 x.none_whole, B.0, B.1, B.2, B.3, B.4, B.5),
                λ y. violates C A o (y.1, y.2, y.3, y.4, y.5, y.6) (D.0 y.0),
              )
        ]

      pub kept_satisfies : (e : LogRecord) → (feed C here e).answer ≡ kept_now
          → (z : Config) × (P : Reaches C o (s ▸ e) z) × CompletedBy C C.regions P.letters
      kept_satisfies e p =
          let h : refusal rs e ≡ none = not_refused e (ap first_only p) in
          let K = (decided_once e h (not_twice e h (ap first_only p))).kept_exactly.0 p in
          (K.0, K.1, full_completes C (prompt_run C K.1.run) (full_of C K.0 K.2))

      pub entered_satisfies : (e : LogRecord) → (feed C here e).answer ≡ entered
          → (P : Reaches C o (s ▸ e) (config_at C e.time (feed C here e).next.place))
          × CompletedBy C C.prechart P.letters
      entered_satisfies e p =
          let h : refusal rs e ≡ none = not_refused e (ap first_only p) in
          comes_enter C A o s e stands_at.row stands_at.lawful (rising_on e h) here {v = feed C here e}
          (comes_once e h (not_twice e h (ap first_only p))) p

      pub broken_violates : (e : LogRecord) (n k : ℕ) (x : Cause) → (feed C here e).answer ≡ broken_at n k x
          → Violated C o (s ▸ e)
      broken_violates e n k x a = violated e (not_refused e (ap first_only a)) a
