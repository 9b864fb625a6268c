-- The machine's move on a chart message is the source's steps (S20): delay, synchronization, silent advancements.
-- Settling and `Silents` are followed side by side, firing region by region, to the cut at rest or to the condition
-- that fails; first from the machine to the steps, then back. Assumes nothing.
use mathlib.Core.Path.{◌≡◌, refl, sym, ap, ◌∙◌, subst, fun_ext}
use mathlib.Core.Logic.{◌≢◌, inl, inr}
use mathlib.Core.Bool.{Bool, false, So, ◌||◌}
use mathlib.Core.Option.{none, some}
use Prim.Native.Nat.{ℕ, zero, suc, ◌-◌, ◌≤◌}
use native.Mathlib.Omega.{arith}
use lib.Dec.{eqb, ltb}
use Rattle.rounds.specs.Chart.{Chart, condition_of, Accepted}
use Rattle.rounds.specs.Rows.{LogRecord, chart_message, Ready, values, opened}
use Rattle.rounds.specs.Machine.{Place, Move, stuck, fails, rests, ready_plain, ready_for, unfired, fire, settle}
use Rattle.rounds.specs.Machine.{take_message, try_region, opening}
use Rattle.base.proofs.Bools.{split}
use Rattle.base.proofs.Facts.{found}
use Rattle.rounds.proofs.Machine.{unfired_falls, chart_nonzero, has_message, message_stuck, message_fails}
use Rattle.rounds.proofs.Machine.{message_fires, LowestPlain, plain_some, plain_is, plain_none, plain_is_none, for_some}
use Rattle.rounds.proofs.Machine.{for_none, for_is}
use Rattle.paper.specs.Runs.{Config, initial, add, reset, shift, Next, AtRest, config_at}
use Rattle.paper.proofs.Parts.{Silents, no_more, one, OneMessage, Failure, at_once, later}

-- places and configurations
module _ (C : Chart) where
  -- firing a region is the source's step
  fire_config : (t : ℕ) (p : Place) (s : ℕ)
      → config_at C t
      (fire C t p s) ≡ record { cut = add C p.fired s; valuation = reset C s (values C t p.clocks) }
  unfolding config_at fire add reset values
  fire_config t p s = ap {B = Config} (λ (v : ℕ → ℕ). record { cut = λ j. eqb j s || p.fired j; valuation = v })
      (fun_ext (λ x. elim (split (C.resets s x)) [
        | inl r ↦ elim (split (ltb x C.clocks)) [ inl u ↦ rw (r, u) (omega arith) | inr u ↦ rw (r, u) ]
        | inr r ↦ rw r
      ]))

  -- a delay shifts the clocks
  pub shift_values : (t u : ℕ) (k : ℕ → ℕ) → ((c : ℕ) → k c ≤ t) → t ≤ u → shift C (values C t k) (u - t) ≡ values C u k
  unfolding shift values
  shift_values t u k h l =
      fun_ext (λ x. elim (split (ltb x C.clocks)) [ inl r ↦ rw r (omega (arith, h x)) | inr r ↦ rw r ])

  -- a round opens in the initial configuration
  pub opening_config : (t : ℕ) → config_at C t (opening C t) ≡ initial
  unfolding config_at opening opened values
  opening_config t = ap {B = Config} (λ (v : ℕ → ℕ). record { cut = λ i. false; valuation = v })
      (fun_ext (λ x. elim (split (ltb x C.clocks)) [ inl r ↦ rw r (omega arith) | inr r ↦ rw r ]))

-- the machine's search finds the next plain region, or a cut at rest
module _ (C : Chart) (A : Accepted C) where
  next_of : (f : ℕ → Bool) (i : ℕ) → ready_plain C f ≡ some i → Next C f i
  next_of f i h =
      let L : LowestPlain C f i = plain_some C A f i h in
      record { is_plain = L.is_plain; follows = L.is_ready; lowest = λ j p R. omega (arith, L.lowest j p R) }

  of_next : (f : ℕ → Bool) (i : ℕ) → Next C f i → ready_plain C f ≡ some i
  of_next f i N = plain_is C A f i (record { is_plain = N.is_plain; is_ready = N.follows; lowest = N.lowest })

  rest_of : (f : ℕ → Bool) → ready_plain C f ≡ none → AtRest C f
  unfolding AtRest
  rest_of f h = λ j p R. absurd (plain_none C A f h j p R)

  of_rest : (f : ℕ → Bool) → AtRest C f → ready_plain C f ≡ none
  unfolding AtRest
  of_rest f h = plain_is_none C A f h

  module _ (t : ℕ) (x : Config) where
    -- settling is silent advancements, to a cut at rest or to a region that fails
    Came : Move → Type 0
    Came stuck = ⊥
    Came (fails i term q) =
        Silents C x (config_at C t q) × Next C q.fired i × (condition_of C i (values C t q.clocks) ≡ false)
        × (term ≡ C.failing i (values C t q.clocks))
    Came (rests q) = Silents C x (config_at C t q) × AtRest C q.fired

    settle_came : (k : ℕ) (p : Place) → Silents C x (config_at C t p) → unfired C p.fired ≤ k → Came (settle C t k p)
    unfolding settle try_region Came
    settle_came zero p S h = elim (found (ready_plain C p.fired)) [
      | inl n ↦ (S, rest_of p.fired n)
      | inr f ↦ absurd (omega (arith, unfired_falls C t p f.0 (plain_some C A p.fired f.0 f.1).is_ready))
    ]
    settle_came (suc k) p S h = elim (found (ready_plain C p.fired)) [
      | inl n ↦ rw n (S, rest_of p.fired n)
      | inr f ↦ elim (split (condition_of C f.0 (values C t p.clocks))) [
        | inl c ↦ rw (f.1, c) (settle_came k (fire C t p f.0)
            (rw (fire_config C t p f.0) (unfold config_at in one S f.0 (next_of p.fired f.0 f.1) c))
            (omega (arith, unfired_falls C t p f.0 (plain_some C A p.fired f.0 f.1).is_ready)))
        | inr c ↦ rw (f.1, c) (S, next_of p.fired f.0 f.1, c, refl)
      ]
    ]

    -- one turn of settling, in its three cases
    settle_none : (k : ℕ) (p : Place) → ready_plain C p.fired ≡ none → settle C t k p ≡ rests p
    unfolding settle
    settle_none zero p n = refl
    settle_none (suc k) p n = rw n

    settle_more : (k : ℕ) (p : Place) (i : ℕ) → ready_plain C p.fired ≡ some i
        → So (condition_of C i (values C t p.clocks))
        → settle C t (suc k) p ≡ settle C t k (fire C t p i)
    unfolding settle try_region
    settle_more k p i f c = rw (f, c)

    settle_fails : (k : ℕ) (p : Place) (i : ℕ) → ready_plain C p.fired ≡ some i
        → condition_of C i (values C t p.clocks) ≡ false
        → settle C t (suc k) p ≡ fails i (C.failing i (values C t p.clocks)) p
    unfolding settle try_region
    settle_fails k p i f c = rw (f, c)

    -- and the other way round
    Reached : Place → Config → Type 0
    Reached p y =
        (q : Place) × (y ≡ config_at C t q) × (settle C t (unfired C p.fired) p ≡ settle C t (unfired C q.fired) q)

    reach_one : (p : Place) (y : Config) (s : ℕ) → Reached p y → Next C y.cut s → So (condition_of C s y.valuation)
        → Reached p (record { cut = add C y.cut s; valuation = reset C s y.valuation })
    unfolding Reached config_at
    reach_one p y s W N c =
        let q : Place = W.0 in
        let N' : Next C q.fired s = subst (λ (z : Config). Next C z.cut s) W.1 N in
        let c' : So (condition_of C s (values C t q.clocks)) = subst
        (λ (z : Config). So (condition_of C s z.valuation)) W.1 c in (
          fire C t q s,
          ap {B = Config} (λ (z : Config). record { cut = add C z.cut s; valuation = reset C s z.valuation })
              W.1
              ∙ sym (fire_config C t q s),
          W.2 ∙ rw (← (unfired_falls C t q s N'.follows))
              (settle_more (unfired C (fire C t q s).fired) q s (of_next q.fired s N') c'),
        )

    silents_reach : {y : Config} (p : Place) → x ≡ config_at C t p → Silents C x y → Reached p y
    unfolding Reached
    silents_reach p h no_more = (p, h, refl)
    silents_reach p h (one {y} S s N c) = reach_one p y s (silents_reach p h S) N c

  -- no region that follows the cut has the message
  pub stuck_of : (p : Place) (e : LogRecord) → take_message C p e ≡ stuck → (s : ℕ) → Ready C p.fired s
      → C.key s ≢ e.code
  unfolding Came
  stuck_of p e h s R k = elim (found (ready_for C p.fired e)) [
    | inl n ↦ for_none C A p.fired e s n R k
    | inr f ↦ elim (split (condition_of C f.0 (values C e.time p.clocks))) [
      | inl c ↦ subst (Came e.time _) (sym (message_fires C p e f.0 f.1 c) ∙ h) (settle_came e.time
          (config_at C e.time (fire C e.time p f.0)) (unfired C (fire C e.time p f.0).fired)
          (fire C e.time p f.0)
          no_more (omega arith))
      | inr c ↦ not_stuck (sym (message_fails C p e f.0 f.1 c) ∙ h)
    ]
  ]
    where
      not_stuck : {i term : ℕ} → fails i term p ≡ stuck → ⊥
      not_stuck u = let z : ◌≡◌ {A = ℕ} 0 1 = cc in omega arith

  -- where no region that follows the cut has the message, the machine finds none
  pub of_unmatched : (p : Place) (e : LogRecord) → ((s : ℕ) → Ready C p.fired s → C.key s ≢ e.code)
      → take_message C p e ≡ stuck
  of_unmatched p e h = elim (found (ready_for C p.fired e)) [
    | inl n ↦ message_stuck C p e n
    | inr f ↦ let R = for_some C A p.fired e f.0 f.1 in absurd (h f.0 R.0 R.1)
  ]

  -- a chart message e, at place p, whose reset moments are at most t
  module _ (p : Place) (e : LogRecord) (t : ℕ) (past : (c : ℕ) → p.clocks c ≤ t) (forward : t ≤ e.time)
      (chart : So (chart_message C e)) where
    -- the clocks at the record
    abbrev later_values : ℕ → ℕ
    later_values = shift C (values C t p.clocks) (e.time - t)

    shifted : later_values ≡ values C e.time p.clocks
    shifted = shift_values C t e.time p.clocks past forward

    -- the configuration after region m
    abbrev last_after : ℕ → Config
    last_after m = record { cut = add C p.fired m; valuation = reset C m (values C e.time p.clocks) }

    fired_came : (m : ℕ) → Came e.time (last_after m)
        (settle C e.time (unfired C (fire C e.time p m).fired) (fire C e.time p m))
    fired_came m = settle_came e.time (last_after m) (unfired C (fire C e.time p m).fired) (fire C e.time p m)
        (rw (fire_config C e.time p m) no_more) (omega arith)

    -- where the machine comes to rest, the source's steps lead there
    pub steps_of : (q : Place) → AtRest C p.fired → take_message C p e ≡ rests q
        → OneMessage C (config_at C t p) (e.time - t) e.code (config_at C e.time q)
    unfolding config_at Came
    steps_of q w h = elim (found (ready_for C p.fired e)) [
      | inl n ↦ absurd (stuck_rests (sym (message_stuck C p e n) ∙ h))
      | inr f ↦
          let R = for_some C A p.fired e f.0 f.1 in
          elim (split (condition_of C f.0 (values C e.time p.clocks))) [
            | inl c ↦
                let S : Came e.time (last_after f.0) (rests q)
                = subst (Came e.time _) (sym (message_fires C p e f.0 f.1 c) ∙ h) (fired_came f.0) in
                record {
                  waits = w;
                  region = f.0;
                  follows = R.0;
                  is_message_case = has_message C e f.0 chart R.1;
                  fits = R.1;
                  holds = rw shifted c;
                  silents = rw shifted S.0;
                  rests = S.1;
                }
            | inr c ↦ absurd (fails_rests (sym (message_fails C p e f.0 f.1 c) ∙ h))
          ]
    ]
      where
        stuck_rests : stuck ≡ rests q → ⊥
        stuck_rests u = let z : ◌≡◌ {A = ℕ} 0 1 = cc in omega arith

        fails_rests : {i term : ℕ} → fails i term p ≡ rests q → ⊥
        fails_rests u = let z : ◌≡◌ {A = ℕ} 0 1 = cc in omega arith

    abbrev Fails : ℕ → Config → Type 0
    Fails j y = Failure C (record { cut = p.fired; valuation = values C t p.clocks }) (e.time - t) e.code j y

    -- the machine's failing term is the condition's
    pub term_of : (i term : ℕ) (q : Place) → take_message C p e ≡ fails i term q
        → term ≡ C.failing i (values C e.time q.clocks)
    unfolding Came
    term_of i term q h = elim (found (ready_for C p.fired e)) [
      | inl n ↦ absurd (stuck_fails (sym (message_stuck C p e n) ∙ h))
      | inr f ↦ elim (split (condition_of C f.0 (values C e.time p.clocks))) [
        | inl c ↦
            let S : Came e.time (last_after f.0) (fails i term q)
            = subst (Came e.time _) (sym (message_fires C p e f.0 f.1 c) ∙ h) (fired_came f.0) in
            S.3
        | inr c ↦ same_term (sym (message_fails C p e f.0 f.1 c) ∙ h)
      ]
    ]
      where
        stuck_fails : stuck ≡ fails i term q → ⊥
        stuck_fails u = let z : ◌≡◌ {A = ℕ} 0 1 = cc in omega arith

        same_term : {j : ℕ} → fails j (C.failing j (values C e.time p.clocks)) p ≡ fails i term q
            → term ≡ C.failing i (values C e.time q.clocks)
        same_term u = cc

    -- where the machine finds a failing condition, so does the source
    pub failure_of : (i term : ℕ) (q : Place) → take_message C p e ≡ fails i term q
        → Failure C (config_at C t p) (e.time - t) e.code i (config_at C e.time q)
    unfolding config_at Came
    failure_of i term q h = elim (found (ready_for C p.fired e)) [
      | inl n ↦ absurd (stuck_fails (sym (message_stuck C p e n) ∙ h))
      | inr f ↦
          let R = for_some C A p.fired e f.0 f.1 in
          elim (split (condition_of C f.0 (values C e.time p.clocks))) [
            | inl c ↦
                let S : Came e.time (last_after f.0) (fails i term q)
                = subst (Came e.time _) (sym (message_fires C p e f.0 f.1 c) ∙ h) (fired_came f.0) in
                later f.0 R.0 (has_message C e f.0 chart R.1) R.1 (rw shifted c)
                (record { cut = q.fired; valuation = values C e.time q.clocks }) (rw shifted S.0) S.1
                S.2
            | inr c ↦
                let u = sym (message_fails C p e f.0 f.1 c) ∙ h in
                subst (λ (y : Place). Fails i (record { cut = y.fired; valuation = values C e.time y.clocks }))
                (same_place u)
                (subst (λ (v : ℕ → ℕ). Fails i (record { cut = p.fired; valuation = v })) shifted
                (at_once (rw (same_region u) at R.0) (rw (same_region u) at R.1)
                (rw shifted (rw (same_region u) at c))))
          ]
    ]
      where
        stuck_fails : stuck ≡ fails i term q → ⊥
        stuck_fails u = let z : ◌≡◌ {A = ℕ} 0 1 = cc in omega arith

        same_place : {j k : ℕ} → fails j k p ≡ fails i term q → p ≡ q
        same_place u = cc

        same_region : {j k : ℕ} → fails j k p ≡ fails i term q → j ≡ i
        same_region u = cc

    -- after region m, silent advancements are settling
    reached : (m : ℕ) {y : Config} → Silents C
        (record { cut = add C p.fired m; valuation = reset C m later_values }) y
        → Reached e.time (last_after m) (fire C e.time p m) y
    reached m S =
        silents_reach e.time (last_after m) (fire C e.time p m) (sym (fire_config C e.time p m))
        (rw shifted at S)

    settles : (m : ℕ) → Ready C p.fired m → C.key m ≡ e.code → So (condition_of C m later_values)
        → take_message C p e ≡ settle C e.time (unfired C (fire C e.time p m).fired) (fire C e.time p m)
    settles m R k h = message_fires C p e m (for_is C A p.fired e m R k (chart_nonzero C e chart)) (rw shifted at h)

    -- where the source's steps lead, the machine comes to rest
    pub of_steps : (z : Config) → OneMessage C (config_at C t p) (e.time - t) e.code z
        → (q : Place) × (take_message C p e ≡ rests q) × (z ≡ config_at C e.time q)
    unfolding config_at Reached
    of_steps z M =
        let m : ℕ = M.region in
        let W : Reached e.time (last_after m) (fire C e.time p m) z = reached m M.silents in
        let n : ready_plain C W.0.fired ≡ none = of_rest W.0.fired
        (subst (λ (y : Config). AtRest C y.cut) W.1 M.rests) in (
          W.0,
          settles m M.follows M.fits M.holds ∙ W.2
              ∙ settle_none e.time (last_after m) (unfired C W.0.fired) W.0 n,
          W.1,
        )

    -- where the source finds a failing condition, so does the machine
    pub of_failure : (i : ℕ) {y : Config} → Failure C (config_at C t p) (e.time - t) e.code i y
        → (q : Place) × (take_message C p e ≡ fails i (C.failing i (values C e.time q.clocks)) q)
        × (y ≡ config_at C e.time q)
    unfolding config_at Reached
    of_failure i (at_once R k f) = (
      p,
      message_fails C p e i (for_is C A p.fired e i R k (chart_nonzero C e chart)) (rw shifted at f),
      ap {B = Config} (λ (v : ℕ → ℕ). record { cut = p.fired; valuation = v }) shifted,
    )
    of_failure i (later m R n k h y S N f) =
        let W : Reached e.time (last_after m) (fire C e.time p m) y = reached m S in
        let q : Place = W.0 in
        let N' : Next C q.fired i = subst (λ (z : Config). Next C z.cut i) W.1 N in
        let f' : condition_of C i (values C e.time q.clocks) ≡ false
        = subst (λ (z : Config). condition_of C i z.valuation ≡ false) W.1 f in (
          q,
          settles m R k h ∙ W.2 ∙ rw (← (unfired_falls C e.time q i N'.follows))
              (settle_fails e.time (last_after m) (unfired C (fire C e.time q i).fired) q i
              (of_next q.fired i N') f'),
          W.1,
        )
