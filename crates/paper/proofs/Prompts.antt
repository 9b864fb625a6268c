-- A prompt run over the words of records is a chain of their parts, and every chain is one. What a step of the source
-- needs is read off `Advance`. Assumes nothing.
use mathlib.Core.Path.{◌≡◌, refl, sym, ap, subst, ◌∙◌}
use mathlib.Core.Logic.{◌≢◌, inl, inr}
use mathlib.Core.Bool.{Bool, false, So, ◌||◌}
use mathlib.Core.Option.{some}
use Prim.Native.Nat.{ℕ, ◌-◌}
use native.Mathlib.Omega.{arith}
use lib.Dec.{eqb}
use borrow.Author.Tests.{eqb-true, eq-eqb}
use Rattle.base.specs.Lists.{Snoc, ε, ◌▸◌}
use Rattle.rounds.specs.Chart.{Chart, condition_of}
use Rattle.rounds.specs.Rows.{LogRecord, Ready, plain}
use Rattle.base.proofs.Bools.{clash, either, or_left}
use Rattle.paper.specs.Runs.{Config, Letter, message, silent, delay, initial, strip, add, shift, successor, wait}
use Rattle.paper.specs.Runs.{Advance, synchronization, silent_advancement, premature_termination, time_delay, by}
use Rattle.paper.specs.Runs.{Run, here, step, Next, AtRest, Prompt, begins, settles, goes, Over, last_of, spelled}
use Rattle.paper.proofs.Parts.{Silents, no_more, one, OneMessage, Chain, opens, next}

module _ (C : Chart) where
  pub prompt_run : {x z : Config} {w : Snoc Letter} → Prompt C x w z → Run C x w z
  prompt_run begins = here
  prompt_run (settles P s N a) = step (prompt_run P) a
  prompt_run (goes P B n a) = step (prompt_run P) a

  -- the four steps, where what each needs is at hand
  pub synchronizes : {x : Config} (s : ℕ) → Ready C x.cut s → plain C s ≡ false → So (condition_of C s x.valuation)
      → (a : Advance C x (message (C.key s)) (successor C x s)) × (by C a ≡ some s)
  synchronizes s R p h = (synchronization s R p cc, refl)

  pub advances : {x : Config} (s : ℕ) → Ready C x.cut s → So (plain C s) → So (condition_of C s x.valuation)
      → (a : Advance C x silent (successor C x s)) × (by C a ≡ some s)
  advances s R p h = (silent_advancement s R p cc, refl)

  pub terminates : {x : Config} (s : ℕ) → Ready C x.cut s → C.hot s ≡ false → condition_of C s x.valuation ≡ false
      → (a : Advance C x silent initial) × (by C a ≡ some s)
  terminates s R c f = (premature_termination s R c cc, refl)

  pub delays : {x : Config} (d s : ℕ) → Ready C x.cut s → So (condition_of C s (shift C x.valuation d))
      → Advance C x (delay d) (wait C x d)
  delays d s R h = time_delay d s R cc

  -- what a step over a message needs
  pub record Synced (y : Config) (k : ℕ) (z : Config) : Type 0 where
    pub region : ℕ
    pub follows : Ready C y.cut region
    pub is_message_case : plain C region ≡ false
    pub fits : C.key region ≡ k
    pub holds : So (condition_of C region y.valuation)
    pub to : z ≡ successor C y region

  pub synced : {y z : Config} {u : Letter} (k : ℕ) → u ≡ message k → Advance C y u z → Synced y k z
  synced k q (synchronization s R p h) =
      record { region = s; follows = R; is_message_case = p; fits = cc; holds = h; to = refl }
  synced k q (silent_advancement s R p h) = absurd (let z : ◌≡◌ {A = ℕ} 0 1 = cc in omega arith)
  synced k q (premature_termination s R p h) = absurd (let z : ◌≡◌ {A = ℕ} 0 1 = cc in omega arith)
  synced k q (time_delay d s R h) = absurd (let z : ◌≡◌ {A = ℕ} 0 1 = cc in omega arith)

  pub record Delayed (y : Config) (d : ℕ) (z : Config) : Type 0 where
    pub region : ℕ
    pub follows : Ready C y.cut region
    pub holds : So (condition_of C region (shift C y.valuation d))
    pub to : z ≡ wait C y d

  pub delayed : {y z : Config} {u : Letter} (d : ℕ) → u ≡ delay d → Advance C y u z → Delayed y d z
  delayed d q (synchronization s R p h) = absurd (let z : ◌≡◌ {A = ℕ} 0 1 = cc in omega arith)
  delayed d q (silent_advancement s R p h) = absurd (let z : ◌≡◌ {A = ℕ} 0 1 = cc in omega arith)
  delayed d q (premature_termination s R p h) = absurd (let z : ◌≡◌ {A = ℕ} 0 1 = cc in omega arith)
  delayed {y} d q (time_delay f s R h) =
      let e : f ≡ d = cc in
      record {
        region = s;
        follows = R;
        holds = subst (λ (n : ℕ). So (condition_of C s (shift C y.valuation n))) e h;
        to = ap {B = Config} (wait C y) e;
      }

  -- a successor says which region that follows the cut it is of
  same_added : (c : ℕ → Bool) (s t : ℕ) → Ready C c s → Ready C c t → add C c s ≡ add C c t → s ≡ t
  unfolding add
  same_added c s t R Q e =
      elim (either (eqb s t) (c s)
      (rw (← (ap {B = Bool} (λ (f : ℕ → Bool). f s) e)) (or_left (c s) (eq-eqb s s refl)))) [
        | inl q ↦ eqb-true s t q
        | inr q ↦ clash q R.unfired
      ]

  -- a silent step to the successor of region s is its advancement
  pub record Advanced (y : Config) (s : ℕ) : Type 0 where
    pub is_plain : So (plain C s)
    pub holds : So (condition_of C s y.valuation)

  pub advanced : {y z : Config} {u : Letter} (s : ℕ) → u ≡ silent → z ≡ successor C y s → Ready C y.cut s
      → Advance C y u z
      → Advanced y s
  unfolding add
  advanced s q e N (synchronization t R p h) = absurd (let z : ◌≡◌ {A = ℕ} 0 1 = cc in omega arith)
  advanced {y} s q e N (silent_advancement t R p h) =
      let w : t ≡ s = same_added y.cut t s R N (ap {B = ℕ → Bool} (λ (z : Config). z.cut) e) in
      record { is_plain = rw w at p; holds = subst (λ (n : ℕ). So (condition_of C n y.valuation)) w h }
  advanced {y} s q e N (premature_termination t R p h) =
      clash {b = eqb s s || y.cut s} (or_left (y.cut s) (eq-eqb s s refl))
      (sym (ap {B = Bool} (λ (z : Config). z.cut s) e))
  advanced s q e N (time_delay d t R h) = absurd (let z : ◌≡◌ {A = ℕ} 0 1 = cc in omega arith)

  -- silent advancements after a prompt run
  pub silents_prompt : {x y z : Config} {w : Snoc Letter} → Prompt C x w y → Silents C y z
      → (w' : Snoc Letter) × (strip w' ≡ strip w) × Prompt C x w' z
  silents_prompt {w} P no_more = (w, refl, P)
  silents_prompt P (one {y} S s N h) =
      let T = silents_prompt P S in
      (T.0 ▸ silent, T.1, settles T.2 s N (advances s N.follows N.is_plain h).0)

  loud_delay : {d : ℕ} → delay d ≢ silent
  loud_delay q = let z : ◌≡◌ {A = ℕ} 0 1 = cc in omega arith

  loud_message : {k : ℕ} → message k ≢ silent
  loud_message q = let z : ◌≡◌ {A = ℕ} 0 1 = cc in omega arith

  -- a delay and a message at rest
  pub goes_on : {x y : Config} {w : Snoc Letter} (d s : ℕ) → Prompt C x w y → AtRest C y.cut → Ready C y.cut s
      → plain C s ≡ false
      → So (condition_of C s (shift C y.valuation d))
      → Prompt C x (w ▸ delay d ▸ message (C.key s)) (successor C (wait C y d) s)
  goes_on d s P r R p h =
      goes (goes P r (λ q. absurd (loud_delay q)) (delays d s R h)) r (λ q. absurd (loud_message q))
      (synchronizes s R p h).0

  -- up to the message's region
  pub synchronized : {x y z : Config} {w : Snoc Letter} {d m : ℕ} → Prompt C x w y → (M : OneMessage C y d m z)
      → Prompt C x (w ▸ delay d ▸ message (C.key M.region)) (successor C (wait C y d) M.region)
  synchronized {d} P M = goes_on d M.region P M.waits M.follows M.is_message_case M.holds

  pub message_prompt : {x y z : Config} {w : Snoc Letter} (d m : ℕ) → Prompt C x w y → OneMessage C y d m z
      → (w' : Snoc Letter) × (strip w' ≡ strip w ▸ delay d ▸ message m) × Prompt C x w' z
  message_prompt {w} d m P M =
      let T = silents_prompt (synchronized P M) M.silents in
      (T.0, T.1 ∙ ap {B = Snoc Letter} (λ (k : ℕ). strip w ▸ delay d ▸ message k) M.fits, T.2)

  chain_rests : {x z : Config} {o : ℕ} {l : Snoc LogRecord} → AtRest C x.cut → Chain C x o l z → AtRest C z.cut
  chain_rests A opens = A
  chain_rests A (next K M) = M.rests

  chain_word : {x : Config} {o : ℕ} {z : Config} {l : Snoc LogRecord} → Chain C x o l z → (w : Snoc Letter)
      × (strip w ≡ spelled o l) × Prompt C x w z
  chain_word opens = (ε, refl, begins)
  chain_word {o} (next {l} {y} {e} K M) =
      let T = chain_word K in
      let S = message_prompt (e.time - last_of o l) e.code T.2 M in (
        S.0,
        S.1 ∙ ap {B = Snoc Letter} (λ (w : Snoc Letter). w ▸ delay (e.time - last_of o l) ▸ message e.code) T.1,
        S.2,
      )

  -- a chain is a prompt run
  pub chain_prompt : {x z : Config} {o : ℕ} {l : Snoc LogRecord} → AtRest C x.cut → Chain C x o l z
      → Over C x (spelled o l) z
  chain_prompt A K =
      let T = chain_word K in
      record { letters = T.0; spells = T.1; run = T.2; rests = chain_rests A K }

  -- the letters at a word's end
  no_delay_end : (o : ℕ) (l : Snoc LogRecord) {w : Snoc Letter} {d : ℕ} → w ▸ delay d ≡ spelled o l → ⊥
  no_delay_end o ε q = let z : ◌≡◌ {A = ℕ} 0 1 = cc in omega arith
  no_delay_end o (l ▸ e) q = let z : ◌≡◌ {A = ℕ} 0 1 = cc in omega arith

  record Ended (o : ℕ) (l : Snoc LogRecord) (w : Snoc Letter) (k : ℕ) : Type 0 where
    before : Snoc LogRecord
    last : LogRecord
    parts : l ≡ before ▸ last
    word : w ≡ spelled o before ▸ delay (last.time - last_of o before)
    code : k ≡ last.code

  message_end : (o : ℕ) (l : Snoc LogRecord) {w : Snoc Letter} {k : ℕ} → w ▸ message k ≡ spelled o l → Ended o l w k
  message_end o ε q = absurd (let z : ◌≡◌ {A = ℕ} 0 1 = cc in omega arith)
  message_end o (l ▸ e) q = record { before = l; last = e; parts = refl; word = cc; code = cc }

  empty_end : (o : ℕ) (l : Snoc LogRecord) → ε ≡ spelled o l → l ≡ ε
  empty_end o ε q = refl
  empty_end o (l ▸ e) q = absurd (let z : ◌≡◌ {A = ℕ} 0 1 = cc in omega arith)

  delay_delay : {w v : Snoc Letter} {d f : ℕ} → w ▸ delay d ≡ v ▸ delay f → (w ≡ v) × (d ≡ f)
  delay_delay q = (cc, cc)

  message_delay : {w v : Snoc Letter} {k f : ℕ} → w ▸ message k ≡ v ▸ delay f → ⊥
  message_delay q = let z : ◌≡◌ {A = ℕ} 0 1 = cc in omega arith

  -- from configuration x, at rest, at moment o
  module _ (x : Config) (o : ℕ) (rest : AtRest C x.cut) where
    -- after the message of the last record, silent advancements under way
    pub data Mid : Snoc LogRecord → Config → Type 0 where
      start : Mid ε x
      moving : {l : Snoc LogRecord} {y : Config} {e : LogRecord} {z : Config} → Chain C x o l y → AtRest C y.cut
          → (s : ℕ) → Ready C y.cut s
          → plain C s ≡ false → C.key s ≡ e.code → So (condition_of C s (shift C y.valuation (e.time - last_of o l)))
          → Silents C (successor C (wait C y (e.time - last_of o l)) s) z → Mid (l ▸ e) z

    mid_rest : {l : Snoc LogRecord} {y : Config} → Mid l y → AtRest C y.cut → Chain C x o l y
    mid_rest start R = opens
    mid_rest (moving K A s r p k h S) R =
        next K (record {
          waits = A;
          region = s;
          follows = r;
          is_message_case = p;
          fits = k;
          holds = h;
          silents = S;
          rests = R;
        })

    -- after the delay before a message
    record Waiting (l : Snoc LogRecord) (d : ℕ) (z : Config) : Type 0 where
      from : Config
      chain : Chain C x o l from
      rests : AtRest C from.cut
      at : z ≡ wait C from d

    record Both (w : Snoc Letter) (z : Config) : Type 0 where
      mid : (l : Snoc LogRecord) → strip w ≡ spelled o l → Mid l z
      waiting : (l : Snoc LogRecord) (d : ℕ) → strip w ≡ spelled o l ▸ delay d → Waiting l d z

    grow_mid : {l : Snoc LogRecord} {y : Config} → Mid l y → (s : ℕ) → Next C y.cut s
        → So (condition_of C s y.valuation)
        → Mid l (successor C y s)
    unfolding AtRest
    grow_mid start s N h = absurd (rest s N.is_plain N.follows)
    grow_mid (moving K B t r p k g S) s N h = moving K B t r p k g (one S s N h)

    met : {l : Snoc LogRecord} {e : LogRecord} {y z : Config} {k : ℕ} → Waiting l (e.time - last_of o l) y → k ≡ e.code
        → Advance C y (message k) z → Mid (l ▸ e) z
    met {l} {e} {y} {z} {k} W q a =
        let Y = synced k refl (subst (λ (v : Config). Advance C v (message k) z) W.at a) in
        subst (λ (v : Config). Mid (l ▸ e) v) (sym Y.to)
        (moving W.chain W.rests Y.region Y.follows Y.is_message_case (Y.fits ∙ q) Y.holds no_more)

    both_goes : {w : Snoc Letter} {y : Config} (u : Letter) {z : Config} → Both w y → AtRest C y.cut → u ≢ silent
        → Advance C y u z
        → Both (w ▸ u) z
    both_goes silent I B n a = absurd (n refl)
    both_goes {y} (delay d) I B n a = record {
      mid = λ l q. absurd (no_delay_end o l q);
      waiting = λ l f q.
          let e = delay_delay q in
          record {
            from = y;
            chain = mid_rest (I.mid l e.0) B;
            rests = B;
            at = (delayed d refl a).to
                ∙ ap {B = Config} (wait C y) e.1;
          };
    }
    both_goes (message k) {z} I B n a = record {
      mid = λ l q.
          let E = message_end o l q in
          subst (λ (v : Snoc LogRecord). Mid v z) (sym E.parts)
          (met (I.waiting E.before (E.last.time - last_of o E.before) E.word) E.code a);
      waiting = λ l f q. absurd (message_delay q);
    }

    both : {w : Snoc Letter} {z : Config} → Prompt C x w z → Both w z
    unfolding AtRest
    both begins = record {
      mid = λ l q. subst (λ (v : Snoc LogRecord). Mid v x) (sym (empty_end o l q)) start;
      waiting = λ l d q. absurd (let z : ◌≡◌ {A = ℕ} 0 1 = cc in omega arith);
    }
    both (settles {w} {y} P s N a) =
        let I = both P in
        let h = (advanced s refl refl N.follows a).holds in
        record {
          mid = λ l q. grow_mid (I.mid l q) s N h;
          waiting = λ l d q.
              let W = I.waiting l d q in
              absurd (W.rests s N.is_plain (subst (λ (v : Config). Ready C v.cut s) W.at N.follows));
        }
    both (goes {w} {y} {u} {z} P B n a) = both_goes u (both P) B n a

    pub prompt_mid : (l : Snoc LogRecord) {w : Snoc Letter} {z : Config} → strip w ≡ spelled o l → Prompt C x w z
        → Mid l z
    prompt_mid l q P = (both P).mid l q

    -- a prompt run is a chain
    pub prompt_chain : (l : Snoc LogRecord) {z : Config} → Over C x (spelled o l) z → Chain C x o l z
    prompt_chain l P = mid_rest (prompt_mid l P.spells P.run) P.rests

    -- one that ends with a delay has only waited since
    pub prompt_waits : (l : Snoc LogRecord) (d : ℕ) {w : Snoc Letter} {z : Config} → strip w ≡ spelled o l ▸ delay d
        → Prompt C x w z
        → (y : Config) × Over C x (spelled o l) y × (z ≡ wait C y d)
    prompt_waits l d q P = let W = (both P).waiting l d q in (W.from, chain_prompt rest W.chain, W.at)

    -- one over a last record came by a region that has its message
    mid_meets : {l : Snoc LogRecord} {e : LogRecord} {z : Config} → Mid (l ▸ e) z
        → (y : Config) × Over C x (spelled o l) y × (s : ℕ) × Ready C y.cut s × (C.key s ≡ e.code)
    mid_meets (moving {y} K B s r p k h S) = (y, chain_prompt rest K, s, r, k)

    pub prompt_meets : (l : Snoc LogRecord) (e : LogRecord) {w : Snoc Letter} {z : Config}
        → strip w ≡ spelled o (l ▸ e) → Prompt C x w z
        → (y : Config) × Over C x (spelled o l) y × (s : ℕ) × Ready C y.cut s × (C.key s ≡ e.code)
    prompt_meets l e q P = mid_meets (prompt_mid (l ▸ e) q P)
