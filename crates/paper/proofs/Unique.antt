-- A word has at most one prompt run that comes to rest, with the same letters and the same end: the run is taken apart
-- at its last letter that is not silent. And what a prompt run over a beginning of the word has in its cut, that one
-- has too. Assumes nothing.
use mathlib.Core.Path.{◌≡◌, refl, sym, ap, ap₂, subst, ◌∙◌}
use mathlib.Core.Logic.{◌≢◌, ◌⊎◌, inl, inr}
use mathlib.Core.Bool.{Bool, So}
use Prim.Native.Nat.{ℕ}
use native.Mathlib.Omega.{arith}
use lib.Dec.{eqb}
use Rattle.base.specs.Lists.{Snoc, ε, ◌▸◌}
use Rattle.rounds.specs.Chart.{Chart, Accepted}
use Rattle.rounds.specs.Rows.{Ready}
use Rattle.base.proofs.Bools.{or_right}
use Rattle.paper.specs.Runs.{Config, Letter, message, silent, delay, ◌·◌, strip, add, successor, Advance}
use Rattle.paper.specs.Runs.{synchronization, silent_advancement, premature_termination, time_delay, Next, AtRest}
use Rattle.paper.specs.Runs.{Prompt, begins, settles, goes, Over}
use Rattle.paper.proofs.Prompts.{synced, delayed}
use Rattle.paper.proofs.Words.{one_ready}

module _ (C : Chart) where
  same_next : (c : ℕ → Bool) (s t : ℕ) → Next C c s → Next C c t → s ≡ t
  same_next c s t N N' =
      omega (arith, N.lowest t N'.is_plain N'.follows, N'.lowest s N.is_plain N.follows)

  -- silent letters only, from the word w and configuration z on
  data Tail (w : Snoc Letter) (z : Config) : Snoc Letter → Config → Type 0 where
    same : Tail w z w z
    more : {v : Snoc Letter} {y : Config} → Tail w z v y → (s : ℕ) → Next C y.cut s
        → Tail w z (v ▸ silent) (successor C y s)

  abbrev Equal : Snoc Letter → Config → Snoc Letter → Config → Type 0
  Equal w z v y = (w ≡ v) × (z ≡ y)

  same_tail : {w v : Snoc Letter} {z y : Config} → Equal w z v y → Tail w z v y
  same_tail {w} {v} {z} {y} q =
      subst (λ (k : Snoc Letter). Tail w z k y) q.0 (subst (λ (k : Config). Tail w z w k) q.1 same)

  tail_rests : {w : Snoc Letter} {z : Config} {v : Snoc Letter} {y : Config} → AtRest C z.cut → Tail w z v y → Equal w z v y
  unfolding AtRest
  tail_rests r same = (refl, refl)
  tail_rests r (more {v} {y} T s N) =
      let q = tail_rests r T in
      absurd (r s N.is_plain (subst (λ (k : Config). Ready C k.cut s) (sym q.1) N.follows))

  -- the first of the silent steps is that of the next region
  tail_first : {w : Snoc Letter} {z : Config} {v : Snoc Letter} {y : Config} (s : ℕ) → Next C z.cut s → Tail w z v y
      → Equal w z v y ⊎ Tail (w ▸ silent) (successor C z s) v y
  tail_first s N same = inl (refl, refl)
  tail_first {w} {z} s N (more {v} {y} T t M) = elim (tail_first s N T) [
    | inl q ↦
        let k : s ≡ t = same_next y.cut s t (subst (λ (x : Config). Next C x.cut s) q.1 N) M in
        inr (same_tail (
          ap {B = Snoc Letter} (λ (x : Snoc Letter). x ▸ silent) q.0,
          ap₂ {C = Config} (λ (x : Config) (n : ℕ). successor C x n) q.1 k,
        ))
    | inr T' ↦ inr (more T' t M)
  ]

  tail_through : {w v' : Snoc Letter} {z y' : Config} {v : Snoc Letter} {y : Config} → Tail w z v y → Tail w z v' y' → AtRest C y'.cut
      → Tail v y v' y'
  unfolding AtRest
  tail_through same T' r = T'
  tail_through (more {v} {y} T s N) T' r = elim (tail_first s N (tail_through T T' r)) [
    | inl q ↦ absurd (r s N.is_plain (subst (λ (k : Config). Ready C k.cut s) q.1 N.follows))
    | inr U ↦ U
  ]

  tail_grows : {w : Snoc Letter} {z : Config} {v : Snoc Letter} {y : Config} (i : ℕ) → Tail w z v y → So (z.cut i) → So (y.cut i)
  unfolding add
  tail_grows i same h = h
  tail_grows i (more T s N) h = or_right (eqb i s) (tail_grows i T h)

  -- a run over no letter but silent ones, and one over a last letter
  loud_empty : (w : Snoc Letter) (u : Letter) → u ≢ silent → strip (w ▸ u) ≢ ε
  loud_empty w (message k) n q = let z : ◌≡◌ {A = ℕ} 0 1 = cc in omega arith
  loud_empty w silent n q = n refl
  loud_empty w (delay d) n q = let z : ◌≡◌ {A = ℕ} 0 1 = cc in omega arith

  only_silent : {x z : Config} {w : Snoc Letter} → Prompt C x w z → strip w ≡ ε → Tail ε x w z
  only_silent begins q = same
  only_silent (settles P s N a) q = more (only_silent P q) s N
  only_silent (goes {w} {y} {u} P r n a) q = absurd (loud_empty w u n q)

  record Cut (x : Config) (v : Snoc Letter) (u : Letter) (w : Snoc Letter) (z : Config) : Type 0 where
    letters : Snoc Letter
    from : Config
    to : Config
    before : Prompt C x letters from
    spells : strip letters ≡ v
    rests : AtRest C from.cut
    advance : Advance C from u to
    tail : Tail (letters ▸ u) to w z

  loud_last : (w : Snoc Letter) {v : Snoc Letter} (u : Letter) {t : Letter} → u ≢ silent → strip (w ▸ u) ≡ v ▸ t
      → (strip w ≡ v) × (u ≡ t)
  loud_last w (message k) n q = (cc, cc)
  loud_last w silent n q = absurd (n refl)
  loud_last w (delay d) n q = (cc, cc)

  cut_last : {x z : Config} {w v : Snoc Letter} {t : Letter} → Prompt C x w z → strip w ≡ v ▸ t → Cut x v t w z
  cut_last begins q = absurd (let z : ◌≡◌ {A = ℕ} 0 1 = cc in omega arith)
  cut_last (settles P s N a) q =
      let K = cut_last P q in
      record {
        letters = K.letters;
        from = K.from;
        to = K.to;
        before = K.before;
        spells = K.spells;
        rests = K.rests;
        advance = K.advance;
        tail = more K.tail s N;
      }
  cut_last {t} (goes {w} {y} {u} {z} P r n a) q =
      let k = loud_last w u n q in
      record {
        letters = w;
        from = y;
        to = z;
        before = P;
        spells = k.0;
        rests = r;
        advance = subst (λ (b : Letter). Advance C y b z) k.1 a;
        tail = subst (λ (b : Letter). Tail (w ▸ b) z (w ▸ u) z) k.1 same;
      }

  module _ (A : Accepted C) where
    -- over a letter that is not silent there is one step
    one_step : {x y z : Config} (u : Letter) → u ≢ silent → Advance C x u y → Advance C x u z → y ≡ z
    one_step {x} (message k) n a b =
        let M = synced C k refl a in
        let N = synced C k refl b in
        M.to ∙ ap {B = Config} (successor C x)
        (one_ready C A x.cut M.region N.region M.follows N.follows M.is_message_case
        (M.fits ∙ sym N.fits)) ∙ sym N.to
    one_step silent n a b = absurd (n refl)
    one_step (delay d) n a b = (delayed C d refl a).to ∙ sym (delayed C d refl b).to

    -- stripped words have no silent letter
    stripped : (w : Snoc Letter) {v : Snoc Letter} {u : Letter} → strip w ≡ v ▸ u → u ≢ silent
    stripped ε q = absurd (let z : ◌≡◌ {A = ℕ} 0 1 = cc in omega arith)
    stripped (w ▸ message k) q = λ s. (let z : ◌≡◌ {A = ℕ} 0 1 = cc in omega arith)
    stripped (w ▸ silent) q = stripped w q
    stripped (w ▸ delay d) q = λ s. (let z : ◌≡◌ {A = ℕ} 0 1 = cc in omega arith)

    -- silent letters lead from any prompt run to the one over the same word that comes to rest
    leads_on : (v : Snoc Letter) {x z y : Config} {w : Snoc Letter} → Prompt C x w z → strip w ≡ v → (P : Over C x v y)
        → Tail w z P.letters y
    leads_on ε R q P = tail_through (only_silent R q) (only_silent P.run P.spells) P.rests
    leads_on (v ▸ u) {x} {z} {y} {w} R q P =
        let K = cut_last R q in
        let L = cut_last P.run P.spells in
        let I : Equal K.letters K.from L.letters L.from
        = tail_rests K.rests (leads_on v K.before K.spells
        (record { letters = L.letters; spells = L.spells; run = L.before; rests = L.rests })) in
        let s : K.to ≡ L.to = one_step u (stripped w q) K.advance
        (subst (λ (k : Config). Advance C k u L.to) (sym I.1) L.advance) in
        let T : Tail (K.letters ▸ u) K.to P.letters y
        = subst (λ (k : Config). Tail (K.letters ▸ u) k P.letters y) (sym s)
        (subst (λ (k : Snoc Letter). Tail (k ▸ u) L.to P.letters y) (sym I.0) L.tail) in
        tail_through K.tail T P.rests

    pub one_prompt : {x z z' : Config} {w : Snoc Letter} (P : Over C x w z) (P' : Over C x w z')
        → (P.letters ≡ P'.letters) × (z ≡ z')
    one_prompt {w} P P' = tail_rests P.rests (leads_on w P.run P.spells P')

    -- a letter that is not silent takes no region away
    step_grows : {x z : Config} {u : Letter} (i : ℕ) → u ≢ silent → Advance C x u z → So (x.cut i) → So (z.cut i)
    unfolding add
    step_grows i n (synchronization s R p h) b = or_right (eqb i s) b
    step_grows i n (silent_advancement s R p h) b = absurd (n refl)
    step_grows i n (premature_termination s R p h) b = absurd (n refl)
    step_grows i n (time_delay d s R h) b = b

    pub cuts_grow : (v : Snoc Letter) {x z y : Config} {u w : Snoc Letter} (i : ℕ) → Prompt C x u z → Over C x w y
        → w ≡ strip u · v → So (z.cut i) → So (y.cut i)
    cuts_grow ε {w} i R P q h = tail_grows i (leads_on w R (sym q) P) h
    cuts_grow (v ▸ l) i R P q h =
        let K = cut_last P.run (P.spells ∙ q) in
        let b = cuts_grow v i R
        (record { letters = K.letters; spells = K.spells; run = K.before; rests = K.rests }) refl h in
        tail_grows i K.tail (step_grows i (stripped P.letters (P.spells ∙ q)) K.advance b)
