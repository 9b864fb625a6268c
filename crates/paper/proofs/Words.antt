-- What the source's steps need and what the words of runs satisfy. Along a run the cut stays a cut; the step that
-- completes the prechart leaves exactly its regions, since they are above all others. Assumes nothing.
use mathlib.Core.Path.{◌≡◌, refl, ap, subst, ◌∙◌}
use mathlib.Core.Logic.{◌≢◌, inl, inr}
use mathlib.Core.Bool.{Bool, false, So, ◌||◌, false≢true}
use mathlib.Core.Option.{some}
use Prim.Native.Nat.{ℕ, ◌≤◌, ◌<◌}
use native.Mathlib.Omega.{arith}
use native.Mathlib.Decide.{dec_lt, ℕ_discrete}
use lib.Dec.{eqb}
use borrow.Author.Tests.{eqb-true, eqb-false, eq-eqb}
use Rattle.base.specs.Lists.{Snoc, ε, ◌▸◌}
use Rattle.rounds.specs.Chart.{Chart, condition_of, Accepted}
use Rattle.rounds.specs.Rows.{LogRecord, plain, Ready, Full, PrechartDone}
use Rattle.rounds.specs.Machine.{prechart_done}
use Rattle.base.proofs.Bools.{split, clash, or_left, or_right, either}
use Rattle.rounds.proofs.Machine.{done_true, done_false}
use Rattle.paper.specs.Runs.{Config, Letter, message, silent, delay, initial, strip, IsCut, add, shift, successor}
use Rattle.paper.specs.Runs.{wait, Advance, synchronization, silent_advancement, premature_termination}
use Rattle.paper.specs.Runs.{time_delay, by, Run, here, step, Maximal, Satisfies, Prompt, settles}
use Rattle.paper.specs.Taken.{Unmatched, Terminates}
use Rattle.paper.specs.Demand2.{CompletedBy}
use Rattle.paper.proofs.Parts.{Silents, no_more, one, OneMessage}
use Rattle.paper.proofs.Prompts.{prompt_run, advances, synced, delayed, advanced, silents_prompt, synchronized}

module _ (C : Chart) where
  -- a delay step only shifts the clocks
  pub delay_shifts : (c z : Config) (d : ℕ) → Advance C c (delay d) z → z ≡ wait C c d
  delay_shifts c z d a = (delayed C d refl a).to

  -- there is one only where some following region's condition would hold
  pub no_delay : (c z : Config) (d : ℕ) →
      ((s : ℕ) → Ready C c.cut s → condition_of C s (shift C c.valuation d) ≡ false)
      → ¬ Advance C c (delay d) z
  no_delay c z d h a = let D = delayed C d refl a in clash D.holds (h D.region D.follows)

  -- a step over a message is the synchronization of a region that has it
  pub no_step : (c z : Config) (e : LogRecord) (d : ℕ) → Unmatched C c e
      → ¬ Advance C (wait C c d) (message e.code) z
  unfolding Unmatched
  no_step c z e d U a = let N = synced C e.code refl a in U N.region N.follows N.fits

  pub no_advancement : (c : Config) (i : ℕ) → Ready C c.cut i → condition_of C i c.valuation ≡ false
      → ¬ Advance C c silent (successor C c i)
  no_advancement c i R f a = clash (advanced C i refl refl R a).holds f

  pub not_silent : (c : Config) (i : ℕ) → Ready C c.cut i → plain C i ≡ false
      → ¬ Advance C c silent (successor C c i)
  not_silent c i R p a = clash (advanced C i refl refl R a).is_plain p

  pub no_message : (c z : Config) → ¬ Advance C c (message 0) z
  unfolding plain
  no_message c z a = let N = synced C 0 refl a in clash (eq-eqb (C.key N.region) 0 N.fits) N.is_message_case

  -- what a termination needs
  pub record Ended (c : Config) (i : ℕ) : Type 0 where
    pub cold : C.hot i ≡ false
    pub fails : condition_of C i c.valuation ≡ false

  pub some_one : {i j : ℕ} → some i ≡ some j → i ≡ j
  some_one q = cc

  -- a successor's cut is not empty
  not_initial : (c : Config) (s : ℕ) → successor C c s ≡ initial → ⊥
  unfolding add
  not_initial c s q =
      clash {b = eqb s s || c.cut s} (or_left (c.cut s) (eq-eqb s s refl))
      (ap {B = Bool} (λ (z : Config). z.cut s) q)

  ended : {c z : Config} {u : Letter} (i : ℕ) → u ≡ silent → z ≡ initial → (a : Advance C c u z) → by C a ≡ some i
      → Ended c i
  ended i q e (synchronization s R p h) b = absurd (let z : ◌≡◌ {A = ℕ} 0 1 = cc in omega arith)
  ended {c} i q e (silent_advancement s R p h) b = absurd (not_initial c s e)
  ended {c} i q e (premature_termination s R k h) b =
      let w : s ≡ i = some_one b in
      record {
        cold = subst (λ (n : ℕ). C.hot n ≡ false) w k;
        fails = subst (λ (n : ℕ). condition_of C n c.valuation ≡ false) w h;
      }
  ended i q e (time_delay d s R h) b = absurd (let z : ◌≡◌ {A = ℕ} 0 1 = cc in omega arith)

  pub terminated : (c : Config) (i : ℕ) → Terminates C c i → Ended c i
  unfolding Terminates
  terminated c i T = ended i refl refl T.0 T.1

  -- a step is that of a region that follows the cut
  pub step_follows : (c z : Config) (u : Letter) (a : Advance C c u z) (i : ℕ) → ¬ Ready C c.cut i → by C a ≢ some i
  step_follows c z u (synchronization s R p h) i n q = n (rw (some_one q) at R)
  step_follows c z u (silent_advancement s R p h) i n q = n (rw (some_one q) at R)
  step_follows c z u (premature_termination s R k h) i n q = n (rw (some_one q) at R)
  step_follows c z u (time_delay d s R h) i n q = absurd (let z : ◌≡◌ {A = ℕ} 0 1 = cc in omega arith)

  pub hot_stays : (c : Config) (i : ℕ) → So (C.hot i) → ¬ Terminates C c i
  hot_stays c i h T = clash h (terminated c i T).cold

  pub holding_stays : (c : Config) (i : ℕ) → So (condition_of C i c.valuation) → ¬ Terminates C c i
  holding_stays c i h T = clash h (terminated c i T).fails

  -- a ready region joins a cut
  cut_grows : (c : ℕ → Bool) (s : ℕ) → IsCut C c → Ready C c s → IsCut C (add C c s)
  unfolding add
  cut_grows c s K R = record {
    within = λ i h. elim (either (eqb i s) (c i) h) [ inl q ↦ rw (eqb-true i s q) R.region | inr q ↦ K.within i q ];
    closed = λ i a h b. elim (either (eqb i s) (c i) h) [
      | inl q ↦ or_right (eqb a s) (R.under a (rw (eqb-true i s q) at b))
      | inr q ↦ or_right (eqb a s) (K.closed i a q b)
    ];
  }

  nothing_is_cut : IsCut C (λ i. false)
  nothing_is_cut = record { within = λ i h. absurd (false≢true h); closed = λ i a h b. absurd (false≢true h) }

  step_is_cut : {x z : Config} {u : Letter} → IsCut C x.cut → Advance C x u z → IsCut C z.cut
  step_is_cut {x} K (synchronization s R p h) = cut_grows x.cut s K R
  step_is_cut {x} K (silent_advancement s R p h) = cut_grows x.cut s K R
  step_is_cut K (premature_termination s R p h) = nothing_is_cut
  step_is_cut K (time_delay d s R h) = K

  pub run_is_cut : {w : Snoc Letter} {z : Config} → Run C initial w z → IsCut C z.cut
  run_is_cut here = nothing_is_cut
  run_is_cut (step R a) = step_is_cut (run_is_cut R) a

  pub main_in_cut : Accepted C → (c : ℕ → Bool) (i : ℕ) → IsCut C c → C.prechart ≤ i → So (c i) → PrechartDone C c
  unfolding PrechartDone
  main_in_cut A c i K h p a l = K.closed i a p (A.halves a i l h (K.within i p))

  -- a word whose run ends in a maximal cut
  ends_here : (n : ℕ) {w : Snoc Letter} {z : Config} → Run C initial w z → Maximal C n z.cut → CompletedBy C n w
  ends_here n {w} {z} R M = record {
    satisfies = record { prefix = w; rest = ε; parts = refl; end = z; run = R; maximal = M };
    nothing_more = refl;
  }

  pub full_completes : {w : Snoc Letter} {z : Config} → Run C initial w z → Full C z.cut
      → CompletedBy C C.regions w
  unfolding Full Maximal
  full_completes R F = ends_here C.regions R (λ i. ((run_is_cut R).within i, F i))

  module _ (A : Accepted C) where
    -- of two regions with one message only one follows the cut
    pub one_ready : (c : ℕ → Bool) (s t : ℕ) → Ready C c s → Ready C c t → plain C s ≡ false → C.key s ≡ C.key t
        → s ≡ t
    unfolding plain
    one_ready c s t R Q p k = elim (ℕ_discrete s t) [
      | yes q ↦ q
      | no q ↦ elim (A.same_message s t R.region Q.region (eqb-false (C.key s) 0 p) k q) [
        | inl a ↦ clash (Q.under s a) R.unfired
        | inr a ↦ clash (R.under t a) Q.unfired
      ]
    ]

    -- the region that completes the prechart leaves exactly the prechart
    prechart_exact : (c : ℕ → Bool) (s : ℕ) → IsCut C c → Ready C c s → ¬ PrechartDone C c → PrechartDone C (add C c s)
        → Maximal C C.prechart (add C c s)
    unfolding Maximal PrechartDone add
    prechart_exact c s K R n D = λ i. (inside i, D i)
      where
        -- it is a prechart region
        lies_in : s < C.prechart
        lies_in = elim (dec_lt s C.prechart) [
          | yes l ↦ l
          | no l ↦ absurd (n (λ i h. elim (either (eqb i s) (c i) (D i h)) [
            | inl q ↦ absurd (l (rw (eqb-true i s q) at h))
            | inr q ↦ q
          ]))
        ]

        inside : (i : ℕ) → So (eqb i s || c i) → i < C.prechart
        inside i h = elim (either (eqb i s) (c i) h) [
          | inl q ↦ rw (eqb-true i s q) lies_in
          | inr q ↦ elim (dec_lt i C.prechart) [
            | yes l ↦ l
            | no l ↦ clash (K.closed i s q (A.halves s i lies_in (omega arith) (K.within i q))) R.unfired
          ]
        ]

    -- silent advancements, from a cut that has at most just completed the prechart
    silents_complete : {w : Snoc Letter} {y z : Config} → Prompt C initial w y
        → (PrechartDone C y.cut → Maximal C C.prechart y.cut)
        → Silents C y z → PrechartDone C z.cut
        → (w' : Snoc Letter) × (strip w' ≡ strip w) × Prompt C initial w' z × CompletedBy C C.prechart w'
    silents_complete {w} P exact no_more D = (w, refl, P, ends_here C.prechart (prompt_run C P) (exact D))
    silents_complete P exact (one {y} S s N c) D = elim (split (prechart_done C y.cut)) [
      | inl d ↦
          let T = silents_complete P exact S (done_true C y.cut d) in
          let F : Satisfies C C.prechart T.0 = T.3.satisfies in (
            T.0 ▸ silent,
            T.1,
            settles T.2 s N (advances C s N.follows N.is_plain c).0,
            record {
              satisfies = record {
                prefix = F.prefix;
                rest = F.rest ▸ silent;
                parts = ap {B = Snoc Letter} (λ (v : Snoc Letter). v ▸ silent) F.parts;
                end = F.end;
                run = F.run;
                maximal = F.maximal;
              };
              nothing_more = T.3.nothing_more;
            },
          )
      | inr d ↦
          let T = silents_prompt C P S in
          let E = settles T.2 s N (advances C s N.follows N.is_plain c).0 in (
            T.0 ▸ silent,
            T.1,
            E,
            ends_here C.prechart (prompt_run C E)
                (prechart_exact y.cut s (run_is_cut (prompt_run C T.2)) N.follows (done_false C y.cut d) D),
          )
    ]

    -- a chart message that completes the prechart
    pub message_completes : {w : Snoc Letter} {y z : Config} (d m : ℕ) → Prompt C initial w y
        → ¬ PrechartDone C y.cut
        → OneMessage C y d m z → PrechartDone C z.cut
        → (w' : Snoc Letter) × (strip w' ≡ strip w ▸ delay d ▸ message m) × Prompt C initial w' z
        × CompletedBy C C.prechart w'
    message_completes {w} {y} d m P n M D =
        let T = silents_complete (synchronized C P M)
        (prechart_exact y.cut M.region (run_is_cut (prompt_run C P)) M.follows n) M.silents D in
        (T.0, T.1 ∙ ap {B = Snoc Letter} (λ (k : ℕ). strip w ▸ delay d ▸ message k) M.fits, T.2, T.3)

    -- the message of a following region is that of no other
    pub no_synchronization : (c z : Config) (i : ℕ) → Ready C c.cut i → plain C i ≡ false
        → condition_of C i c.valuation ≡ false
        → ¬ Advance C c (message (C.key i)) z
    no_synchronization c z i R p f a =
        let N = synced C (C.key i) refl a in
        clash (rw (one_ready c.cut N.region i N.follows R N.is_message_case N.fits) at N.holds) f

    -- the step that completes the prechart
    step_completes : {x z : Config} {u : Letter} → IsCut C x.cut → Advance C x u z → ¬ PrechartDone C x.cut
        → PrechartDone C z.cut
        → Maximal C C.prechart z.cut
    unfolding Maximal PrechartDone
    step_completes {x} K (synchronization s R p h) n D = prechart_exact x.cut s K R n D
    step_completes {x} K (silent_advancement s R p h) n D = prechart_exact x.cut s K R n D
    step_completes K (premature_termination s R k h) n D = λ i. (λ b. absurd (false≢true b), D i)
    step_completes K (time_delay d s R h) n D = absurd (n D)

    -- a run that has every prechart region has completed the prechart
    pub done_satisfies : {w : Snoc Letter} {z : Config} → Run C initial w z → PrechartDone C z.cut
        → Satisfies C C.prechart w
    unfolding Maximal PrechartDone
    done_satisfies here D = record {
      prefix = ε;
      rest = ε;
      parts = refl;
      end = initial;
      run = here;
      maximal = λ i. (λ b. absurd (false≢true b), D i);
    }
    done_satisfies (step {w} {y} {u} {z} R a) D = elim (split (prechart_done C y.cut)) [
      | inl d ↦
          let F : Satisfies C C.prechart w = done_satisfies R (done_true C y.cut d) in
          record {
            prefix = F.prefix;
            rest = F.rest ▸ u;
            parts = ap {B = Snoc Letter} (λ (v : Snoc Letter). v ▸ u) F.parts;
            end = F.end;
            run = F.run;
            maximal = F.maximal;
          }
      | inr d ↦ record {
        prefix = w ▸ u;
        rest = ε;
        parts = refl;
        end = z;
        run = step R a;
        maximal = step_completes (run_is_cut R) a (done_false C y.cut d) D;
      }
    ]

    -- where a main region follows the cut, the prechart is done
    pub main_follows : (c : ℕ → Bool) (i : ℕ) → Ready C c i → ¬ (i < C.prechart) → PrechartDone C c
    unfolding PrechartDone
    main_follows c i R n = λ a h. R.under a (A.halves a i h (omega arith) R.region)
