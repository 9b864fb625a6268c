-- A plan is compiled: its ghost field says only that this is so, and each part follows from that. Assumes nothing.
use mathlib.Core.Path.{◌≡◌}
use mathlib.Core.Logic.{◌⊎◌, inl, inr, ∥∥₁_elim}
use mathlib.Core.HLevel.{⊥_prop}
use mathlib.Core.Bool.{So, Bool-set}
use Prim.Native.Nat.{ℕ, ◌≤◌, ◌<◌}
use native.Mathlib.Omega.{arith}
use native.Mathlib.Decide.{dec_lt}
use native.Mathlib.Nat.{ℕ_set}
use lib.ListN.{get_or}
use Rattle.std.specs.Prelude.{◌≢◌}
use Rattle.std.specs.Coded.{le_prop}
use Rattle.model.specs.Chart.{most_clocks, most_regions}
use Rattle.base.specs.Lists.{first}
use Rattle.base.proofs.Bools.{split, clash}
use Rattle.base.proofs.Facts.{found, first_none, first_some}
use Rattle.rounds.specs.Chart.{Accepted}
use Rattle.layout.specs.declared.compiled.Plan.{Plan}
use Rattle.layout.specs.View.{second_of, InChart, Words, Within, Compiled}
use Rattle.layout.specs.Plans.{chart_of_plan}

module _ (p : Plan) where
  regions : p.head.count ≤ most_regions
  regions = ∥∥₁_elim p.compiled le_prop (λ K. K.regions)

  clocks : p.head.clocks ≤ most_clocks
  clocks = ∥∥₁_elim p.compiled le_prop (λ K. K.clocks)

  within : Within p.head.count p.head.plain
  within = record {
    few = regions;
    own = λ i m. ∥∥₁_elim p.compiled le_prop (λ K. K.within.own i m);
  }

  in_chart : (k : ℕ) → ¬ (get_or p.terms k 0 ≡ 0) → InChart p.head.clocks (get_or p.terms k 0)
  in_chart k z = record {
    first = ∥∥₁_elim p.compiled le_prop (λ K. (K.words.named k z).first);
    second = elim (dec_lt (second_of (get_or p.terms k 0)) p.head.clocks) [
      | yes l ↦ inl l
      | no l ↦ inr (∥∥₁_elim p.compiled le_prop
          (λ K. elim (K.words.named k z).second [ inl m ↦ absurd (l m) | inr m ↦ m ]))
    ];
  }

  words : Words p.head.clocks p.terms
  words = record {
    named = in_chart;
    ends = λ i j k l m e. ∥∥₁_elim p.compiled (ℕ_set _ _) (λ K. K.words.ends i j k l m e);
  }

  same_message : (a b : ℕ) → a < p.head.count → b < p.head.count → (chart_of_plan p).key a ≢ 0
      → (chart_of_plan p).key a ≡ (chart_of_plan p).key b → a ≢ b
      → So ((chart_of_plan p).above a b) ⊎ So ((chart_of_plan p).above b a)
  same_message a b l m z e n = elim (split ((chart_of_plan p).above a b)) [
    | inl s ↦ inl s
    | inr s ↦ inr (∥∥₁_elim p.compiled (Bool-set _ _)
        (λ K. elim (K.accepted.same_message a b l m z e n) [ inl t ↦ clash t s | inr t ↦ t ]))
  ]

  -- the lowest region above it
  plain_below : (i : ℕ) → i < p.head.count → (chart_of_plan p).key i ≡ 0
      → (a : ℕ) × So ((chart_of_plan p).above a i)
  plain_below i l z = elim (found (first i (λ a. (chart_of_plan p).above a i))) [
    | inl n ↦ absurd (∥∥₁_elim p.compiled ⊥_prop (λ K.
        let q = K.accepted.plain_below i l z in
        clash q.1 (first_none i (λ a. (chart_of_plan p).above a i) n q.0 (K.accepted.downward q.0 i q.1))))
    | inr f ↦ (f.0, (first_some i (λ a. (chart_of_plan p).above a i) f.0 f.1).passes)
  ]

  accepted : Accepted (chart_of_plan p)
  accepted = record {
    downward = λ a b s. ∥∥₁_elim p.compiled le_prop (λ K. K.accepted.downward a b s);
    transitive = λ a b c s t. ∥∥₁_elim p.compiled (Bool-set _ _) (λ K. K.accepted.transitive a b c s t);
    same_message = same_message;
    halves = λ a b l m n. ∥∥₁_elim p.compiled (Bool-set _ _) (λ K. K.accepted.halves a b l m n);
    plain_below = plain_below;
    has_main = ∥∥₁_elim p.compiled le_prop (λ K. K.accepted.has_main);
    cold_prechart = λ i l. ∥∥₁_elim p.compiled (Bool-set _ _) (λ K. K.accepted.cold_prechart i l);
    own_clocks = λ i c s. ∥∥₁_elim p.compiled le_prop (λ K. K.accepted.own_clocks i c s);
    own_terms = λ i v. ∥∥₁_elim p.compiled le_prop (λ K. K.accepted.own_terms i v);
  }

  pub compiled : Compiled p.head p.keys p.above p.resets p.terms
  compiled = record {
    regions = regions;
    clocks = clocks;
    plain = λ i l. ∥∥₁_elim p.compiled (Bool-set _ _) (λ K. K.plain i l);
    within = within;
    words = words;
    accepted = accepted;
  }

  pub prechart_few : p.head.prechart ≤ most_regions
  prechart_few = omega (arith, regions, accepted.has_main)
