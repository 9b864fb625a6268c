-- The test of a break and its cause is that of M10; a term of the chart is one whose word is not 0. Assumes nothing.
use mathlib.Core.Path.{◌≡◌, ap, ◌∙◌}
use mathlib.Core.Logic.{◌⊎◌, inl, inr}
use mathlib.Core.Bool.{false, not, So, ◌&&◌}
use Prim.Native.Nat.{ℕ, ◌+◌, ◌*◌, ◌-◌, ◌≤◌, ◌<◌}
use native.Mathlib.Decide.{dec_lt}
use native.Mathlib.Omega.{arith}
use borrow.Author.Tests.{leb-true, le-leb, lt-leb, lt-ltb, le-ltb, eqb-true, eq-eqb, not-false}
use lib.Dec.{eqb, leb, ltb}
use lib.ListN.{get_or}
use Rattle.model.specs.declared.Cause.{Cause}
use Rattle.model.specs.declared.Break.{Break}
use Rattle.model.specs.Chart.{most_terms}
use Rattle.model.specs.Monitor.{no_cause}
use Rattle.base.proofs.Bools.{and_both, and_left, and_right, or_left, or_right, either}
use Rattle.base.proofs.Facts.{count_bound, count_below_lem}
use Rattle.rounds.specs.Chart.{Chart as Abstract}
use Rattle.rounds.specs.Feeds.{no_ready_region, condition_fails}
use Rattle.rounds.specs.Machine.{CauseIn}
use Rattle.layout.specs.declared.compiled.Plan.{Plan}
use Rattle.layout.specs.View.{terms_by}
use Rattle.layout.specs.Plans.{chart_of_plan}
use Rattle.layout.proofs.Plans.{compiled}
use Rattle.monitor.specs.Fit.{is_zero, cause_fits, break_fits}

zero_of : (x : Cause) → So (is_zero x) → x ≡ no_cause
zero_of x e =
    let r = eqb-true _ _ (and_left (eqb x.region 0) _ e) in
    let t = eqb-true _ _ (and_right (eqb x.region 0) _ e) in
    λ i. record { region = r i; term = t i }

of_zero : (x : Cause) → x ≡ no_cause → So (is_zero x)
of_zero x e = rw e

module _ (C : Abstract) where
  cause_in : (x : Cause) → So (cause_fits C x) → CauseIn C x
  unfolding cause_fits
  cause_in x e =
      let e₁ = and_right (leb 1 x.region) _ e in
      let e₂ = and_right (leb x.region C.regions) _ e₁ in
      let a : 1 ≤ x.region = leb-true _ _ (and_left (leb 1 x.region) _ e) in
      let b : x.region ≤ C.regions = leb-true _ _ (and_left (leb x.region C.regions) _ e₁) in
      let same : x.region ≡ x.region - 1 + 1 = omega arith in
      record {
        region = x.region - 1;
        term = x.term;
        is_region = omega arith;
        is_term_case = (leb-true _ _ (and_left (leb 1 x.term) _ e₂), leb-true _ _ (and_right (leb 1 x.term) _ e₂));
        both = λ i. record { region = same i; term = x.term };
      }

  of_cause : (x : Cause) → CauseIn C x → So (cause_fits C x)
  unfolding cause_fits
  of_cause x K =
      let r : x.region ≡ K.region + 1 = ap (λ (z : Cause). z.region) K.both in
      let t : x.term ≡ K.term = ap (λ (z : Cause). z.term) K.both in
      let i : K.region + 1 - 1 ≡ K.region = omega arith in
      let a : 1 ≤ K.region + 1 = omega arith in
      let b : K.region + 1 ≤ C.regions = omega (arith, K.is_region) in
      rw (
        r,
        t,
        i,
        le-leb 1 (K.region + 1) a,
        le-leb (K.region + 1) C.regions b,
        le-leb 1 K.term K.is_term_case.0,
        le-leb K.term (C.terms K.region) K.is_term_case.1,
      )

  module _ (records : ℕ) (b : Break) where
    abbrev Breaks : Type 0
    Breaks = ((b.at ≡ 0) × (b.reason ≡ 0) × (b.cause ≡ no_cause))
        ⊎ ((1 ≤ b.at) × (b.at ≤ records)
        × (((b.reason ≡ no_ready_region) × (b.cause ≡ no_cause)) ⊎ ((b.reason ≡ condition_fails) × CauseIn C b.cause)))

    pub break_of : So (break_fits C records b) → Breaks
    unfolding break_fits
    break_of e = elim (either (eqb b.at 0 && (eqb b.reason 0 && is_zero b.cause)) _ e) [
      | inl p ↦
          let q = and_right (eqb b.at 0) _ p in
          inl (
            eqb-true _ _ (and_left (eqb b.at 0) _ p),
            eqb-true _ _ (and_left (eqb b.reason 0) _ q),
            zero_of b.cause (and_right (eqb b.reason 0) _ q),
          )
      | inr p ↦
          let q = and_right (leb 1 b.at) _ p in
          inr (
            leb-true _ _ (and_left (leb 1 b.at) _ p),
            leb-true _ _ (and_left (leb b.at records) _ q),
            elim (either (eqb b.reason no_ready_region && is_zero b.cause) _
                (and_right (leb b.at records) _ q)) [
                  | inl x ↦ inl (
                    eqb-true _ _ (and_left (eqb b.reason no_ready_region) _ x),
                    zero_of b.cause (and_right (eqb b.reason no_ready_region) _ x),
                  )
                  | inr x ↦ inr (
                    eqb-true _ _ (and_left (eqb b.reason condition_fails) _ x),
                    cause_in b.cause (and_right (eqb b.reason condition_fails) _ x),
                  )
                ],
          )
    ]

    pub of_break : Breaks → So (break_fits C records b)
    unfolding break_fits
    of_break (inl p) =
        or_left _ (and_both (eq-eqb _ _ p.0) (and_both (eq-eqb _ _ p.1) (of_zero b.cause p.2)))
    of_break (inr p) =
        or_right (eqb b.at 0 && (eqb b.reason 0 && is_zero b.cause))
        (and_both (le-leb _ _ p.0) (and_both (le-leb _ _ p.1) (elim p.2 [
          | inl x ↦ or_left _ (and_both (eq-eqb _ _ x.0) (of_zero b.cause x.1))
          | inr x ↦
              or_right (eqb b.reason no_ready_region && is_zero b.cause)
              (and_both (eq-eqb _ _ x.0) (of_cause b.cause x.1))
        ])))

-- a term counted from 1 is among n terms if, counted from 0, it is below n
from_zero : (t n : ℕ) → 1 ≤ t → ltb (t - 1) n ≡ leb t n
from_zero t n h = elim (dec_lt (t - 1) n) [
  | yes l ↦ let k : t ≤ n = omega arith in rw (lt-ltb (t - 1) n l, le-leb t n k)
  | no l ↦ let m : n ≤ t - 1 = omega arith in let k : n < t = omega arith in rw (le-ltb (t - 1) n m, lt-leb t n k)
]

-- the cause by the words of a plan
module _ (p : Plan) (x : Cause) where
  pub no_region : (x.region ≡ 0) ⊎ (p.head.count < x.region) → false ≡ cause_fits (chart_of_plan p) x
  unfolding cause_fits
  no_region (inl z) = rw z
  no_region (inr l) = let a : 1 ≤ x.region = omega arith in
      rw (le-leb 1 x.region a, lt-leb x.region p.head.count l)

  module _ (z : ¬ (x.region ≡ 0)) (l : x.region ≤ p.head.count) where
    some_region : 1 ≤ x.region
    some_region = omega (arith, z)

    pub no_term : (x.term ≡ 0) ⊎ (most_terms < x.term) → false ≡ cause_fits (chart_of_plan p) x
    unfolding cause_fits
    no_term (inl t) = rw (le-leb 1 x.region some_region, le-leb x.region p.head.count l, t)
    no_term (inr k) =
        let a : 1 ≤ x.term = omega arith in
        let b : terms_by p.terms (x.region - 1) < x.term = omega (
          arith,
          count_bound most_terms
              (λ j. not (eqb (get_or p.terms ((x.region - 1) * most_terms + j) 0) 0)),
        ) in
        rw (
          le-leb 1 x.region some_region,
          le-leb x.region p.head.count l,
          le-leb 1 x.term a,
          lt-leb x.term (terms_by p.terms (x.region - 1)) b,
        )

    pub by_word : ¬ (x.term ≡ 0) → x.term ≤ most_terms
        → not (eqb (get_or p.terms ((x.region - 1) * most_terms + (x.term - 1)) 0) 0)
        ≡ cause_fits (chart_of_plan p) x
    unfolding cause_fits
    by_word s b =
        let a : 1 ≤ x.term = omega (arith, s) in
        let k : x.term - 1 < most_terms = omega arith in
        rw (le-leb 1 x.region some_region, le-leb x.region p.head.count l, le-leb 1 x.term a)
        (count_below_lem most_terms (λ j. not (eqb (get_or p.terms ((x.region - 1) * most_terms + j) 0) 0)) closed (x.term - 1) k
        ∙ from_zero x.term (terms_by p.terms (x.region - 1)) a)
      where
        closed : (j k : ℕ) → j ≤ k → k < most_terms
            → not (eqb (get_or p.terms ((x.region - 1) * most_terms + j) 0) 0) ≡ false
            → not (eqb (get_or p.terms ((x.region - 1) * most_terms + k) 0) 0) ≡ false
        closed j k q r e = rw ((compiled p).words.ends (x.region - 1) j k q r (eqb-true _ _ (not-false _ e)))
