-- Yes and no beside judging. Assumes nothing.
use mathlib.Core.Path.{◌≡◌, refl, sym, ap, subst, ◌∙◌}
use mathlib.Core.Logic.{◌≢◌, inl, inr, ◌↔◌}
use mathlib.Core.Bool.{true, false}
use mathlib.Core.List.{List}
use Prim.Native.Nat.{ℕ}
use native.Mathlib.Decide.{ℕ_discrete}
use native.Mathlib.Omega.{arith}
use Rattle.model.specs.declared.Chart.{Chart}
use Rattle.model.specs.declared.Record.{Record}
use Rattle.model.specs.Answers.{not_a_chart}
use Rattle.base.specs.Lists.{Snoc}
use Rattle.base.proofs.Bools.{split}
use Rattle.chart_value.specs.Given.{Given}
use Rattle.chart_value.specs.View.{chart_of}
use Rattle.chart_value.specs.WellFormed.{well_formed}
use Rattle.chart_value.specs.Records.{logged}
use Rattle.chart_value.proofs.Sound.{sound as reads-fine}
use Rattle.rounds.specs.Machine.{after}
use Rattle.log_reader.specs.declared.RecordRefusal.TheVariants.{CutShort, UnknownByte}
use Rattle.log_clock.specs.declared.MomentRefusal.TheVariants.{Mixed, Falls, TooLate}
use Rattle.log_clock.specs.Records.{records_in}
use Rattle.log_check.specs.declared.LogRefusal.{LogRefusal}
use Rattle.log_check.specs.declared.LogRefusal.TheVariants.{NoRecord, NoMoment, TooManyRecords}
use Rattle.std.specs.Prelude.{Ok, Err}
use Rattle.log_check.specs.Refusal.{log_refusal_number, Checked}
use Rattle.log_check.specs.Check.{check_log}
use Rattle.log_check.specs.Sound.{sound_records}
use Rattle.log_check.proofs.Laws.{is_fine}
use Rattle.log_check.proofs.Sound.{all_sound}
use Rattle.judge.specs.Said as judge
use Rattle.judge.specs.Judge.{by_check, judge_of}
use Rattle.breaks.specs.Numbers.{BreakAnswer, break_number, break_offset}
use Rattle.breaks.specs.Breaks.{by_fault, answer_by, breaks_of}
use Rattle.claims.specs.Demand1.{JudgesAs}
use Rattle.claims.specs.Demand1 as judging
use Rattle.claims.proofs.Judging.{judges_just}
use Rattle.break_claims.specs.Breaks as case
use Rattle.break_claims.specs.Breaks.{Broken, BreaksAs}
use Rattle.break_claims.proofs.Breaking.{unbroken_by, broken_by, breaks_just}

no_zero : (k : LogRefusal) → log_refusal_number k ≢ 0
no_zero (NoRecord CutShort) z = omega (arith, z)
no_zero (NoRecord UnknownByte) z = omega (arith, z)
no_zero (NoMoment Mixed) z = omega (arith, z)
no_zero (NoMoment Falls) z = omega (arith, z)
no_zero (NoMoment TooLate) z = omega (arith, z)
no_zero TooManyRecords z = omega (arith, z)

-- beside judging
module _ (c : Chart) (s : List ℕ) where
  fine_yes : (n : ℕ) → check_log s ≡ Ok n
      → (answer_by (after (chart_of c) (logged (sound_records s))) (Ok n) ≡ Ok true) ↔ Broken c (records_in s)
  fine_yes n e =
      let q : sound_records s ≡ records_in s = all_sound s (ap is_fine e) in
      subst (λ (es : Snoc Record). (answer_by (after (chart_of c) (logged (sound_records s))) (Ok n) ≡ Ok true)
      ↔ Broken c es) q (
        (λ y z. let w : ◌≡◌ {A = BreakAnswer} (Ok false) (Ok true) = sym (unbroken_by c s (sound_records s) z (Ok n)) ∙ y in
            let v : ◌≡◌ {A = ℕ} 0 1 = cc in omega arith),
        λ b. broken_by c s (sound_records s) b (Ok n),
      )

  as_judged : (judge_of c s).number ≡ 0 → (breaks_of c s ≡ Ok true) ↔ ((judge_of c s).verdict.broken ≢ 0)
  unfolding judge_of breaks_of
  as_judged = elim (split (well_formed c)) [
    | inl w ↦ rw w (by (check_log s) refl)
    | inr w ↦ rw w (λ z. absurd (omega (arith, z)))
  ]
    where
      by : (x : Checked) → check_log s ≡ x → (by_check c s x).number ≡ 0
          → (answer_by (after (chart_of c) (logged (sound_records s))) x ≡ Ok true) ↔ ((by_check c s x).verdict.broken ≢ 0)
      by (Ok n) e z = fine_yes n e
      by (Err f) e z = absurd (no_zero f.why z)

  as_refused : breaks_of c s ≢ Ok true
      → (break_number (breaks_of c s) ≡ (judge_of c s).number) × (break_offset (breaks_of c s) ≡ (judge_of c s).offset)
  unfolding judge_of breaks_of
  as_refused = elim (split (well_formed c)) [ inl w ↦ rw w by | inr w ↦ rw w (λ n. (refl, refl)) ]
    where
      same : (x : Checked) → (break_number (by_fault x) ≡ (by_check c s x).number)
          × (break_offset (by_fault x) ≡ (by_check c s x).offset)
      same (Ok n) = (refl, refl)
      same (Err f) = (refl, refl)

      by : answer_by (after (chart_of c) (logged (sound_records s))) (check_log s) ≢ Ok true
          → (break_number (answer_by (after (chart_of c) (logged (sound_records s))) (check_log s))
          ≡ (by_check c s (check_log s)).number)
          × (break_offset (answer_by (after (chart_of c) (logged (sound_records s))) (check_log s))
          ≡ (by_check c s (check_log s)).offset)
      by n = elim (ℕ_discrete (after (chart_of c) (logged (sound_records s))).tally.broken.at 0) [
        | yes z ↦
            subst (λ (a : BreakAnswer). (break_number a ≡ (by_check c s (check_log s)).number)
            × (break_offset a ≡ (by_check c s (check_log s)).offset))
            (sym (unbroken_by c s (sound_records s) z (check_log s))) (same (check_log s))
        | no b ↦ absurd (n (broken_by c s (sound_records s) b (check_log s)))
      ]

  module _ (G : (well_formed c ≡ true) ↔ Given c) (r : judge.Said) (b : BreakAnswer) (J : JudgesAs c s r)
      (B : BreaksAs c s b) where
    is_judged : r ≡ judge_of c s
    is_judged = (judges_just c G s (judge_of c s) refl).only r J

    is_asked : b ≡ breaks_of c s
    is_asked = (breaks_just c s G (breaks_of c s) refl).only b B

    pub beside_judged : r.number ≡ 0 → (b ≡ Ok true) ↔ (r.verdict.broken ≢ 0)
    beside_judged z =
        subst (λ (x : judge.Said). (b ≡ Ok true) ↔ (x.verdict.broken ≢ 0)) (sym is_judged)
        (subst (λ (a : BreakAnswer). (a ≡ Ok true) ↔ ((judge_of c s).verdict.broken ≢ 0)) (sym is_asked)
        (as_judged (sym (ap (λ (x : judge.Said). x.number) is_judged) ∙ z)))

    pub beside_refused : b ≢ Ok true → (break_number b ≡ r.number) × (break_offset b ≡ r.offset)
    beside_refused n =
        let R = as_refused (λ z. n (is_asked ∙ z)) in (
          ap break_number is_asked ∙ R.0 ∙ ap (λ (x : judge.Said). x.number) (sym is_judged),
          ap break_offset is_asked ∙ R.1 ∙ ap (λ (x : judge.Said). x.offset) (sym is_judged),
        )

-- where judging was given a chart the test is that of the chart
given_test : (c : Chart) → Given c → (well_formed c ≡ true) ↔ Given c
given_test c g = ((λ w. g), λ h. (reads-fine h.bytes c h.accepted).fine)

pub breaks_judged : (c : Chart) (s : List ℕ) (r : judge.Said) (b : BreakAnswer) → JudgesAs c s r → BreaksAs c s b
    → r.number ≡ 0 → (b ≡ Ok true) ↔ (r.verdict.broken ≢ 0)
breaks_judged c s r b (judging.not_given n) B z = absurd (omega (arith, z))
breaks_judged c s r b (judging.refuses g W f F) B z =
    beside_judged c s (given_test c g) r b (judging.refuses g W f F) B z
breaks_judged c s r b (judging.judges g W F) B z =
    beside_judged c s (given_test c g) r b (judging.judges g W F) B z

pub breaks_refused : (c : Chart) (s : List ℕ) (r : judge.Said) (b : BreakAnswer) → JudgesAs c s r → BreaksAs c s b
    → b ≢ Ok true → (break_number b ≡ r.number) × (break_offset b ≡ r.offset)
breaks_refused c s r b (judging.not_given n) B z = none B z
  where
    none : {a : BreakAnswer} → BreaksAs c s a → a ≢ Ok true → (break_number a ≡ not_a_chart) × (break_offset a ≡ 0)
    none (case.not_given m) y = (refl, refl)
    none (case.refuses g W u f F) y = absurd (n g)
    none (case.breaks g e W u v) y = absurd (n g)
    none (case.ends g W u F) y = absurd (n g)
breaks_refused c s r b (judging.refuses g W f F) B z =
    beside_refused c s (given_test c g) r b (judging.refuses g W f F) B z
breaks_refused c s r b (judging.judges g W F) B z =
    beside_refused c s (given_test c g) r b (judging.judges g W F) B z
