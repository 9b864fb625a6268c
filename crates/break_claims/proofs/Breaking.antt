-- The cases of yes and no are those of the definition. Assumes nothing.
use mathlib.Core.Path.{◌≡◌, refl, sym, ap, subst, ◌∙◌}
use mathlib.Core.Logic.{inl, inr, ◌↔◌}
use mathlib.Core.Bool.{Bool, true, false, cond}
use mathlib.Core.List.{List}
use Prim.Native.Nat.{ℕ, zero, suc, ◌+◌, ◌-◌, ◌≤◌}
use native.Mathlib.Decide.{ℕ_discrete}
use native.Mathlib.Omega.{arith}
use native.Mathlib.Numerals.{add-one}
use borrow.Author.Tests.{ltb-true, ltb-false, leb-true, leb-false, le-ltb, lt-leb, eq-eqb, ne_eqb}
use lib.Dec.{leb, ltb}
use lib.ListN.{length}
use Rattle.model.specs.declared.Chart.{Chart}
use Rattle.model.specs.declared.Moment.{Moment}
use Rattle.model.specs.declared.Record.{Record}
use Rattle.model.specs.Answers.{most_records}
use Rattle.model.specs.Monitor.{time_of}
use Rattle.base.specs.Lists.{Snoc, ε, ◌▸◌, size}
use Rattle.base.proofs.Bools.{split, clash}
use Rattle.chart_value.specs.Given.{Given}
use Rattle.chart_value.specs.View.{chart_of}
use Rattle.chart_value.specs.WellFormed.{well_formed}
use Rattle.chart_value.specs.Records.{logged}
use Rattle.rounds.specs.Machine.{Monitor as AbstractMonitor, after}
use Rattle.log_clock.specs.declared.Kind.{Kind}
use Rattle.log_clock.specs.declared.Kind.TheVariants.{Unset}
use Rattle.log_clock.specs.declared.MomentRefusal.TheVariants.{Falls}
use Rattle.log_clock.specs.Dated.{DatedRead, dated_at}
use Rattle.log_clock.proofs.Records.{dated_past}
use Rattle.log_check.specs.declared.LogRefusal.{LogRefusal}
use Rattle.log_check.specs.declared.LogRefusal.TheVariants.{NoRecord, NoMoment, TooManyRecords}
use Rattle.std.specs.Prelude.{None, Ok, Err}
use Rattle.log_check.specs.declared.JudgeRefusal.TheVariants.{Log}
use Rattle.log_check.specs.Check.{Over, Going}
use Rattle.log_check.specs.Refusal.{log_refusal_number, fault, Checked}
use Rattle.log_check.specs.Check.{step_by, step_at, continue_by, check_from, check_log}
use Rattle.log_check.specs.Sound.{on_taken, on_sound, sound_from, sound_records}
use Rattle.log_check.proofs.Laws.{came_to, Went, left_step}
use Rattle.log_check.proofs.Sound.{sound_over, sound_going}
use Rattle.log_pass.proofs.Fed.{still}
use Rattle.breaks.specs.Numbers.{BreakAnswer}
use Rattle.breaks.specs.Breaks.{by_fault, answer_by, breaks_of}
use Rattle.base.specs.Just.{Just}
use Rattle.log_claims.specs.Logs.{ends, Walk, start, step, no_record, overflows}
use Rattle.log_claims.proofs.Logs.{moment, comes_dated, Seen, sees_end, sees_none, sees_fault, sees_record, seen}
use Rattle.log_claims.proofs.Logs.{took, walked, ended, fault_ends, walk_fine}
use Rattle.log_claims.proofs.Refusals.{number_tells}
use Rattle.break_claims.specs.Breaks as case
use Rattle.break_claims.specs.Breaks.{Broken, Unbroken, BreaksAs}

-- the records walked are sound, and those left are the rest of the sound ones
record Sound (s : List ℕ) (es : Snoc Record) (k : Kind) (at last : ℕ) : Type 0 where
  more : ℕ
  room : length s ≤ at + more
  rest : sound_from more s at k (moment last) (size es) es ≡ sound_records s

module _ (s : List ℕ) where
  sound : {es : Snoc Record} {k : Kind} {at last : ℕ} → Walk s es k at last → Sound s es k at last
  unfolding sound_records
  sound start = record { more = length s; room = omega arith; rest = refl }
  sound (step {es} {k} {at} {last} W e kind p C n) =
      let S = sound W in
      let D = comes_dated s at last k e kind p (walked s W).first C in
      let l = dated_past s at k (moment last) e kind p D.dated_there in
      let m : S.more ≡ suc (S.more - 1) = omega (arith, l, S.room) in
      let a = le-ltb (time_of e).0 last D.later in
      let b = lt-leb most_records (size es) n in
      let T : Went s at k (moment last) (size es) p kind (time_of e) (size es + 1) = record {
        e = e;
        found = D.dated_there;
        is_time = refl;
        is_count = refl;
        later = a;
        few = b;
      } in
      record {
        more = S.more - 1;
        room = omega (arith, l, S.room);
        rest =
            subst (λ (j : ℕ). sound_from (S.more - 1) s p kind (time_of e) j (es ▸ e) ≡ sound_records s) (add-one (size es))
            (sym (sound_going s at k (moment last) (size es) es (S.more - 1) p kind (time_of e) (size es + 1)
            (took s at k (moment last) (size es) e kind p D.dated_there false false a b) T)
            ∙ ap (λ (f : ℕ). sound_from f s at k (moment last) (size es) es) (sym m)
            ∙ S.rest);
      }

  -- where the check is over they are all
  all_walked : {es : Snoc Record} {k : Kind} {at last : ℕ} → Walk s es k at last → (c : Checked)
      → step_at s at k (moment last) (size es) ≡ Over c → sound_records s ≡ es
  all_walked {es} {k} {at} {last} W c q =
      sym (sound W).rest ∙ sound_over s at k (moment last) (size es) es (sound W).more c q

module _ (c : Chart) (s : List ℕ) where
  abbrev monitor : Snoc Record → AbstractMonitor
  monitor es = after (chart_of c) (logged es)

  -- by the records before the first fault, and by the check
  pub unbroken_by : (es : Snoc Record) → Unbroken c es → (x : Checked) → answer_by (monitor es) x ≡ by_fault x
  unbroken_by es u x = rw (eq-eqb (monitor es).tally.broken.at 0 u)

  pub broken_by : (es : Snoc Record) → Broken c es → (x : Checked) → answer_by (monitor es) x ≡ Ok true
  broken_by es b x = rw (ne_eqb (monitor es).tally.broken.at 0 b)

  -- every sound record was taken: fault, break or end
  module _ (g : Given c) where
    run : (f : ℕ) (es : Snoc Record) (at : ℕ) (k : Kind) (last : Moment) → Walk s es k at last.0 → Unbroken c es
        → length s ≤ at + f
        → BreaksAs c s (answer_by (monitor (sound_from f s at k last (size es) es)) (check_from (suc f) s at k last (size es)))
    unfolding sound_from check_from step_at
    run zero es at k last W u h =
        subst (λ (d : DatedRead). BreaksAs c s (answer_by (monitor es)
        (continue_by (check_from zero s) (step_by at last (size es) d)))) (sym (ended s at k last (ends (omega arith))))
        (subst (BreaksAs c s) (sym (unbroken_by es u (Ok (size es)))) (case.ends g W u (ends (omega arith))))
    run (suc f) es at k last W u h =
        by (dated_at s at k last) refl (seen s at last.0 k) (λ ds p j t X v l. run f ds p j t X v l)
      where
        by : (d : DatedRead) → dated_at s at k last ≡ d → Seen s at last.0 k d
            → ((ds : Snoc Record) (q : ℕ) (j : Kind) (t : Moment) → Walk s ds j q t.0 → Unbroken c ds → length s ≤ q + f
            → BreaksAs c s (answer_by (monitor (sound_from f s q j t (size ds) ds)) (check_from (suc f) s q j t (size ds))))
            → BreaksAs c s (answer_by (monitor (on_sound (sound_from f s) es at last (size es) d))
            (continue_by (check_from (suc f) s) (step_by at last (size es) d)))
        by d q (sees_end F) i =
            subst (BreaksAs c s) (sym (unbroken_by es u (Ok (size es)))) (case.ends g W u F)
        by d q (sees_none r F) i =
            subst (BreaksAs c s) (sym (unbroken_by es u (Err (fault (NoRecord r) at))))
            (case.refuses g W u (NoRecord r) (no_record k _ F))
        by d q (sees_fault r F) i =
            subst (BreaksAs c s) (sym (unbroken_by es u (Err (fault (NoMoment r) at))))
            (case.refuses g W u (NoMoment r) (F es))
        by d q (sees_record e kind p C N) i =
            tests (ltb (time_of e).0 last.0) (leb most_records (size es)) refl refl
          where
            after_it : (a : ltb (time_of e).0 last.0 ≡ false) (b : leb most_records (size es) ≡ false)
                → BreaksAs c s (answer_by (monitor (sound_from f s p kind (time_of e) (size (es ▸ e)) (es ▸ e)))
                (check_from (suc f) s p kind (time_of e) (size (es ▸ e))))
            after_it a b = elim (ℕ_discrete (monitor (es ▸ e)).tally.broken.at 0) [
              | yes z ↦
                  i (es ▸ e) p kind (time_of e) (step W e kind p (C (ltb-false _ _ a)) (leb-false _ _ b)) z
                  (omega (arith, dated_past s at k last e kind p q))
              | no z ↦
                  let w = still (chart_of c) f s p kind (time_of e) (size (es ▸ e)) (es ▸ e) z in
                  let y : Broken c (sound_from f s p kind (time_of e) (size (es ▸ e)) (es ▸ e))
                  = λ v. z (sym (ap (λ (m : AbstractMonitor). m.tally.broken.at) w) ∙ v) in
                  subst (BreaksAs c s)
                  (sym (broken_by (sound_from f s p kind (time_of e) (size (es ▸ e)) (es ▸ e)) y
                  (check_from (suc f) s p kind (time_of e) (size (es ▸ e)))))
                  (case.breaks g e (step W e kind p (C (ltb-false _ _ a)) (leb-false _ _ b)) u z)
            ]

            tests : (a b : Bool) → ltb (time_of e).0 last.0 ≡ a → leb most_records (size es) ≡ b
                → BreaksAs c s (answer_by (monitor (on_taken (λ p j t m. sound_from f s p j t m (es ▸ e)) es
                (cond a (Over (Err (fault (NoMoment Falls) at)))
                (cond b (Over (Err (fault TooManyRecords at))) (Going p kind (time_of e) (size es + 1))))))
                (continue_by (check_from (suc f) s)
                (cond a (Over (Err (fault (NoMoment Falls) at)))
                (cond b (Over (Err (fault TooManyRecords at))) (Going p kind (time_of e) (size es + 1))))))
            tests true b x y =
                subst (BreaksAs c s) (sym (unbroken_by es u (Err (fault (NoMoment Falls) at))))
                (case.refuses g W u (NoMoment Falls) (N (ltb-true _ _ x) (walked s W).first es))
            tests false true x y =
                subst (BreaksAs c s) (sym (unbroken_by es u (Err (fault TooManyRecords at))))
                (case.refuses g W u TooManyRecords (overflows k e kind p (C (ltb-false _ _ x)) (leb-true _ _ y)))
            tests false false x y =
                subst (λ (n : ℕ). BreaksAs c s (answer_by (monitor (sound_from f s p kind (time_of e) n (es ▸ e)))
                (check_from (suc f) s p kind (time_of e) n))) (sym (add-one (size es))) (after_it x y)

    whole : BreaksAs c s (answer_by (monitor (sound_records s)) (check_log s))
    unfolding sound_records check_log after
    whole =
        let m : suc (length s) ≡ length s + 1 = omega arith in
        subst (λ (f : ℕ). BreaksAs c s (answer_by (monitor (sound_from (length s) s 0 Unset (moment 0) 0 ε))
        (check_from f s 0 Unset (moment 0) 0))) m (run (length s) ε 0 Unset (moment 0) start refl (omega arith))

  module _ (G : (well_formed c ≡ true) ↔ Given c) where
    breaks_as : BreaksAs c s (breaks_of c s)
    unfolding breaks_of
    breaks_as = elim (split (well_formed c)) [
      | inl w ↦ rw w (whole (G.0 w))
      | inr w ↦ rw w (case.not_given (λ g. clash (G.1 g) w))
    ]

    answered : Given c → (es : Snoc Record) → sound_records s ≡ es → (x : Checked) → check_log s ≡ x
        → answer_by (monitor es) x ≡ breaks_of c s
    unfolding breaks_of
    answered g es q x e = rw (G.1 g, q, e)

    breaks_only : (x : BreakAnswer) → BreaksAs c s x → x ≡ breaks_of c s
    unfolding breaks_of
    breaks_only x (case.not_given n) = elim (split (well_formed c)) [ inl w ↦ absurd (n (G.0 w)) | inr w ↦ rw w ]
    breaks_only x (case.refuses g {es} {k} {at} {last} W u f F) =
        let E = fault_ends s k (log_refusal_number f) (walked s W).first F in
        let y : f ≡ E.why = number_tells f E.why E.told in
        let l = left_step s at k (moment last) (size es) (walked s W).left (Over (Err (fault E.why at)))
        E.ends_there in
        ap (λ (r : LogRefusal). Err (Log (fault r at))) y ∙ sym (unbroken_by es u (Err (fault E.why at)))
        ∙ answered g es (all_walked s W _ E.ends_there) (Err (fault E.why at)) (sym l)
    breaks_only x (case.breaks g {es} e {k} {at} {last} W u b) =
        let S = sound s W in
        let w = still (chart_of c) S.more s at k (moment last) (size (es ▸ e)) (es ▸ e) b in
        let v = ap (λ (ds : Snoc Record). monitor ds) (sym S.rest) ∙ w in
        let y : Broken c (sound_records s) = λ z. b (sym (ap (λ (m : AbstractMonitor). m.tally.broken.at) v) ∙ z) in
        sym (broken_by (sound_records s) y (check_log s)) ∙ answered g (sound_records s) refl (check_log s) refl
    breaks_only x (case.ends g {es} {k} {at} {last} W u F) =
        let q : step_at s at k (moment last) (size es) ≡ Over (Ok (size es))
        = came_to s at k (moment last) (size es) (Ok None) (ended s at k (moment last) F) in
        sym (unbroken_by es u (Ok (size es)))
        ∙ answered g es (all_walked s W _ q) (Ok (size es)) (walk_fine s W F)

    pub breaks_just : (r : BreakAnswer) → r ≡ breaks_of c s → Just (BreaksAs c s) r
    breaks_just r e = record { holds = subst (BreaksAs c s) (sym e) breaks_as; only = λ x J. breaks_only x J ∙ sym e }
