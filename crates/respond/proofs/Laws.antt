-- What is said of an answer: no refusal has the number 0, so each is told as a refusal. And an input's parts. Assumes
-- nothing.
use mathlib.Core.Path.{◌≡◌, refl, sym, ap, ap₂, subst, ◌∙◌}
use mathlib.Core.Logic.{◌≢◌}
use mathlib.Core.List.{List}
use native.Mathlib.Omega.{arith}
use borrow.Author.Tests.{ne_eqb, lt-ltb, le-ltb}
use lib.ListN.{length, take, drop, length-drop}
use Prim.Native.Nat.{ℕ, ◌-◌, ◌≤◌, ◌<◌}
use Rattle.std.specs.Prelude.{Option, Some, None, Result, Err, IfOk, IfErr, MatchOption, ok_or}
use Rattle.std.specs.List.{IsSplitAt}
use Rattle.std.proofs.lemmas.List.{drop-drop}
use Rattle.wire.specs.Bytes.{word16}
use Rattle.model.specs.declared.Chart.{Chart}
use Rattle.chart_step.specs.declared.Fault.{Fault}
use Rattle.chart_step.specs.Refusal.{refusal_number}
use Rattle.chart_step.proofs.Numbers.{refusal_nonzero}
use Rattle.chart_reader.specs.Said as read-specs
use Rattle.log_reader.specs.declared.RecordRefusal.TheVariants as bytes
use Rattle.log_clock.specs.declared.MomentRefusal.TheVariants as moment
use Rattle.log_check.specs.declared.LogRefusal.{LogRefusal}
use Rattle.log_check.specs.declared.LogRefusal.TheVariants as log
use Rattle.log_check.specs.declared.JudgeRefusal.{JudgeRefusal}
use Rattle.log_check.specs.declared.JudgeRefusal.TheVariants as judge
use Rattle.log_check.specs.Refusal.{log_refusal_number, judge_refusal_number, judge_refusal_offset}
use Rattle.judge.specs.Said as judge-specs
use Rattle.model.specs.declared.Verdict.{Verdict}
use Rattle.listing.specs.Listing.{Report, refused}
use Rattle.listing.specs.declared.Part.TheVariants as part
use Rattle.listing.specs.declared.Refused.{Refused}
use Rattle.respond.specs.Respond.{log_report, chart_report, parts_report, most_input, length_size, no_frame, report_of}

-- the report of a judge's answer
abbrev pub of_answer : Verdict → Result (Unit {0}) JudgeRefusal → Report
of_answer v a = log_report (record { number = judge-specs.number_of a; offset = judge-specs.offset_of a; verdict = v })

nonzero : (k : LogRefusal) → log_refusal_number k ≢ 0
nonzero (log.NoRecord bytes.CutShort) z = omega (arith, z)
nonzero (log.NoRecord bytes.UnknownByte) z = omega (arith, z)
nonzero (log.NoMoment moment.Mixed) z = omega (arith, z)
nonzero (log.NoMoment moment.Falls) z = omega (arith, z)
nonzero (log.NoMoment moment.TooLate) z = omega (arith, z)
nonzero log.TooManyRecords z = omega (arith, z)

pub log_refused : (v : Verdict) (x : JudgeRefusal)
    → of_answer v (Err x) ≡ refused part.Log (judge_refusal_number x) (judge_refusal_offset x)
log_refused v judge.NotAChart = refl
log_refused v (judge.Log f) = rw (ne_eqb (log_refusal_number f.why) 0 (nonzero f.why))

-- the report of a reader's answer
abbrev pub of_read : Chart → List ℕ → Result (Unit {0}) Fault → Report
of_read c s a = chart_report (record { number = read-specs.number_of a; offset = read-specs.offset_of a; chart = c }) s

pub chart_refused : (c : Chart) (s : List ℕ) (f : Fault)
    → of_read c s (Err f) ≡ refused part.Chart (refusal_number f.refusal) f.offset
chart_refused c s f = rw (ne_eqb (refusal_number f.refusal) 0 (refusal_nonzero f.refusal))

-- an input after its length, which stands before a chart of n bytes
module _ (s rest : List ℕ) (n : ℕ) (h : length s ≤ most_input) (k : length_size ≤ length s)
    (e : rest ≡ drop length_size s) (q : n ≡ word16 s 0) where
  unframed : length rest < n → report_of s ≡ refused part.Input no_frame 0
  unfolding report_of
  unframed l =
      let t : length s - 2 < n = omega (arith, ap length e, length-drop 2 s) in
      rw (le-ltb _ _ h, le-ltb _ _ k, ← q, lt-ltb _ _ t)

  framed : (a b : List ℕ) → IsSplitAt rest n a b → report_of s ≡ parts_report a b
  unfolding report_of
  framed a b S =
      let t : n ≤ length s - 2 = omega (arith, ap length e, length-drop 2 s, S.0) in
      rw (le-ltb _ _ h, le-ltb _ _ k, ← q, le-ltb _ _ t)
      (ap₂ parts_report (sym (S.1 ∙ ap (take n) e)) (sym (S.2 ∙ ap (drop n) e ∙ drop-drop n 2 s)))

  abbrev Parted : {A : Type 0} → (A → List ℕ) → (A → List ℕ) → Result A Refused → Type 0
  Parted f g r = IfOk r (λ p. report_of s ≡ parts_report (f p) (g p)) × IfErr r (λ x. report_of s ≡ Err x)

  pub parted : {A : Type 0} (f g : A → List ℕ) (o : Option A) {r : Result A Refused}
      → r ≡ ok_or o (record { part = part.Input; number = no_frame; offset = 0 })
      → MatchOption o (length rest < n) (λ p. IsSplitAt rest n (f p) (g p)) → Parted f g r
  parted f g None z l = subst (Parted f g) (sym z) (tt, unframed l)
  parted f g (Some p) z S = subst (Parted f g) (sym z) (framed (f p) (g p) S, tt)
