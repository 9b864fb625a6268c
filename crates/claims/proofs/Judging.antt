-- A whole log judged, case by case. Assumes nothing.
use mathlib.Core.Path.{◌≡◌, sym, ap, subst, ◌∙◌}
use mathlib.Core.Logic.{inl, inr, ◌↔◌}
use mathlib.Core.Bool.{true}
use mathlib.Core.List.{List}
use Prim.Native.Nat.{ℕ}
use Rattle.model.specs.declared.Chart.{Chart}
use Rattle.model.specs.declared.Record.{Record}
use Rattle.base.specs.Just.{Just}
use Rattle.base.specs.Lists.{Snoc, size}
use Rattle.base.proofs.Bools.{split}
use Rattle.chart_value.specs.Given.{Given}
use Rattle.chart_value.specs.View.{chart_of}
use Rattle.chart_value.specs.WellFormed.{well_formed}
use Rattle.chart_value.specs.Records.{logged}
use Rattle.rounds.specs.Machine.{after}
use Rattle.verdict.specs.Verdict.{verdict_of}
use Rattle.judge.specs.Said as judge
use Rattle.judge.specs.Judge.{by_check, judge_of}
use Rattle.std.specs.Prelude.{Ok, Err}
use Rattle.log_check.specs.Refusal.{fault, Checked}
use Rattle.log_check.specs.Check.{Over}
use Rattle.log_check.specs.Check.{check_log}
use Rattle.log_check.proofs.Laws.{left_step}
use Rattle.log_claims.proofs.Logs.{moment, walked, walk_records, walk_fine, fault_ends, Checks, fine, bad, log_checks}
use Rattle.feed_claims.proofs.Feeds.{given_not}
use Rattle.claims.specs.Demand1.{JudgesAs, not_given, refuses, judges}

-- 20 at 0, the first fault of the log, or the verdict
module _ (c : Chart) (G : (well_formed c ≡ true) ↔ Given c) (s : List ℕ) where
  by_checks : Given c → (x : Checked) → Checks s x → JudgesAs c s (by_check c s x)
  by_checks g x (fine W F) = rw (walk_records s W F) (judges g W F)
  by_checks g x (bad W f F) = refuses g W _ F

  judges_as : JudgesAs c s (judge_of c s)
  unfolding judge_of
  judges_as = elim (split (well_formed c)) [
    | inl w ↦ rw w (by_checks (G.0 w) (check_log s) (log_checks s))
    | inr w ↦ rw w (not_given (given_not c G w))
  ]

  judged_by : Given c → (x : Checked) → x ≡ check_log s → by_check c s x ≡ judge_of c s
  unfolding judge_of
  judged_by g x e = rw (G.1 g, sym e)

  judges_only : (x : judge.Said) → JudgesAs c s x → x ≡ judge_of c s
  unfolding judge_of
  judges_only x (not_given n) = elim (split (well_formed c)) [ inl w ↦ absurd (n (G.0 w)) | inr w ↦ rw w ]
  judges_only x (refuses g {es} {k} {at} {last} W f F) =
      let S = walked s W in
      let E = fault_ends s k f S.first F in
      rw E.told
      (judged_by g (Err (fault E.why at))
      (left_step s at k (moment last) (size es) S.left (Over (Err (fault E.why at))) E.ends_there))
  judges_only x (judges g {es} W F) =
      ap {B = judge.Said}
      (λ (l : Snoc Record). record {
        number = 0;
        offset = 0;
        verdict = verdict_of c (after (chart_of c) (logged l));
      }) (sym (walk_records s W F))
      ∙ judged_by g (Ok (size es)) (sym (walk_fine s W F))

  pub judges_just : (r : judge.Said) → r ≡ judge_of c s → Just (JudgesAs c s) r
  judges_just r e = record { holds = subst (JudgesAs c s) (sym e) judges_as; only = λ x J. judges_only x J ∙ sym e }
