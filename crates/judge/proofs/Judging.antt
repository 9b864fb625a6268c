-- Judging by its tests in their order. Assumes nothing.
use mathlib.Core.Path.{◌≡◌, sym, ap, subst, ◌∙◌}
use mathlib.Core.Bool.{true, false}
use Rattle.std.specs.Prelude.{Ok, Err}
use mathlib.Core.List.{List}
use Prim.Native.Nat.{ℕ}
use Rattle.model.specs.declared.Chart.{Chart}
use Rattle.model.specs.declared.Monitor.{Monitor}
use Rattle.model.specs.declared.Record.{Record}
use Rattle.model.specs.declared.Verdict.{Verdict}
use Rattle.model.specs.Answers.{zero_verdict}
use Rattle.base.specs.Lists.{Snoc}
use Rattle.chart_value.specs.WellFormed.{well_formed}
use Rattle.chart_value.specs.Given.{Given}
use Rattle.chart_value.specs.View.{chart_of}
use Rattle.chart_value.proofs.Shown.{shown}
use Rattle.rounds.specs.Machine.{Monitor as AbstractMonitor, Fit, after}
use Rattle.rounds.proofs.Fitness.{after_fit}
use Rattle.stepping.specs.Monitors.{monitor_at}
use Rattle.log_clock.specs.Records.{records_in}
use Rattle.chart_value.specs.Records.{logged}
use Rattle.log_check.specs.declared.LogFault.{LogFault}
use Rattle.log_check.specs.declared.JudgeRefusal.{JudgeRefusal}
use Rattle.log_check.specs.declared.JudgeRefusal.TheVariants.{NotAChart, Log}
use Rattle.log_check.specs.Check.{check_log}
use Rattle.log_check.specs.Sound.{sound_records}
use Rattle.log_check.proofs.Laws.{is_fine}
use Rattle.log_check.proofs.Sound.{all_sound}
use Rattle.judge.specs.declared.Judgement.{Judgement}
use Rattle.judge.specs.Judge.{judge_of}
use Rattle.verdict.specs.Verdict.{verdict_of}
use Rattle.judge.specs.Said.{said}
use Rattle.verdict.specs.Parts.{verdict_by}
use Rattle.verdict.proofs.Stands.{verdict_same}

module _ (c : Chart) (s : List ℕ) where
  pub judged_no_chart : (r : Judgement) → well_formed c ≡ false → r ≡ record { answer = Err NotAChart; verdict = zero_verdict }
      → said r ≡ judge_of c s
  unfolding judge_of
  judged_no_chart r w e = rw w (ap said e)

  pub judged_refused : (r : Judgement) (f : LogFault) (x : JudgeRefusal) → well_formed c ≡ true → check_log s ≡ Err f
      → x ≡ Log f → r ≡ record { answer = Err x; verdict = zero_verdict } → said r ≡ judge_of c s
  unfolding judge_of
  judged_refused r f x w q y e = rw (w, q) (ap said (e ∙ ap (λ (z : JudgeRefusal). record { answer = Err z; verdict = zero_verdict }) y))

  pub judged_fine : (v : Verdict) (m : Monitor) (n : ℕ) → well_formed c ≡ true → Given c → check_log s ≡ Ok n
      → monitor_at m ≡ after (chart_of c) (logged (sound_records s)) → v ≡ verdict_by c m
      → said (record { answer = Ok tt; verdict = v }) ≡ judge_of c s
  unfolding judge_of
  judged_fine v m n w g q b e =
      let all : sound_records s ≡ records_in s = all_sound s (ap is_fine q) in
      let a : monitor_at m ≡ after (chart_of c) (logged (records_in s)) =
      b ∙ ap (λ (es : Snoc Record). after (chart_of c) (logged es)) all in
      let fit : Fit (chart_of c) (monitor_at m) =
      subst (λ (x : AbstractMonitor). Fit (chart_of c) x) (sym a)
      (after_fit (chart_of c) (shown c g).accepted (logged (records_in s))) in
      let same : v ≡ verdict_of c (after (chart_of c) (logged (records_in s))) =
      e ∙ verdict_same c m fit ∙ ap (verdict_of c) a in
      rw (w, q) (λ i. record { number = 0; offset = 0; verdict = same i })
