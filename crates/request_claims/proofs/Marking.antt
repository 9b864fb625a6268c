-- Charts that are alike but for their marks: fed alike, and judged alike but for the standing. Assumes nothing.
use mathlib.Core.Path.{◌≡◌, refl, sym, ap, subst, ◌∙◌}
use mathlib.Core.Bool.{Bool, true, false, cond, not}
use mathlib.Core.List.{List}
use Prim.Native.Nat.{ℕ}
use lib.Dec.{eqb}
use Rattle.base.specs.Lists.{all_below}
use Rattle.model.specs.declared.Chart.{Chart}
use Rattle.model.specs.declared.Monitor.{Monitor}
use Rattle.model.specs.declared.Record.{Record}
use Rattle.chart_value.specs.Given.{Given}
use Rattle.chart_value.specs.WellFormed.{well_formed}
use Rattle.chart_value.specs.View.{chart_of}
use Rattle.chart_value.specs.Marks.{Alike}
use Rattle.chart_value.specs.Records.{log_record, logged}
use Rattle.chart_value.proofs.Sound.{sound}
use Rattle.chart_value.proofs.Marks.{marks_apart}
use Rattle.resting.specs.Rest.{rests}
use Rattle.rounds.specs.Chart.{Chart as Abstract}
use Rattle.rounds.specs.Tally.{Tally}
use Rattle.rounds.specs.Feeds.{Answer as AbstractAnswer}
use Rattle.rounds.specs.Machine.{Monitor as AbstractMonitor, prechart_done, Fit, after}
use Rattle.paper.specs.Taken.{Taken, status_of, Acceptable}
use Rattle.stepping.specs.Monitors.{monitor_at}
use Rattle.log_clock.specs.Records.{records_in}
use Rattle.std.specs.Prelude.{Ok, Err}
use Rattle.log_check.specs.Refusal.{Checked}
use Rattle.log_check.specs.Check.{check_log}
use Rattle.judge.specs.Judge.{judge_of, by_check}
use Rattle.judge.specs.Said as judge
use Rattle.verdict.specs.Verdict.{broken, nothing_fired, in_prechart, owed, resting, standing_of}
use Rattle.feed_claims.specs.Feeds.{FeedsAs, not_a_chart_case, unfit, broken_again, time_falls_case, too_many, takes}
use Rattle.claims.specs.Demand1.{JudgesAs}
use Rattle.claims.proofs.Judging.{judges_just}
use Rattle.request_claims.specs.Marks.{without_rest, SaidAlike}

-- the standing with 4 taken for 2, which the abstract chart gives
abbrev plain_standing : Abstract → AbstractMonitor → ℕ
plain_standing C m =
    cond (not (eqb m.tally.broken.at 0)) broken
    (cond (all_below C.regions (λ i. not (m.place.fired i))) nothing_fired
    (cond (not (prechart_done C m.place.fired)) in_prechart owed))

standing_plain : (c : Chart) (m : AbstractMonitor) → without_rest (standing_of c m) ≡ plain_standing (chart_of c) m
unfolding standing_of
standing_plain c m =
    by (not (eqb m.tally.broken.at 0)) (all_below c.count (λ i. not (m.place.fired i)))
    (not (prechart_done (chart_of c) m.place.fired)) (rests c m.place.fired)
  where
    by : (x y z t : Bool)
        → without_rest (cond x broken (cond y nothing_fired (cond z in_prechart (cond t resting owed))))
        ≡ cond x broken (cond y nothing_fired (cond z in_prechart owed))
    by true y z t = refl
    by false true z t = refl
    by false false true t = refl
    by false false false true = refl
    by false false false false = refl

is_judged : (c : Chart) → Given c → (s : List ℕ) (r : judge.Said) → JudgesAs c s r → r ≡ by_check c s (check_log s)
unfolding judge_of
is_judged c g s r J =
    let w : well_formed c ≡ true = (sound g.bytes c g.accepted).fine in
    (judges_just c (λ e. g, λ x. w) s (judge_of c s) refl).only r J ∙ rw w refl

module _ (c d : Chart) (a : Alike c d) (g : Given c) (h : Given d) where
  same : chart_of c ≡ chart_of d
  same = marks_apart.shown c d a

  pub fed_alike : (m : Monitor) (e : Record) (x : AbstractAnswer) (n : Monitor) → FeedsAs c m e x n → FeedsAs d m e x n
  fed_alike m e x n (not_a_chart_case z) = absurd (z g)
  fed_alike m e x n (unfit z f) =
      unfit h (λ F. f (subst (λ (C : Abstract). Fit C (monitor_at m)) (sym same) F))
  fed_alike m e x n (broken_again z F b) =
      broken_again h (subst (λ (C : Abstract). Fit C (monitor_at m)) same F) b
  fed_alike m e x n (time_falls_case z F b t) =
      time_falls_case h (subst (λ (C : Abstract). Fit C (monitor_at m)) same F) b t
  fed_alike m e x n (too_many z F b t r) =
      too_many h (subst (λ (C : Abstract). Fit C (monitor_at m)) same F) b t r
  fed_alike m e x n (takes z A y k T F) =
      takes h (subst (λ (C : Abstract). Acceptable C (monitor_at m) (log_record e)) same A) y k
      (subst (λ (C : Abstract). Taken C (status_of C (monitor_at m)) (log_record e) (status_of C (monitor_at k)) y) same T)
      (subst (λ (C : Abstract). Fit C (monitor_at k)) same F)

  check_alike : (s : List ℕ) (k : Checked) → SaidAlike (by_check c s k) (by_check d s k)
  check_alike s (Err f) = record {
    number = refl;
    offset = refl;
    standing = refl;
    kept = refl;
    dropped = refl;
    records = refl;
    broken = refl;
    reason = refl;
    region = refl;
    term = refl;
  }
  check_alike s (Ok n) = record {
    number = refl;
    offset = refl;
    standing =
        standing_plain c (last (chart_of c)) ∙ ap (λ (C : Abstract). plain_standing C (last C)) same
        ∙ sym (standing_plain d (last (chart_of d)));
    kept = ap (λ (t : Tally). t.kept) tally;
    dropped = ap (λ (t : Tally). t.dropped) tally;
    records = ap (λ (t : Tally). t.records) tally;
    broken = ap (λ (t : Tally). t.broken.at) tally;
    reason = ap (λ (t : Tally). t.broken.reason) tally;
    region = ap (λ (t : Tally). t.broken.cause.region) tally;
    term = ap (λ (t : Tally). t.broken.cause.term) tally;
  }
    where
      last : Abstract → AbstractMonitor
      last C = after C (logged (records_in s))

      tally : (last (chart_of c)).tally ≡ (last (chart_of d)).tally
      tally = ap (λ (C : Abstract). (last C).tally) same

  pub judged_alike : (s : List ℕ) (r t : judge.Said) → JudgesAs c s r → JudgesAs d s t → SaidAlike r t
  judged_alike s r t J K =
      subst (λ (x : judge.Said). SaidAlike x t) (sym (is_judged c g s r J))
      (subst (λ (x : judge.Said). SaidAlike (by_check c s (check_log s)) x) (sym (is_judged d h s t K))
      (check_alike s (check_log s)))
