-- The rounds: the laws leave equations and tests, which compute. Assumes nothing.
use mathlib.Core.Path.{◌≡◌, refl}
use mathlib.Core.Bool.{false}
use mathlib.Core.Option.{some}
use mathlib.Core.List.{[], ◌∷◌}
use Rattle.model.specs.declared.Cause.{Cause}
use Rattle.model.specs.Monitor.{cause_of}
use Rattle.chart_reader.specs.Read.{read_chart}
use Rattle.chart_reader.specs.Said.{accepted_as}
use Rattle.chart_value.proofs.Shown.{shown_of}
use Rattle.base.specs.Lists.{Snoc, ε, ◌▸◌}
use Rattle.rounds.specs.Chart.{Accepted}
use Rattle.rounds.specs.Rows.{LogRecord, stands, chart_messages, Lawful, Full, LawfulButLast, first_failing}
use Rattle.rounds.specs.Feeds.{condition_fails, is_kept, Ends, complete, fails_cold, fails_hot, kept_now, dropped_now}
use Rattle.rounds.specs.Feeds.{broken_at}
use Rattle.rounds.proofs.Endings.{unlawful}
use Rattle.rounds.proofs.Tested.{lawful_tested, waived_tested}
use Rattle.rounds.proofs.Machine.{full_true}
use Rattle.chart_value.specs.Records.{log_record, logged}
use Rattle.log_clock.specs.Records.{records_in}
use Rattle.examples.specs.Examples.{chart_u}
use Rattle.witnesses.specs.Offers.{cold_second}
use Rattle.witness_rounds.specs.Charts.{chart_a, chart_b, written}
use Rattle.witness_rounds.specs.Rounds.{value_of, theory, U, A, B, D, Judged, TakenBy, Round, RoundShown, round_u}
use Rattle.witness_rounds.specs.Rounds.{kept_a, dropped_a, broken_a, kept_b, dropped_b, broken_b}
use Rattle.witness_rounds.proofs.Computing.{computing}
use Rattle.witness_rounds.proofs.Laws.{accepts, taken_anew, taken_at_lem}

pub read_u : read_chart chart_u ≡ accepted_as (value_of chart_u)
unfolding computing
read_u = refl

pub accepted_u : Accepted U
accepted_u = (shown_of chart_u (value_of chart_u) read_u).accepted

read_a : read_chart chart_a ≡ accepted_as (value_of chart_a)
unfolding computing
read_a = refl

pub accepted_a : Accepted A
accepted_a = (shown_of chart_a (value_of chart_a) read_a).accepted

read_b : read_chart chart_b ≡ accepted_as (value_of chart_b)
unfolding computing
read_b = refl

pub accepted_b : Accepted B
accepted_b = (shown_of chart_b (value_of chart_b) read_b).accepted

read_d : read_chart cold_second ≡ accepted_as (value_of cold_second)
unfolding computing
read_d = refl

pub accepted_d : Accepted D
accepted_d = (shown_of cold_second (value_of cold_second) read_d).accepted

-- a round that ends where a condition fails, from the tests of its row
failing : (g : Round) (A : Accepted (theory g.chart)) (x : Cause)
    → read_chart g.chart ≡ accepted_as (value_of g.chart)
    → records_in (written (g.before ▸ g.last) []) ≡ g.before ▸ g.last
    → Judged g.chart (g.before ▸ g.last) g.verdict
    → Lawful (theory g.chart) 0 (logged g.before) g.row
    → (W : LawfulButLast (theory g.chart) 0 (logged g.before) (log_record g.last) g.whole)
    → g.failing ≡ some x
    → first_failing (theory g.chart) 0 (chart_messages (theory g.chart) (logged g.before ▸ log_record g.last))
    g.whole ≡ some x
    → Ends (theory g.chart) 0 (logged g.before) (log_record g.last) g.outcome → is_kept g.outcome ≡ false
    → TakenBy g.case (theory g.chart) g.before g.last g.status g.ans → RoundShown g
failing g A x c l j Q W f h E k T = record {
  chart_read = c;
  log_read = l;
  judged = j;
  row_before = Q;
  row_with = rw f (unlawful (theory g.chart) A 0 (logged g.before) (log_record g.last) E k, W, h);
  ends = E;
  taken = T;
}

pub round_u_shown : RoundShown round_u
unfolding computing accepts
round_u_shown =
    let s : Snoc LogRecord = logged round_u.before in
    let e : LogRecord = log_record round_u.last in
    let L : Lawful U 0 (s ▸ e) round_u.whole = lawful_tested U accepted_u 0 (s ▸ e) round_u.whole refl refl refl in
    let F : Full U (stands round_u.whole) = full_true U (stands round_u.whole) refl in
    record {
      chart_read = refl;
      log_read = refl;
      judged = refl;
      row_before = lawful_tested U accepted_u 0 s round_u.row refl refl refl;
      row_with = (L, F);
      ends = complete round_u.whole L F;
      taken = taken_anew U accepted_u s e 3 kept_now refl refl refl refl;
    }

pub kept_a_shown : RoundShown kept_a
unfolding computing accepts
kept_a_shown =
    let s : Snoc LogRecord = logged kept_a.before in
    let e : LogRecord = log_record kept_a.last in
    let L : Lawful A 0 (s ▸ e) kept_a.whole = lawful_tested A accepted_a 0 (s ▸ e) kept_a.whole refl refl refl in
    let F : Full A (stands kept_a.whole) = full_true A (stands kept_a.whole) refl in
    record {
      chart_read = refl;
      log_read = refl;
      judged = refl;
      row_before = lawful_tested A accepted_a 0 s kept_a.row refl refl refl;
      row_with = (L, F);
      ends = complete kept_a.whole L F;
      taken = taken_anew A accepted_a s e 3 kept_now refl refl refl refl;
    }

pub dropped_a_shown : RoundShown dropped_a
unfolding computing accepts
dropped_a_shown =
    let s : Snoc LogRecord = logged dropped_a.before in
    let e : LogRecord = log_record dropped_a.last in
    let W : LawfulButLast A 0 s e dropped_a.whole = waived_tested A accepted_a 0 s e
    dropped_a.whole refl refl refl in
    failing dropped_a accepted_a (cause_of 2 1) refl refl refl
    (lawful_tested A accepted_a 0 s dropped_a.row refl refl refl) W refl refl
    (fails_cold dropped_a.whole 2 1 W refl refl) refl
    (taken_anew A accepted_a s e 4 (dropped_now (cause_of 2 1)) refl refl refl refl)

pub broken_a_shown : RoundShown broken_a
unfolding computing accepts
broken_a_shown =
    let s : Snoc LogRecord = logged broken_a.before in
    let e : LogRecord = log_record broken_a.last in
    let W : LawfulButLast A 0 s e broken_a.whole = waived_tested A accepted_a 0 s e broken_a.whole refl refl refl in
    failing broken_a accepted_a (cause_of 4 1) refl refl refl
    (lawful_tested A accepted_a 0 s broken_a.row refl refl refl) W refl refl
    (fails_hot broken_a.whole 4 1 W refl refl) refl
    (taken_at_lem A accepted_a s e 5 (ε ▸ 0 ▸ 1 ▸ 2 ▸ 3) (31 ∷ 21 ∷ [])
    (broken_at 3 condition_fails (cause_of 4 1)) refl refl refl refl refl)

pub kept_b_shown : RoundShown kept_b
unfolding computing accepts
kept_b_shown =
    let s : Snoc LogRecord = logged kept_b.before in
    let e : LogRecord = log_record kept_b.last in
    let L : Lawful B 0 (s ▸ e) kept_b.whole = lawful_tested B accepted_b 0 (s ▸ e) kept_b.whole refl refl refl in
    let F : Full B (stands kept_b.whole) = full_true B (stands kept_b.whole) refl in
    record {
      chart_read = refl;
      log_read = refl;
      judged = refl;
      row_before = lawful_tested B accepted_b 0 s kept_b.row refl refl refl;
      row_with = (L, F);
      ends = complete kept_b.whole L F;
      taken = taken_anew B accepted_b s e 3 kept_now refl refl refl refl;
    }

pub dropped_b_shown : RoundShown dropped_b
unfolding computing accepts
dropped_b_shown =
    let s : Snoc LogRecord = logged dropped_b.before in
    let e : LogRecord = log_record dropped_b.last in
    let W : LawfulButLast B 0 s e dropped_b.whole = waived_tested B accepted_b 0 s e
    dropped_b.whole refl refl refl in
    failing dropped_b accepted_b (cause_of 2 1) refl refl refl
    (lawful_tested B accepted_b 0 s dropped_b.row refl refl refl) W refl refl
    (fails_cold dropped_b.whole 2 1 W refl refl) refl
    (taken_anew B accepted_b s e 4 (dropped_now (cause_of 2 1)) refl refl refl refl)

pub broken_b_shown : RoundShown broken_b
unfolding computing accepts
broken_b_shown =
    let s : Snoc LogRecord = logged broken_b.before in
    let e : LogRecord = log_record broken_b.last in
    let W : LawfulButLast B 0 s e broken_b.whole = waived_tested B accepted_b 0 s e broken_b.whole refl refl refl in
    failing broken_b accepted_b (cause_of 3 1) refl refl refl
    (lawful_tested B accepted_b 0 s broken_b.row refl refl refl) W refl refl
    (fails_hot broken_b.whole 3 1 W refl refl) refl
    (taken_at_lem B accepted_b s e 5 (ε ▸ 0 ▸ 2 ▸ 1) (20 ∷ [])
    (broken_at 2 condition_fails (cause_of 3 1)) refl refl refl refl refl)
