-- A list of feeds by live bytes is one by the monitor in them. Assumes nothing.
use mathlib.Core.Path.{◌≡◌, sym, ap, subst, ◌∙◌}
use mathlib.Core.List.{List}
use Rattle.model.specs.declared.Chart.{Chart}
use Rattle.model.specs.declared.Monitor.{Monitor}
use Rattle.model.specs.declared.Record.{Record}
use Rattle.model.specs.Answers.{Fed}
use Rattle.chart_reader.specs.Read.{read_chart}
use Rattle.base.specs.Lists.{Snoc, ε, ◌▸◌}
use Rattle.rounds.specs.Feeds.{Answer as AbstractAnswer}
use Rattle.rounds.specs.Machine.{Step as AbstractStep}
use Rattle.stepping.specs.Answers.{fed_answer}
use Rattle.stepping.proofs.Answers.{answer_told}
use Rattle.monitor.specs.Feed.{feed_of}
use Rattle.monitor.specs.History.{History, none_yet, one_more}
use Rattle.monitor_image.specs.MonitorImage.{monitor_in}
use Prim.Native.Nat.{ℕ}
use Rattle.live.specs.Live.{chart_in, LiveFed}
use Rattle.live.specs.History.{LiveHistory, opened, then_fed, Extends, LiveClaims}
use Rattle.live.proofs.Charts.{live_exact}

chart_kept : {chart l : List ℕ} {es : Snoc Record} {ans : Snoc AbstractAnswer} → LiveHistory chart es ans l
    → chart_in l ≡ (read_chart chart).chart
chart_kept (opened H) = H.chart_read
chart_kept (then_fed q F) = F.chart ∙ chart_kept q

goes : {chart l : List ℕ} {es : Snoc Record} {ans : Snoc AbstractAnswer} → LiveHistory chart es ans l
    → History (read_chart chart).chart es ans (monitor_in l)
goes {chart} (opened H) = subst (λ (m : Monitor). History (read_chart chart).chart ε ε m) (sym H.fresh) none_yet
goes {chart} (then_fed {es} {ans} {l} {n} {e} {a} q F) =
    let s = F.by_chart.taken in
    rw F.by_chart.ans (subst
    (λ (m : Monitor). History (read_chart chart).chart (es ▸ e) (ans ▸ fed_answer s.answer) m)
    (sym F.by_chart.next)
    (one_more e s (goes q) (F.by_chart.fed ∙ ap (λ (c : Chart). feed_of c (monitor_in l) e) (chart_kept q))))

-- the bytes and the record fix the answer
pub one_answer : {l n n' : List ℕ} {e : Record} {a b : Fed} → LiveFed l e a n → LiveFed l e b n' → a ≡ b
one_answer {a = a} {b} F G =
    let p = F.by_chart.fed ∙ sym G.by_chart.fed in
    F.by_chart.ans
    ∙ answer_told F.by_chart.taken.answer G.by_chart.taken.answer (ap (λ (s : AbstractStep). s.answer) p)
    ∙ sym G.by_chart.ans

-- one more feed
pub runs_on : {l n : List ℕ} {e : Record} {a : Fed} → LiveFed l e a n → Extends l e a n
runs_on F = λ chart es ans q. then_fed q F

pub live_claims : LiveClaims
live_claims = record { exact = live_exact; histories = goes }
