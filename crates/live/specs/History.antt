-- V13: opening live bytes and then feeding them is a list of feeds, of which the third demand speaks.
use Rattle.std.specs.Prelude.{◌≡◌, List, ℕ}
use Rattle.model.specs.declared.Record.{Record}
use Rattle.model.specs.Answers.{Fed}
use Rattle.chart_reader.specs.Read.{read_chart}
use Rattle.chart_value.specs.WellFormed.{well_formed}
use Rattle.base.specs.Lists.{Snoc, ε, ◌▸◌}
use Rattle.rounds.specs.Feeds.{Answer as AbstractAnswer}
use Rattle.stepping.specs.Answers.{fed_answer}
use Rattle.monitor.specs.History.{History}
use Rattle.monitor_image.specs.MonitorImage.{monitor_in}
use Rattle.live.specs.Live.{chart_in, is_live, Holds, LiveFed}

-- bytes opened for a chart, then fed one record after the other: the records, the answers, and the bytes after them
pub data LiveHistory (chart : List ℕ) : Snoc Record → Snoc AbstractAnswer → List ℕ → Type 0 where
  opened : {l : List ℕ} → Holds chart l → LiveHistory chart ε ε l
  then_fed : {es : Snoc Record} {ans : Snoc AbstractAnswer} {l n : List ℕ} {e : Record} {a : Fed}
      → LiveHistory chart es ans l → LiveFed l e a n
      → LiveHistory chart (es ▸ e) (ans ▸ fed_answer a) n

-- one more feed, with this answer: with it every list of feeds that led to the bytes l is longer by one
abbrev pub Extends : List ℕ → Record → Fed → List ℕ → Type 0
Extends l e a n = (chart : List ℕ) (es : Snoc Record) (ans : Snoc AbstractAnswer) → LiveHistory chart es ans l
    → LiveHistory chart (es ▸ e) (ans ▸ fed_answer a) n

pub record LiveClaims : Type 0 where
  -- V3: bytes hold a live monitor exactly if what `chart_in` gives for them is a chart
  pub exact : (l : List ℕ) → is_live l ≡ well_formed (chart_in l)
  -- feeding live bytes is feeding the monitor in them
  pub histories : {chart l : List ℕ} {es : Snoc Record} {ans : Snoc AbstractAnswer} → LiveHistory chart es ans l
      → History (read_chart chart).chart es ans (monitor_in l)
