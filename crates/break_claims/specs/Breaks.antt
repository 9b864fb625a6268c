-- Only yes or no (K1 to K4): what is answered or refused, case by case. A case says when it applies.
use Rattle.std.specs.Prelude.{◌≡◌, ◌≢◌, true, false, List, ℕ, Ok, Err}
use Rattle.model.specs.declared.Chart.{Chart}
use Rattle.model.specs.declared.Record.{Record}
use Rattle.base.specs.Lists.{Snoc, ◌▸◌}
use Rattle.chart_value.specs.Given.{Given}
use Rattle.chart_value.specs.View.{chart_of}
use Rattle.chart_value.specs.Records.{logged}
use Rattle.rounds.specs.Machine.{after}
use Rattle.log_reader.specs.Record as found
use Rattle.log_clock.specs.declared.Kind.{Kind}
use Rattle.log_check.specs.declared.LogRefusal.{LogRefusal}
use Rattle.log_check.specs.declared.JudgeRefusal.TheVariants.{NotAChart, Log}
use Rattle.log_check.specs.Refusal.{log_refusal_number, fault}
use Rattle.breaks.specs.Numbers.{BreakAnswer}
use Rattle.log_claims.specs.Logs.{FindsAs, Walk, FaultAt}

-- a fresh monitor is broken by these records, or is not
abbrev pub Broken : Chart → Snoc Record → Type 0
Broken c es = (after (chart_of c) (logged es)).tally.broken.at ≢ 0

abbrev pub Unbroken : Chart → Snoc Record → Type 0
Unbroken c es = (after (chart_of c) (logged es)).tally.broken.at ≡ 0

-- 20; the first fault of a record, with its offset, if no record before it breaks the chart; yes at the record that
-- breaks it, whatever comes after; no at the end.
pub data BreaksAs (c : Chart) (s : List ℕ) : BreakAnswer → Type 0 where
  not_given : ¬ Given c → BreaksAs c s (Err NotAChart)
  refuses : Given c → {es : Snoc Record} {k : Kind} {at last : ℕ} → Walk s es k at last → Unbroken c es
      → (f : LogRefusal) → FaultAt s es at last k (log_refusal_number f) → BreaksAs c s (Err (Log (fault f at)))
  breaks : Given c → {es : Snoc Record} (e : Record) {k : Kind} {at last : ℕ} → Walk s (es ▸ e) k at last
      → Unbroken c es → Broken c (es ▸ e) → BreaksAs c s (Ok true)
  ends : Given c → {es : Snoc Record} {k : Kind} {at last : ℕ} → Walk s es k at last → Unbroken c es
      → FindsAs s at (found.end at) → BreaksAs c s (Ok false)
