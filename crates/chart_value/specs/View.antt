-- The abstract chart that a chart value shows.
use Rattle.std.specs.Prelude.{◌≡◌, ◌↔◌, cond, ◌&&◌, ℕ, suc, ◌+◌, ◌*◌, ◌<◌, ltb, get_or}
use Rattle.std.proofs.Math.Bool.{So}
use Rattle.bitset.specs.Set.{contains}
use Rattle.model.specs.declared.Chart.{Chart}
use Rattle.model.specs.declared.Region.{Region}
use Rattle.model.specs.declared.Message.{Message}
use Rattle.model.specs.declared.Event.{Event}
use Rattle.model.specs.declared.Event.TheVariants as event
use Rattle.model.specs.Chart.{zero_region, region_at}
use Rattle.order.specs.Above.{AboveIn}
use Rattle.order.specs.Order.{above_of}
use Rattle.condition.specs.Condition.{failing_term}
use Rattle.rounds.specs.Chart.{Chart as Abstract, Accepted}

-- C8: one number for label, source and destination; 0 is left for a plain region
abbrev pub code_of : Message → ℕ
code_of m = suc (m.label * 65536 + m.source * 256 + m.destination)

abbrev pub key_of : Event → ℕ
key_of (event.Message m) = code_of m
key_of (event.Plain l) = 0

-- region i; beyond the chart, zeros
abbrev pub region_of : Chart → ℕ → Region
region_of c i = cond (ltb i c.count) (region_at c i) zero_region

abbrev pub chart_of : Chart → Abstract
chart_of c =
    record {
      regions = c.count;
      prechart = c.prechart;
      key = λ i. key_of (region_of c i).event;
      above = λ a b. ltb b c.count && contains (get_or (above_of c) b 0) a;
      clocks = c.clocks;
      resets = λ i k. contains (region_of c i).resets k;
      terms = λ i. (region_of c i).count;
      failing = λ i value. failing_term (region_of c i) value;
      hot = λ i. (region_of c i).hot;
    }

-- What is true of the abstract chart, if some accepted bytes give the chart value.
pub record Shown (c : Chart) : Type 0 where
  pub accepted : Accepted (chart_of c)
  -- each region is shown as it is stored: its message's code, its resets, its condition, and whether it is hot
  pub region : (i : ℕ) → i < c.count → region_of c i ≡ region_at c i
  -- its order is O3
  pub order : (a b : ℕ) → So ((chart_of c).above a b) ↔ ((b < c.count) × AboveIn c a b)

-- C8: messages with the same code are the same; a line is stored in a byte
abbrev pub CodesTell : Type 0
CodesTell =
    (m n : Message) → m.source < 256 → m.destination < 256 → n.source < 256 → n.destination < 256
    → code_of m ≡ code_of n → m ≡ n
