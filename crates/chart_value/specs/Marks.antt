-- C20, J14: charts that differ in nothing but their marks of places to rest.
use Rattle.std.specs.Prelude.{◌≡◌, false, map, ℕ}
use Rattle.model.specs.declared.Chart.{Chart}
use Rattle.model.specs.declared.Region.{Region}
use Rattle.model.specs.Chart.{region_at}
use Rattle.chart_reader.specs.Read.{read_chart}
use Rattle.chart_reader.specs.Said.{accepted_as}
use Rattle.chart_value.specs.Given.{Given}
use Rattle.chart_value.specs.Writer.{chart_bytes}
use Rattle.chart_value.specs.View.{chart_of}

-- all but the mark is the same
pub record AlikeRegion (g h : Region) : Type 0 where
  pub event : g.event ≡ h.event
  pub terms : g.terms ≡ h.terms
  pub count : g.count ≡ h.count
  pub hot : g.hot ≡ h.hot
  pub resets : g.resets ≡ h.resets

pub record Alike (c d : Chart) : Type 0 where
  pub lines : c.lines ≡ d.lines
  pub clocks : c.clocks ≡ d.clocks
  pub prechart : c.prechart ≡ d.prechart
  pub count : c.count ≡ d.count
  pub regions : (i : ℕ) → AlikeRegion (region_at c i) (region_at d i)

-- the chart without its marks
abbrev pub unmarked_region : Region → Region
unmarked_region g = record {
  event = g.event;
  terms = g.terms;
  count = g.count;
  hot = g.hot;
  resets = g.resets;
  rest = false;
}

unfoldable pub unmarked : Chart → Chart
unmarked c = record {
  lines = c.lines;
  clocks = c.clocks;
  prechart = c.prechart;
  count = c.count;
  regions = map unmarked_region c.regions;
}

-- Rows, stretches and what feeding does are said of the abstract chart that a chart shows. Its marks do not change that
-- one. And marks can be taken away: what is left is alike, has none, and is read from its own bytes.
pub record MarksApart : Type 0 where
  pub shown : (c d : Chart) → Alike c d → chart_of c ≡ chart_of d
  pub without : (c : Chart) → Alike c (unmarked c)
  pub none_left : (c : Chart) (i : ℕ) → (region_at (unmarked c) i).rest ≡ false
  pub still_read : (c : Chart) → Given c → read_chart (chart_bytes (unmarked c)) ≡ accepted_as (unmarked c)
