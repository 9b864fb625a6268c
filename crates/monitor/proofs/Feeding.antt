-- Feeding by its tests in their order. Assumes nothing.
use mathlib.Core.Path.{◌≡◌, sym, ap, ◌∙◌}
use mathlib.Core.Bool.{true, false}
use mathlib.Core.List.{List}
use Prim.Native.Nat.{ℕ, ◌-◌, ◌^◌, ◌≤◌}
use borrow.Author.Tests.{lt-ltb, ltb-true}
use lib.Dec.{ltb}
use Rattle.bitset.specs.Set.{contains}
use Rattle.bitset.proofs.Laws.{contains_below}
use Rattle.model.specs.declared.Chart.{Chart}
use Rattle.model.specs.declared.Monitor.{Monitor}
use Rattle.model.specs.declared.Record.{Record}
use Rattle.model.specs.declared.Moment.{Moment}
use Rattle.model.specs.Chart.{most_regions}
use Rattle.model.specs.Monitor.{time_of}
use Rattle.model.specs.declared.FeedRefusal.TheVariants.{NotAChart, Unfit}
use Rattle.chart_value.specs.WellFormed.{well_formed}
use Rattle.chart_value.specs.View.{chart_of}
use Rattle.rounds.specs.Chart.{Chart as Abstract}
use Rattle.rounds.specs.Machine as machine
use Rattle.stepping.specs.Monitors.{monitor_at, record_of}
use Rattle.layout.specs.View.{Covers}
use Rattle.monitor.specs.Fit.{fits}
use Rattle.monitor.specs.Feed.{refuse, feed_of}
use Rattle.chart_value.specs.Records.{record_code}

-- the set of all numbers below the count has every region
pub all_covered : {count : ℕ} {keys : List ℕ} (code s : ℕ) → count ≤ most_regions → s ≡ 2 ^ count - 1
    → Covers count keys code s
all_covered {count} code s n e = record {
  within = record { few = n; own = λ i m. ltb-true i count (sym (member i) ∙ m) };
  has = λ i l k. member i ∙ lt-ltb i count l;
}
  where
    member : (i : ℕ) → contains s i ≡ ltb i count
    member i = ap (λ (x : ℕ). contains x i) e ∙ contains_below count i

module _ (c : Chart) (m : Monitor) (e : Record) (s : machine.Step) where
  pub fed_no_chart : well_formed c ≡ false → s ≡ refuse NotAChart m → s ≡ feed_of c m e
  unfolding feed_of
  fed_no_chart w q = rw w q

  module _ (w : well_formed c ≡ true) (C : Abstract) (same : C ≡ chart_of c) where
    pub fed_unfit : fits C m ≡ false → s ≡ refuse Unfit m → s ≡ feed_of c m e
    unfolding feed_of
    fed_unfit f q = rw (w, rw (ap (λ (C : Abstract). fits C m) same) at f) q

    pub fed_on : fits C m ≡ true → (code : ℕ) (t : Moment) → code ≡ record_code e → t ≡ time_of e
        → s ≡ machine.feed C (monitor_at m) (record_of code t.0) → s ≡ feed_of c m e
    unfolding feed_of
    fed_on f code t p h q =
        rw (w, rw (ap (λ (C : Abstract). fits C m) same) at f)
        (q ∙ (λ i. machine.feed (same i) (monitor_at m) (record { time = (h i).0; code = p i })))
