-- What the stretches say of a monitor fixes it: the counts and the break by their equations, fired regions and clocks
-- by the one lawful row. Assumes nothing.
use mathlib.Core.Path.{◌≡◌, sym, ap, subst, ◌∙◌}
use Prim.Native.Nat.{ℕ}
use Rattle.base.specs.Lists.{Snoc}
use Rattle.rounds.specs.Chart.{Chart, Accepted}
use Rattle.rounds.specs.Rows.{LogRecord, stands, chart_messages, reset_moment}
use Rattle.rounds.specs.Feeds.{Stretch, Last, unended, after_break}
use Rattle.rounds.specs.Machine.{Monitor, after}
use Rattle.rounds.specs.Demand3.{AtLast, Agrees, Meaning}
use Rattle.rounds.proofs.Rows.{one_row}
use Rattle.rounds.proofs.Feeds.{monitor_agrees}

module _ (C : Chart) (A : Accepted C) (rs : Snoc LogRecord) (es : Snoc Stretch) where
  same_break : (last : Last) (m n : Monitor) → AtLast C last rs m → AtLast C last rs n
      → m.tally.broken ≡ n.tally.broken
  unfolding AtLast
  same_break (unended o s) m n G H =
      λ i. record {
        at = (G.no_break_case ∙ sym H.no_break_case) i;
        reason = (G.no_reason ∙ sym H.no_reason) i;
        cause = (G.no_cause_case ∙ sym H.no_cause_case) i;
      }
  same_break (after_break k x) m n G H =
      λ i. record {
        at = (G.at_last_accepted ∙ sym H.at_last_accepted) i;
        reason = (G.of_stretch ∙ sym H.of_stretch) i;
        cause = (G.has_cause ∙ sym H.has_cause) i;
      }

  same_tally : (last : Last) (m n : Monitor) → Agrees C rs es last m → Agrees C rs es last n → m.tally ≡ n.tally
  same_tally last m n G H =
      let b = same_break last m n G.at_last H.at_last in
      λ i. record {
        now = (G.now ∙ sym H.now) i;
        records = (G.records ∙ sym H.records) i;
        kept = (G.kept ∙ sym H.kept) i;
        dropped = (G.dropped ∙ sym H.dropped) i;
        broken = b i;
      }

  same_monitor : (o : ℕ) (s : Snoc LogRecord) (m n : Monitor) → Agrees C rs es (unended o s) m
      → Agrees C rs es (unended o s) n → m ≡ n
  unfolding AtLast
  same_monitor o s m n G H =
      let t = same_tally (unended o s) m n G H in
      let w : G.at_last.row ≡ H.at_last.row = one_row C A o s G.at_last.row H.at_last.row
      G.at_last.lawful H.at_last.lawful in
      let f = G.at_last.has_fired ∙ ap stands w ∙ sym H.at_last.has_fired in
      let k = G.at_last.has_clocks ∙ ap (reset_moment C o (chart_messages C s)) w ∙ sym H.at_last.has_clocks in
      λ i. record { place = record { fired = f i; clocks = k i }; tally = t i }

pub agrees_only : (C : Chart) → Accepted C → {fs : Snoc LogRecord} (M : Meaning C fs) (m : Monitor)
    → Agrees C M.accepted M.stretches M.last m
    → (m.tally ≡ (after C fs).tally) × ((o : ℕ) (s : Snoc LogRecord) → M.last ≡ unended o s → m ≡ after C fs)
agrees_only C A {fs} M m G = (
  same_tally C A M.accepted M.stretches M.last m (after C fs) G (monitor_agrees C A M).1,
  λ o s q. same_monitor C A M.accepted M.stretches o s m (after C fs)
      (subst (λ (l : Last). Agrees C M.accepted M.stretches l m) q G)
      (subst (λ (l : Last). Agrees C M.accepted M.stretches l (after C fs)) q (monitor_agrees C A M).1),
)
