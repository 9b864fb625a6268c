-- The guards of the reader's definition never fire: the reading states keep their invariant, and they are those that
-- reading passes through, since any larger count of commands reads the same. Assumes nothing.
use mathlib.Core.Path.{◌≡◌, refl, sym, ap, subst, ◌∙◌}
use mathlib.Core.Bool.{Bool, true, false, true≢false, false≢true, not}
use mathlib.Core.Logic.{inl, inr}
use mathlib.Core.List.{List}
use Prim.Native.Nat.{ℕ, zero, suc, ◌+◌, ◌≤◌, ◌<◌}
use native.Mathlib.Omega.{arith}
use borrow.Author.Tests.{leb-false}
use lib.Dec.{leb}
use lib.ListN.{length}
use Rattle.base.proofs.Bools.{neither}
use Rattle.model.specs.declared.Chart.{Chart}
use Rattle.model.specs.Chart.{most_lines, most_regions, most_terms}
use Rattle.chart_command.specs.declared.Command.TheVariants.{Message, ClockTerm, DifferenceTerm}
use Rattle.std.proofs.Common.{Option, Some, None, Result, Ok, Err}
use Rattle.chart_step.specs.declared.Fault.{Fault}
use Rattle.chart_step.specs.declared.Step.{Step}
use Rattle.chart_step.specs.declared.Refusal.TheVariants.{CutShort, Misplaced, Outside, Excess}
use Rattle.chart_step.specs.declared.Reading.{Reading}
use Rattle.chart_step.specs.Reading.{fault_of, is_outside, closing_fault}
use Rattle.chart_reader.specs.Read.{read_chart, read_from, continue_at, continue_by, advance_of, start_reading}
use Rattle.chart_reader.specs.Said.{Said, accepted_as}
use Rattle.chart_reader.proofs.Count.{any_count}
use Rattle.chart_value.specs.Guards.{Reached, start, next, EndsAs, NeverFire}
use Rattle.chart_value.proofs.Sound.{AfterBy, After, Ready, State, idle, busy, first_clear, clear, advance_keeps, never}

reached_ready : {s : List ℕ} {at : ℕ} {r : Reading} → Reached s at r → Ready r
unfolding Ready AfterBy
reached_ready start = inl refl
reached_ready {s} (next {at} {r} m x q e) =
    inr (subst (λ (a : Result Step Fault). After a) e (advance_keeps s at r (reached_ready q)))

room : (r : Reading) → Ready r → r.started ≡ true → r.chart.count < most_regions
unfolding Ready
room r (inl e) h = absurd (false≢true (sym (ap (λ (x : Reading). x.started) e) ∙ h))
room r (inr v) h = by v.state
  where
    by : State r → r.chart.count < most_regions
    by (idle s c t) = absurd (false≢true (sym s ∙ h))
    by (busy s c w t) = w.room

high : (r : Reading) → Ready r → r.headed ≡ true → r.chart.lines ≤ most_lines
unfolding Ready
high r (inl e) h = absurd (false≢true (sym (ap (λ (x : Reading). x.headed) e) ∙ h))
high r (inr v) h = by v.state
  where
    by : State r → r.chart.lines ≤ most_lines
    by (idle s c t) = c.high
    by (busy s c w t) = c.high

lines : (r : Reading) → Ready r → (at n a b l : ℕ) (more : Bool) → fault_of r at n more (Message a b l) ≡ None
    → (a < most_lines) × (b < most_lines)
lines r v at n a b l more e =
    let p = clear (not r.headed) Misplaced at _ e in
    let q = first_clear (closing_fault r) _ p.1 in
    let u = clear (is_outside r.chart (Message a b l)) Outside at _ q.1 in
    let x = neither (leb r.chart.lines a) _ u.0 in
    let y = neither (leb r.chart.lines b) _ x.1 in
    let h : r.chart.lines ≤ most_lines = high r v (headed r.headed p.0) in
    let m : a < r.chart.lines = leb-false _ _ x.0 in
    let k : b < r.chart.lines = leb-false _ _ y.0 in
    (omega arith, omega arith)
  where
    headed : (b : Bool) → not b ≡ false → b ≡ true
    headed true e = refl
    headed false e = absurd (true≢false e)

-- accepted bytes are read to such an end
passes : (n : ℕ) {s : List ℕ} {at : ℕ} {r : Reading} (c : Chart) → Reached s at r → read_from n s at r ≡ accepted_as c
    → EndsAs s c
unfolding read_from
passes zero {s} c q e = never CutShort (length s) c e
passes (suc n) {s} {at} {r} c q e = by (advance_of s at r) refl e (λ m x y. passes n c y)
  where
    on : (x : Reading) (o : Option ℕ) → advance_of s at r ≡ Ok (record { reading = x; next = o })
        → continue_at (read_from n s) o x ≡ accepted_as c
        → ((m : ℕ) (x : Reading) → Reached s m x → read_from n s m x ≡ accepted_as c → EndsAs s c) → EndsAs s c
    on x (Some m) g e k = k m x (next m x q g) e
    on x None g e k =
        record {
          offset = at;
          reading = r;
          reached = q;
          end = x;
          last = g;
          chart = ap (λ (x : Said). x.chart) e;
        }

    by : (a : Result Step Fault) → advance_of s at r ≡ a → continue_by (read_from n s) a ≡ accepted_as c
        → ((m : ℕ) (x : Reading) → Reached s m x → read_from n s m x ≡ accepted_as c → EndsAs s c) → EndsAs s c
    by (Ok st) g e k = on st.reading st.next g e k
    by (Err f) g e k = never f.refusal f.offset c e

-- some commands lead from the start to a reached state, whatever count is left for the rest
record Led (s : List ℕ) (at : ℕ) (r : Reading) : Type 0 where
  taken : ℕ
  same : (m n : ℕ) → m ≡ n + taken → read_from m s 0 start_reading ≡ read_from n s at r

led : {s : List ℕ} {at : ℕ} {r : Reading} → Reached s at r → Led s at r
unfolding read_from
led {s} start = record {
  taken = 0;
  same = λ m n h. let e : m ≡ n = omega arith in ap (λ (k : ℕ). read_from k s 0 start_reading) e;
}
led {s} (next {at} {r} m x q e) =
    let l = led q in record {
      taken = suc l.taken;
      same = λ k n h.
          l.same k (suc n) (omega arith) ∙ ap (λ (a : Result Step Fault). continue_by (read_from n s) a) e;
    }

accepted : (s : List ℕ) (c : Chart) → EndsAs s c → read_chart s ≡ accepted_as c
unfolding read_from
accepted s c x =
    let l = led x.reached in
    any_count s (read_chart s) refl (suc (length s) + l.taken) (omega arith)
    ∙ l.same (suc (length s) + l.taken) (suc (length s)) refl
    ∙ ap (λ (a : Result Step Fault). continue_by (read_from (length s) s) a) x.last
    ∙ ap accepted_as x.chart

pub never_fire : NeverFire
unfolding read_chart
never_fire =
    record {
      reaches_end = λ s c. (passes (length s + 1) c start, accepted s c);
      room = λ s at r q. room r (reached_ready q);
      lines = λ s at r q. lines r (reached_ready q) at;
      clock_term = λ r at m k e n more f.
          let p = clear (not r.started) Misplaced at _ f in
          let u = clear (is_outside r.chart (ClockTerm k e n)) Outside at _ p.1 in
          leb-false _ _ (clear (leb most_terms r.region.count) Excess at _ u.1).0;
      difference_term = λ r at m a b e n more f.
          let p = clear (not r.started) Misplaced at _ f in
          let u = clear (is_outside r.chart (DifferenceTerm a b e n)) Outside at _ p.1 in
          leb-false _ _ (clear (leb most_terms r.region.count) Excess at _ u.1).0;
    }
