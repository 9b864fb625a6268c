-- What asking whether a log breaks a chart returns and writes, by the tests in their order. Assumes nothing.
use mathlib.Core.Path.{◌≡◌, sym, ap, ◌∙◌}
use mathlib.Core.Bool.{false}
use mathlib.Core.List.{List}
use Prim.Native.Nat.{ℕ, ◌≤◌, ◌<◌}
use borrow.Author.Tests.{lt-ltb, le-ltb, ne_eqb}
use lib.Dec.{eqb}
use lib.ListN.{length}
use Rattle.model.specs.Answers.{too_short}
use Rattle.std.proofs.Common.{Result, Ok, Err}
use Rattle.chart_step.specs.declared.Fault.{Fault}
use Rattle.chart_step.specs.Refusal.{refusal_number}
use Rattle.chart_step.proofs.Numbers.{refusal_nonzero}
use Rattle.chart_reader.specs.declared.ChartRead.{ChartRead}
use Rattle.chart_reader.specs.Read.{read_chart}
use Rattle.chart_reader.specs.Said.{Said, said}
use Rattle.chart_reader.proofs.Ends.{said_as, by_answer}
use Rattle.breaks.specs.Numbers.{BreakAnswer, break_number}
use Rattle.breaks.specs.Breaks.{breaks_of}
use Rattle.wire.specs.Writing.{starting_with}
use Rattle.lsc_breaks.specs.Breaks.{breaks_places, chart_part, refusal_numbers, answer_numbers}
use Rattle.lsc_breaks.specs.Breaks.{asked_numbers, asked_number, breaks_number, breaks_out}
use Rattle.wire.proofs.Writing.{written}

module _ (chart log out : List ℕ) where
  -- returned and written as the definitions say
  abbrev pub Asked : ℕ → List ℕ → Type 0
  Asked r m = (r ≡ breaks_number chart log out) × (m ≡ breaks_out chart log out)

  pub asked_short : length out < breaks_places → Asked too_short out
  asked_short h = let e = lt-ltb (length out) breaks_places h in (rw e, rw e)

  module _ (h : breaks_places ≤ length out) (q : ChartRead) (p : said q ≡ read_chart chart) {r : ℕ} {m : List ℕ} where
    asked_as : (a : Result (Unit {0}) Fault) → q.answer ≡ a → r ≡ asked_number (said_as q.chart a) log
        → m ≡ starting_with (asked_numbers (said_as q.chart a) log) out → Asked r m
    asked_as a e u v =
        let t = le-ltb (length out) breaks_places h in
        let s : said_as q.chart a ≡ read_chart chart = by_answer chart q a p e in (
          rw t (u ∙ ap (λ (x : Said). asked_number x log) s),
          rw t (written (λ (x : Said). asked_numbers x log) out (sym s) v),
        )

    -- no refusal has the number 0
    pub asked_refused : (f : Fault) (n : ℕ) → q.answer ≡ Err f → n ≡ refusal_number f.refusal → r ≡ n
        → m ≡ starting_with (refusal_numbers chart_part n f.offset) out → Asked r m
    asked_refused f n e k u v =
        let z : eqb (refusal_number f.refusal) 0 ≡ false = ne_eqb _ 0 (refusal_nonzero f.refusal) in
        asked_as (Err f) e (rw z (u ∙ k))
        (rw z (written (λ (x : ℕ). refusal_numbers chart_part x f.offset) out (sym k) v))

    pub asked_accepted : (b : BreakAnswer) → q.answer ≡ Ok tt → b ≡ breaks_of q.chart log → r ≡ break_number b
        → m ≡ starting_with (answer_numbers b) out → Asked r m
    asked_accepted b e k u v = asked_as (Ok tt) e (u ∙ ap break_number k) (written answer_numbers out (sym k) v)
