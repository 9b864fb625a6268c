-- What saving a chart from bytes returns and writes, by the reader's answer. Assumes nothing.
use mathlib.Core.Path.{◌≡◌, refl, sym, ap, ◌∙◌}
use mathlib.Core.Bool.{Bool, true, false, cond}
use mathlib.Core.List.{List}
use Prim.Native.Nat.{ℕ, ◌≤◌}
use Rattle.std.specs.Prelude.{Result, Ok, Err}
use native.Mathlib.Omega.{arith}
use borrow.Author.Tests.{ne_eqb}
use lib.Dec.{eqb, ltb}
use lib.ListN.{length, take, drop}
use Rattle.wire.specs.Writing.{starting_with, writer_answer, writer_buffer}
use Rattle.wire.proofs.Writing.{take_front}
use Rattle.std.proofs.Common.{Ok, Err}
use Rattle.chart_step.specs.declared.Fault.{Fault}
use Rattle.chart_step.specs.Refusal.{refusal_number, most_refusal}
use Rattle.chart_step.proofs.Numbers.{refusal_nonzero, refusal_most}
use Rattle.chart_reader.specs.declared.ChartRead.{ChartRead}
use Rattle.chart_reader.specs.Read.{read_chart}
use Rattle.chart_reader.specs.Said.{Said, said, accepted_as}
use Rattle.chart_reader.proofs.Ends.{said_as, by_answer}
use Rattle.chart_value.specs.WellFormed.{well_formed}
use Rattle.chart_value.specs.Writer.{chart_bytes}
use Rattle.chart_value.proofs.Exact.{accepted_whole}
use Rattle.chart_writer.specs.declared.SaveRefusal.{SaveRefusal}
use Rattle.chart_writer.specs.declared.SaveRefusal.TheVariants.{TooShort}
use Rattle.chart_writer.specs.Save.{saved_answer, saved_buffer, saved_number, saved_size}
use Rattle.chart_rewriter.specs.Write.{write_number, write_at, write_out, ReadsAgain}

-- a writer's answer has the number 0 or 12
listed_by : (b : Bool) (n : ℕ) → saved_number (cond b (Err (TooShort n)) (Ok n)) ≤ most_refusal
listed_by true n = omega arith
listed_by false n = omega arith

-- and with 0 the whole text is there
text_by : (out : List ℕ) (b : Bool) (t : List ℕ) → saved_number (cond b (Err (TooShort (length t))) (Ok (length t))) ≡ 0
    → take (saved_size (cond b (Err (TooShort (length t))) (Ok (length t)))) (cond b out (starting_with t out)) ≡ t
text_by out true t h = absurd (omega arith)
text_by out false t h = take_front t (drop (length t) out)

module _ (chart out : List ℕ) where
  -- returned and written as the definitions say
  pub record Writes (r at : ℕ) (m : List ℕ) : Type 0 where
    pub number : r ≡ write_number (read_chart chart) out
    pub listed : r ≤ most_refusal
    pub place : at ≡ write_at (read_chart chart) out
    pub bytes : m ≡ write_out (read_chart chart) out
    pub again : ReadsAgain chart r at m

  module _ (q : ChartRead) (p : said q ≡ read_chart chart) where
    pub refused : {r at : ℕ} {m : List ℕ} (f : Fault) → q.answer ≡ Err f → r ≡ refusal_number f.refusal → at ≡ f.offset
        → m ≡ out → Writes r at m
    refused f e k o b =
        let s : said_as q.chart (Err f) ≡ read_chart chart = by_answer chart q (Err f) p e in
        let z : eqb (refusal_number f.refusal) 0 ≡ false = ne_eqb _ 0 (refusal_nonzero f.refusal) in
        record {
          number = rw (← s, z) k;
          listed = omega (arith, k, refusal_most f.refusal);
          place = rw (← s, z) o;
          bytes = rw (← s, z) b;
          again = record { same = λ h. absurd (refusal_nonzero f.refusal (sym k ∙ h)) };
        }

    module _ (e : q.answer ≡ Ok tt) where
      is_read : accepted_as q.chart ≡ read_chart chart
      is_read = by_answer chart q (Ok tt) p e

      given : well_formed q.chart ≡ true
      given =
          ap (λ (x : Said). well_formed x.chart) is_read
          ∙ accepted_whole chart (sym (ap (λ (x : Said). x.number) is_read))

      pub accepted : {r at : ℕ} {m : List ℕ}
          → (well_formed q.chart ≡ true → read_chart (chart_bytes q.chart) ≡ accepted_as q.chart)
          → (a : Result ℕ SaveRefusal) → a ≡ saved_answer q.chart out → m ≡ saved_buffer q.chart out → r ≡ saved_number a
          → at ≡ saved_size a → Writes r at m
      accepted back a w b k o =
          let t = chart_bytes q.chart in
          let s : a ≡ writer_answer Ok (λ n. Err (TooShort n)) t out = w ∙ rw given refl in
          let f = b ∙ ap (λ (x : Bool). cond x (writer_buffer t out) out) given in
          record {
            number = rw (← is_read) (k ∙ ap saved_number w);
            listed = rw (k, s) (listed_by (ltb (length out) (length t)) (length t));
            place = rw (← is_read) (o ∙ ap saved_size w);
            bytes = rw (← is_read) b;
            again = record {
              same = λ h.
                  ap read_chart ((λ i. take ((o ∙ ap saved_size s) i) (f i))
                  ∙ text_by out (ltb (length out) (length t)) t (sym (k ∙ ap saved_number s) ∙ h))
                  ∙ back given
                  ∙ is_read;
            };
          }
