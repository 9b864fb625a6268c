-- V11, V12, V17: what feeding and asking for a standing return and write.
use Rattle.std.specs.Prelude.{ℕ, ◌≡◌, cond, List, ltb, length, Result, Ok, Err}
use Rattle.wire.specs.Writing.{in_room}
use Rattle.model.specs.Numbers.{places, verdict_numbers, fed_cause}
use Rattle.model.specs.declared.Record.{Record}
use Rattle.model.specs.Answers.{too_short, Fed, fed_number, feed_refusal_number}
use Rattle.live.specs.Live.{LiveFed}
use Rattle.model.specs.declared.Verdict.{Verdict}
use Rattle.model.specs.declared.FeedRefusal.{FeedRefusal}

-- a feed of live bytes returns its answer's number
pub record FedNumber (l : List ℕ) (e : Record) (number : ℕ) (n : List ℕ) : Type 0 where
  pub answer : Fed
  pub fed : LiveFed l e answer n
  pub is_number : number ≡ fed_number answer

-- and it can give out the answer's cause
pub record FedWhy (l : List ℕ) (e : Record) (number region term : ℕ) (n : List ℕ) : Type 0 where
  pub returned : FedNumber l e number n
  pub is_region : region ≡ (fed_cause returned.answer).region
  pub is_term_case : term ≡ (fed_cause returned.answer).term

-- the bytes and the record fix what is returned and given out
pub record FeedsTell : Type 0 where
  pub number : {l n n' : List ℕ} {e : Record} {r s : ℕ} → FedNumber l e r n → FedNumber l e s n' → r ≡ s
  pub why : {l n n' : List ℕ} {e : Record} {r s i j t u : ℕ} → FedWhy l e r i t n → FedWhy l e s j u n'
      → (r ≡ s) × (i ≡ j) × (t ≡ u)

-- 20 and 21 before 12; only on 0 is out written
abbrev pub standing_number : Result Verdict FeedRefusal → List ℕ → ℕ
standing_number (Ok v) out = cond (ltb (length out) places) too_short 0
standing_number (Err k) out = feed_refusal_number k

abbrev pub standing_out : Result Verdict FeedRefusal → List ℕ → List ℕ
standing_out (Ok v) out = in_room places (verdict_numbers v) out
standing_out (Err k) out = out
