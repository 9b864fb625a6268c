-- Saving a chart (D1 to D6): what is answered, and what the buffer becomes, case by case. A case says when it applies.
use Rattle.std.specs.Prelude.{◌≡◌, List, ℕ, ◌≤◌, ◌<◌, length, get_or, take, Result, Ok, Err}
use Rattle.model.specs.declared.Chart.{Chart}
use Rattle.chart_reader.specs.Said.{said, accepted_as}
use Rattle.chart_reader.specs.Read.{read_chart}
use Rattle.chart_value.specs.Given.{Given}
use Rattle.chart_value.specs.Writer.{chart_bytes}
use Rattle.chart_writer.specs.declared.SaveRefusal.{SaveRefusal}
use Rattle.chart_writer.specs.declared.SaveRefusal.TheVariants.{NotAChart, TooShort}
use Rattle.save_claims.specs.declared.Resaved.{Resaved}

-- the buffer l has become n: the chart's bytes at its start, every other byte as it was
pub record Holds (c : Chart) (l n : List ℕ) : Type 0 where
  pub size : length n ≡ length l
  pub bytes : (i : ℕ) → i < length (chart_bytes c) → get_or n i 0 ≡ get_or (chart_bytes c) i 0
  pub rest : (i : ℕ) → length (chart_bytes c) ≤ i → get_or n i 0 ≡ get_or l i 0

-- 20, then 12 with the length needed, each with the buffer as it came. Else the length written.
pub data SavesAs (c : Chart) (l : List ℕ) : Result ℕ SaveRefusal → List ℕ → Type 0 where
  not_given : ¬ Given c → SavesAs c l (Err NotAChart) l
  too_short_case : Given c → length l < length (chart_bytes c) → SavesAs c l (Err (TooShort (length (chart_bytes c)))) l
  saves : Given c → length (chart_bytes c) ≤ length l → (n : List ℕ) → Holds c l n
      → SavesAs c l (Ok (length (chart_bytes c))) n

-- this answer and this buffer alone
pub record SavesJust (c : Chart) (l : List ℕ) (r : Result ℕ SaveRefusal) (n : List ℕ) : Type 0 where
  pub holds : SavesAs c l r n
  pub only : (s : Result ℕ SaveRefusal) (k : List ℕ) → SavesAs c l s k → (s ≡ r) × (k ≡ n)

-- the length that was written; 0 after a refusal
abbrev pub written_length : Result ℕ SaveRefusal → ℕ
written_length (Ok n) = n
written_length (Err k) = 0

-- D5: what was written, in the buffer l, is read; and it is read as the chart
pub record ReadBack (c : Chart) (l : List ℕ) (r : Resaved) : Type 0 where
  pub written : said r.read ≡ read_chart (take (written_length r.saved) l)
  pub again : (n : ℕ) → r.saved ≡ Ok n → said r.read ≡ accepted_as c
