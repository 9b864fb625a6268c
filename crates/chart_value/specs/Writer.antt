-- One way to write a chart in bytes: the heading, the regions by their numbers with a 50 before the first of the main
-- chart, and the 7F. A region is its 20 or 21, its terms, a 32 if it is hot, a 40 if it resets a clock, and a 33 if it
-- is marked as a place to rest.
use Rattle.std.specs.Prelude.{ℕ, zero, suc, ◌/◌, ◌%◌, Bool, true, false, cond, List, [], ◌∷◌, eqb}
use Rattle.model.specs.declared.Chart.{Chart}
use Rattle.model.specs.declared.Region.{Region}
use Rattle.model.specs.declared.Event.{Event}
use Rattle.model.specs.declared.Event.TheVariants.{Message, Plain}
use Rattle.model.specs.declared.Term.{Term}
use Rattle.model.specs.declared.Left.{Left}
use Rattle.model.specs.declared.Left.TheVariants.{Clock, Difference}
use Rattle.model.specs.declared.Relation.{Relation}
use Rattle.model.specs.Numbers.{relation_number}
use Rattle.model.specs.Chart.{region_at, term_at}
use Rattle.chart_command.specs.Bytes.{heading_byte, message_byte, plain_byte, clock_term_byte, difference_term_byte, hot_byte}
use Rattle.chart_command.specs.Bytes.{rest_byte, resets_byte, main_byte, end_byte}

-- a number in two bytes, or in four, and what follows it; most significant byte first
abbrev pub two : ℕ → List ℕ → List ℕ
two n rest = n / 256 ∷ n % 256 ∷ rest

abbrev pub four : ℕ → List ℕ → List ℕ
four n rest = two (n / 65536) (two (n % 65536) rest)

abbrev pub relation_byte : Relation → ℕ
relation_byte e = relation_number e

abbrev pub left_bytes : Left → List ℕ → List ℕ
left_bytes (Clock k) rest = clock_term_byte ∷ k ∷ rest
left_bytes (Difference a b) rest = difference_term_byte ∷ a ∷ b ∷ rest

abbrev pub term_bytes : Term → List ℕ → List ℕ
term_bytes t rest = left_bytes t.left (relation_byte t.relation ∷ four t.n rest)

abbrev pub event_bytes : Event → List ℕ → List ℕ
event_bytes (Message m) rest = message_byte ∷ m.source ∷ m.destination ∷ two m.label rest
event_bytes (Plain l) rest = plain_byte ∷ two l rest

-- n terms from term j on
unfoldable pub terms_bytes : Region → ℕ → ℕ → List ℕ → List ℕ
terms_bytes g zero j rest = rest
terms_bytes g (suc n) j rest = term_bytes (term_at g j) (terms_bytes g n (suc j) rest)

-- a command without operands, if it is there
abbrev pub flag_bytes : ℕ → Bool → List ℕ → List ℕ
flag_bytes command true rest = command ∷ rest
flag_bytes command false rest = rest

abbrev pub resets_bytes : ℕ → List ℕ → List ℕ
resets_bytes k rest = cond (eqb k 0) rest (resets_byte ∷ k ∷ rest)

unfoldable pub region_bytes : Region → List ℕ → List ℕ
region_bytes g rest =
    event_bytes g.event
    (terms_bytes g g.count 0
    (flag_bytes hot_byte g.hot (resets_bytes g.resets (flag_bytes rest_byte g.rest rest))))

-- 50 before the first main region
abbrev pub main_bytes : Chart → ℕ → List ℕ → List ℕ
main_bytes c i rest = cond (eqb i c.prechart) (main_byte ∷ rest) rest

-- n regions from region i on
unfoldable pub regions_bytes : Chart → ℕ → ℕ → List ℕ → List ℕ
regions_bytes c zero i rest = rest
regions_bytes c (suc n) i rest = main_bytes c i (region_bytes (region_at c i) (regions_bytes c n (suc i) rest))

unfoldable pub chart_bytes : Chart → List ℕ
chart_bytes c = heading_byte ∷ c.lines ∷ c.clocks ∷ regions_bytes c c.count 0 (end_byte ∷ [])
