-- A region's bytes, put piece by piece: what the pieces written one after the other spell. Assumes nothing.
use mathlib.Core.Path.{◌≡◌, refl, sym, ap, ◌∙◌}
use mathlib.Core.Bool.{Bool, true, false, cond}
use mathlib.Core.List.{List, [], ◌∷◌, ◌++◌}
use Prim.Native.Nat.{ℕ, zero, suc, ◌+◌}
use native.Mathlib.Numerals.{add-one}
use native.Mathlib.Omega.{arith}
use lib.Dec.{eqb}
use Rattle.model.specs.declared.Region.{Region}
use Rattle.model.specs.declared.Event.{Event}
use Rattle.model.specs.declared.Event.TheVariants.{Message, Plain}
use Rattle.model.specs.declared.Term.{Term}
use Rattle.model.specs.declared.Left.{Left}
use Rattle.model.specs.declared.Left.TheVariants.{Clock, Difference}
use Rattle.model.specs.Chart.{term_at}
use Rattle.chart_command.specs.Bytes.{hot_byte, rest_byte, resets_byte}
use Rattle.chart_value.specs.Writer.{left_bytes, term_bytes, event_bytes, terms_bytes, flag_bytes, resets_bytes}
use Rattle.chart_value.specs.Writer.{region_bytes}
use Rattle.region_writer.specs.Parts.{marks_bytes}

-- what follows a piece may be joined to it before or after
left_join : (l : Left) (s rest : List ℕ) → left_bytes l s ++ rest ≡ left_bytes l (s ++ rest)
left_join (Clock k) s rest = refl
left_join (Difference a b) s rest = refl

event_join : (e : Event) (s rest : List ℕ) → event_bytes e s ++ rest ≡ event_bytes e (s ++ rest)
event_join (Message m) s rest = refl
event_join (Plain l) s rest = refl

term_join : (t : Term) (s rest : List ℕ) → term_bytes t s ++ rest ≡ term_bytes t (s ++ rest)
term_join t s rest = left_join t.left _ rest

terms_join : (g : Region) (n j : ℕ) (s rest : List ℕ) → terms_bytes g n j s ++ rest ≡ terms_bytes g n j (s ++ rest)
unfolding terms_bytes
terms_join g zero j s rest = refl
terms_join g (suc n) j s rest =
    term_join (term_at g j) (terms_bytes g n (suc j) s) rest ∙ ap (term_bytes (term_at g j)) (terms_join g n (suc j) s rest)

flag_join : (command : ℕ) (b : Bool) (s rest : List ℕ)
    → flag_bytes command b s ++ rest ≡ flag_bytes command b (s ++ rest)
flag_join command true s rest = refl
flag_join command false s rest = refl

resets_join : (k : ℕ) (s rest : List ℕ) → resets_bytes k s ++ rest ≡ resets_bytes k (s ++ rest)
resets_join k s rest = by (eqb k 0)
  where
    by : (b : Bool) → cond b s (resets_byte ∷ k ∷ s) ++ rest ≡ cond b (s ++ rest) (resets_byte ∷ k ∷ s ++ rest)
    by true = refl
    by false = refl

pub region_join : (g : Region) (s rest : List ℕ) → region_bytes g s ++ rest ≡ region_bytes g (s ++ rest)
unfolding region_bytes
region_join g s rest =
    event_join g.event _ rest
    ∙ ap (event_bytes g.event)
    (terms_join g g.count 0 _ rest
    ∙ ap (terms_bytes g g.count 0)
    (flag_join hot_byte g.hot _ rest
    ∙ ap (flag_bytes hot_byte g.hot)
    (resets_join g.resets _ rest ∙ ap (resets_bytes g.resets) (flag_join rest_byte g.rest s rest))))

-- one term more
terms_last : (g : Region) (n j k : ℕ) → k ≡ j + n → (s : List ℕ)
    → terms_bytes g n j (term_bytes (term_at g k) s) ≡ terms_bytes g (suc n) j s
unfolding terms_bytes
terms_last g zero j k e s =
    let d : k ≡ j = omega arith in
    ap (λ (x : ℕ). term_bytes (term_at g x) s) d
terms_last g (suc n) j k e s = ap (term_bytes (term_at g j)) (terms_last g n (suc j) k (omega arith) s)

pub terms_next : (g : Region) (n : ℕ) → terms_bytes g n 0 [] ++ term_bytes (term_at g n) [] ≡ terms_bytes g (n + 1) 0 []
terms_next g n =
    terms_join g n 0 [] (term_bytes (term_at g n) [])
    ∙ terms_last g n 0 n (omega arith) []
    ∙ ap (λ (k : ℕ). terms_bytes g k 0 []) (sym (add-one n))

-- a region from its parts
pub region_parts : (g : Region)
    → event_bytes g.event [] ++ (terms_bytes g g.count 0 [] ++ marks_bytes g.hot g.resets g.rest)
    ≡ region_bytes g []
unfolding region_bytes
region_parts g =
    event_join g.event [] _
    ∙ ap (event_bytes g.event) (terms_join g g.count 0 [] (marks_bytes g.hot g.resets g.rest))
