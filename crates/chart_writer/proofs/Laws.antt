-- The writer's bytes, put piece by piece: what the pieces written one after the other spell. Assumes nothing.
use mathlib.Core.Path.{◌≡◌, refl, sym, ap, ◌∙◌}
use mathlib.Core.Bool.{Bool, true, false, cond}
use mathlib.Core.List.{List, [], ◌∷◌, ◌++◌}
use Prim.Native.Nat.{ℕ, zero, suc, ◌+◌, ◌*◌, ◌≤◌, ◌<◌}
use native.Mathlib.Numerals.{add-one}
use native.Mathlib.Omega.{arith}
use borrow.Author.Tests.{eqb-true}
use lib.Dec.{eqb}
use lib.ListN.{length, length-append}
use Rattle.model.specs.declared.Chart.{Chart}
use Rattle.model.specs.Chart.{region_at}
use Rattle.chart_command.specs.Bytes.{heading_byte, main_byte, end_byte}
use Rattle.chart_value.specs.WellFormed.{well_formed}
use Rattle.chart_value.proofs.Facts.{wf_of, fits_of}
use Rattle.chart_value.specs.Writer.{flag_bytes, region_bytes, main_bytes, regions_bytes, chart_bytes}
use Rattle.region_writer.proofs.Laws.{region_join}

main_join : (c : Chart) (i : ℕ) (s rest : List ℕ) → main_bytes c i s ++ rest ≡ main_bytes c i (s ++ rest)
main_join c i s rest = by (eqb i c.prechart)
  where
    by : (b : Bool) → cond b (main_byte ∷ s) s ++ rest ≡ cond b (main_byte ∷ s ++ rest) (s ++ rest)
    by true = refl
    by false = refl

-- region i, with the 50 before it if it is the first of the main chart
abbrev place_bytes : Chart → ℕ → List ℕ → List ℕ
place_bytes c i s = main_bytes c i (region_bytes (region_at c i) s)

place_join : (c : Chart) (i : ℕ) (s rest : List ℕ) → place_bytes c i s ++ rest ≡ place_bytes c i (s ++ rest)
place_join c i s rest = main_join c i _ rest ∙ ap (main_bytes c i) (region_join (region_at c i) s rest)

regions_join : (c : Chart) (n i : ℕ) (s rest : List ℕ) → regions_bytes c n i s ++ rest ≡ regions_bytes c n i (s ++ rest)
unfolding regions_bytes
regions_join c zero i s rest = refl
regions_join c (suc n) i s rest =
    place_join c i (regions_bytes c n (suc i) s) rest ∙ ap (place_bytes c i) (regions_join c n (suc i) s rest)

-- what the code wants of a chart: 32 regions at most, each with 4 terms at most
pub regions_fit : (c : Chart) → well_formed c ≡ true → c.count ≤ 32
regions_fit c e = (wf_of c e).room

pub terms_fit_lem : (c : Chart) → well_formed c ≡ true → (i : ℕ) → i < c.count → (region_at c i).count ≤ 4
terms_fit_lem c e i h = (fits_of _ _ _ _ _ _ ((wf_of c e).used i h)).terms.count

-- one region more
regions_last : (c : Chart) (n i k : ℕ) → k ≡ i + n → (s : List ℕ)
    → regions_bytes c n i (place_bytes c k s) ≡ regions_bytes c (suc n) i s
unfolding regions_bytes
regions_last c zero i k e s =
    let d : k ≡ i = omega arith in
    ap (λ (x : ℕ). place_bytes c x s) d
regions_last c (suc n) i k e s = ap (place_bytes c i) (regions_last c n (suc i) k (omega arith) s)

-- the 50, if it is wanted
pub main_flag : (c : Chart) (i : ℕ) (s : List ℕ) → main_bytes c i s ≡ flag_bytes main_byte (eqb i c.prechart) s
main_flag c i s = by (eqb i c.prechart)
  where
    by : (b : Bool) → cond b (main_byte ∷ s) s ≡ flag_bytes main_byte b s
    by true = refl
    by false = refl

pub regions_next : (c : Chart) (n : ℕ)
    → regions_bytes c n 0 [] ++ (flag_bytes main_byte (eqb n c.prechart) [] ++ region_bytes (region_at c n) [])
    ≡ regions_bytes c (n + 1) 0 []
regions_next c n =
    ap (λ (s : List ℕ). regions_bytes c n 0 [] ++ (s ++ region_bytes (region_at c n) [])) (sym (main_flag c n []))
    ∙ ap (λ (s : List ℕ). regions_bytes c n 0 [] ++ s) (main_join c n [] (region_bytes (region_at c n) []))
    ∙ regions_join c n 0 [] (place_bytes c n [])
    ∙ regions_last c n 0 n (omega arith) []
    ∙ ap (λ (k : ℕ). regions_bytes c k 0 []) (sym (add-one n))

-- where the bytes of i regions can end: at 41 for each, and one more after the first of the main chart
pub record Ends (prechart at i next : ℕ) : Type 0 where
  pub early : i ≤ prechart → next ≤ at + 41 * i
  pub most : next ≤ at + 41 * i + 1

pub ends_main : {prechart at i : ℕ} (m o : List ℕ) (b : Bool) → eqb i prechart ≡ b → Ends prechart at i (length m)
    → o ≡ m ++ flag_bytes main_byte b []
    → (length o ≤ at + 41 * i + 1) × (suc i ≤ prechart → length o ≤ at + 41 * i)
ends_main {prechart} {at} {i} m o true e E s =
    let d : i ≡ prechart = eqb-true i prechart e in
    let h : length m ≤ at + 41 * i = E.early (omega arith) in
    let k : length o ≡ length m + 1 = ap length s ∙ length-append m (main_byte ∷ []) in
    (omega arith, λ (k : suc i ≤ prechart). absurd (omega (arith, k, d)))
ends_main {prechart} {at} {i} m o false e E s =
    let n : length o ≡ length m + 0 = ap length s ∙ length-append m [] in (
      omega (arith, E.most),
      λ (k : suc i ≤ prechart). let h : length m ≤ at + 41 * i = E.early (omega (arith, k)) in omega arith,
    )

pub ends_next : {prechart at i start stop : ℕ} → (start ≤ at + 41 * i + 1) × (suc i ≤ prechart → start ≤ at + 41 * i)
    → stop ≤ start + 41
    → Ends prechart at (i + 1) stop
ends_next {prechart} {at} {i} {start} {stop} p h = record {
  early = λ (k : i + 1 ≤ prechart). let d : start ≤ at + 41 * i = p.1 (omega (arith, k)) in omega arith;
  most = omega (arith, p.0);
}

-- a chart from its parts
pub chart_parts : (c : Chart)
    → heading_byte ∷ c.lines ∷ c.clocks ∷ (regions_bytes c c.count 0 [] ++ (end_byte ∷ [])) ≡ chart_bytes c
unfolding chart_bytes
chart_parts c =
    ap (λ (s : List ℕ). heading_byte ∷ c.lines ∷ c.clocks ∷ s) (regions_join c c.count 0 [] (end_byte ∷ []))
