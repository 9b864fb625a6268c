-- What owning a chart says: the lengths of its arrays. Assumes nothing.
use mathlib.Core.Path.{◌≡◌}
use mathlib.Core.List.{List, [], ◌∷◌}
use Prim.Native.Nat.{ℕ, ◌<◌}
use native.Mathlib.Omega.{arith}
use lib.ListN.{length}
use mir.Val.{Val}
use denote.Laws.{Is}
use denote.Struct.Declared.{row}
use denote.Enum.Declared as enum
use Rattle.model.proofs.Owned.{each_at}
use Rattle.model.specs.contracts.Chart as chart
use Rattle.model.specs.contracts.Region as region
use Rattle.model.specs.contracts.Event as event
use Rattle.model.specs.contracts.Term as term
use Rattle.model.specs.declared.Term.{Term}
use Rattle.model.specs.declared.Event.{Event}
use Rattle.model.specs.declared.Event.TheVariants.{Message, Plain}
use Rattle.model.specs.declared.Chart.{Chart}
use Rattle.model.specs.declared.Region.{Region}
use Rattle.model.specs.Chart.{zero_term, absent_region, region_at, term_at}
use Rattle.chart_value.proofs.Facts.{Shape}

-- the ranges of Rust's types that no other rule gives: labels in two bytes, the numbers of terms in four
abbrev pub LabelFits : Event → Type 0
LabelFits (Message m) = m.label < 65536
LabelFits (Plain l) = l < 65536

pub record Ranges (g : Region) : Type 0 where
  pub size : length g.terms ≡ 4
  pub label : LabelFits g.event
  pub numbers : (j : ℕ) → j < 4 → (term_at g j).n < 4294967296

owned_event : (e : Event) (vs : List Val) → Is (enum.row event.the_type) e vs → LabelFits e
owned_event (Message m) vs p = p.1.1.1.1.0.1.1.1.1.0.1
owned_event (Plain l) vs p = p.1.1.1.1.0.1

pub owned_region : (g : Region) (vs : List Val) → Is (row region.the_type) g vs → Ranges g
owned_region g vs p =
    let ts = p.1.1.1.1.0 in
    let size : length g.terms ≡ 4 = ts.1.0.1 in
    record {
      size = size;
      label = owned_event g.event p.0.0 p.1.1.0;
      numbers =
          λ j h. (each_at Term (term.the_row).own_val g.terms ts.0 j zero_term ts.1.1
          (omega arith)).1.1.1.1.1.0.1;
    }

pub owned_size : (c : Chart) (vs : List Val) → Is (row chart.the_type) c vs → length c.regions ≡ 32
owned_size c vs p = p.1.1.1.1.1.1.0.1.0.1

pub owned_at : (c : Chart) (vs : List Val) → Is (row chart.the_type) c vs → (i : ℕ) → i < 32 → Ranges (region_at c i)
owned_at c vs p i h =
    let q = p.1.1.1.1.1.1.0 in
    let size = owned_size c vs p in
    let e = each_at Region (region.the_row).own_val c.regions q.0 i absent_region q.1.1
    (omega (arith, size)) in
    owned_region (region_at c i) (e.0 ∷ []) e.1

pub owned_shape : (c : Chart) (vs : List Val) → Is (row chart.the_type) c vs → Shape c
owned_shape c vs p = record { regions = owned_size c vs p; terms = λ i h. (owned_at c vs p i h).size }
