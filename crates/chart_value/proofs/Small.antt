-- What the writer writes are bytes. Assumes nothing.
use mathlib.Core.Path.{◌≡◌}
use mathlib.Core.Bool.{Bool, true, false, cond}
use mathlib.Core.List.{List, [], ◌∷◌}
use Prim.Native.Nat.{ℕ, zero, suc, ◌+◌, ◌/◌, ◌%◌, ◌≤◌, ◌<◌}
use native.Mathlib.Omega.{arith}
use native.Mathlib.Nat.{lt_of_lt_of_le}
use lib.Pow.{pow_mono}
use borrow.Author.Tests.{ltb-true}
use lib.Dec.{eqb, ltb}
use lib.ListN.{length, get_or}
use Rattle.model.specs.declared.Chart.{Chart}
use Rattle.model.specs.declared.Region.{Region}
use Rattle.model.specs.declared.Event.{Event}
use Rattle.model.specs.declared.Event.TheVariants.{Message, Plain}
use Rattle.model.specs.declared.Left.{Left}
use Rattle.model.specs.declared.Left.TheVariants.{Clock, Difference}
use Rattle.model.specs.declared.Relation.{Relation}
use Rattle.model.specs.declared.Relation.TheVariants.{Less, AtMost, Equal, AtLeast, More}
use Rattle.model.specs.Chart.{region_at, term_at}
use Rattle.chart_command.specs.Bytes.{heading_byte, message_byte, plain_byte, clock_term_byte, difference_term_byte, hot_byte}
use Rattle.chart_command.specs.Bytes.{rest_byte, resets_byte, main_byte, end_byte}
use Rattle.chart_value.specs.WellFormed.{left_fits, event_fits}
use Rattle.chart_value.specs.Writer.{chart_bytes, regions_bytes, region_bytes, event_bytes, terms_bytes, left_bytes}
use Rattle.chart_value.specs.Writer.{flag_bytes, relation_byte, two, four}
use Rattle.base.proofs.Bools.{both}
use Rattle.chart_value.proofs.Facts.{Terms, WellFormed, fits_of}
use Rattle.chart_value.proofs.Owned.{Ranges, LabelFits}

pub Small : List ℕ → Type 0
Small s = (i : ℕ) → i < length s → get_or s i 0 < 256

next : (b : ℕ) (s : List ℕ) → b < 256 → Small s → Small (b ∷ s)
unfolding Small
next b s h f zero l = h
next b s h f (suc i) l = f i (omega arith)

pub small_at : (s : List ℕ) → Small s → (i : ℕ) → i < length s → get_or s i 0 < 256
unfolding Small
small_at s f = f

none : Small []
unfolding Small
none i l = absurd (omega arith)

two_small : (n : ℕ) (s : List ℕ) → n < 65536 → Small s → Small (two n s)
two_small n s h f = next (n / 256) (n % 256 ∷ s) (omega arith) (next (n % 256) s (omega arith) f)

four_small : (n : ℕ) (s : List ℕ) → n < 4294967296 → Small s → Small (four n s)
four_small n s h f = two_small (n / 65536) (two (n % 65536) s) (omega arith) (two_small (n % 65536) s (omega arith) f)

relation_small : (e : Relation) → relation_byte e < 256
relation_small Less = omega arith
relation_small AtMost = omega arith
relation_small Equal = omega arith
relation_small AtLeast = omega arith
relation_small More = omega arith

left_small : (clocks : ℕ) (l : Left) (s : List ℕ) → clocks ≤ 8 → left_fits clocks l ≡ true → Small s
    → Small (left_bytes l s)
left_small clocks (Clock k) s h e f =
    let a : k < clocks = ltb-true k clocks e in
    next clock_term_byte (k ∷ s) (omega arith) (next k s (omega arith) f)
left_small clocks (Difference a b) s h e f =
    let p = both (ltb a clocks) _ e in
    let q = both (ltb b clocks) _ p.1 in
    let x : a < clocks = ltb-true a clocks p.0 in
    let y : b < clocks = ltb-true b clocks q.0 in
    next difference_term_byte (a ∷ b ∷ s) (omega arith) (next a (b ∷ s) (omega arith) (next b s (omega arith) f))

event_small : (lines : ℕ) (opening : Bool) (before : ℕ) (e : Event) (s : List ℕ) → lines ≤ 16
    → event_fits lines opening before e ≡ true → LabelFits e
    → Small s → Small (event_bytes e s)
event_small lines opening before (Message m) s h e k f =
    let p = both (ltb m.source lines) _ e in
    let q = both (ltb m.destination lines) _ p.1 in
    let x : m.source < lines = ltb-true m.source lines p.0 in
    let y : m.destination < lines = ltb-true m.destination lines q.0 in
    next message_byte _ (omega arith)
    (next m.source _ (omega arith) (next m.destination _ (omega arith) (two_small m.label s k f)))
event_small lines opening before (Plain l) s h e k f = next plain_byte _ (omega arith) (two_small l s k f)

terms_small : (clocks : ℕ) (g : Region) → clocks ≤ 8 → Terms clocks g → Ranges g → (n j : ℕ) → j + n ≡ g.count
    → (s : List ℕ) → Small s
    → Small (terms_bytes g n j s)
unfolding terms_bytes
terms_small clocks g h t r zero j e s f = f
terms_small clocks g h t r (suc n) j e s f =
    let m : g.count ≤ 4 = t.count in
    left_small clocks (term_at g j).left _ h (t.used j (omega arith))
    (next (relation_byte (term_at g j).relation) _ (relation_small (term_at g j).relation)
    (four_small (term_at g j).n _ (r.numbers j (omega arith))
    (terms_small clocks g h t r n (suc j) (omega arith) s f)))

flag_small : (command : ℕ) (b : Bool) (s : List ℕ) → command < 256 → Small s → Small (flag_bytes command b s)
flag_small command true s h f = next command s h f
flag_small command false s h f = f

resets_small : (k : ℕ) (b : Bool) (s : List ℕ) → k < 256 → Small s → Small (cond b s (resets_byte ∷ k ∷ s))
resets_small k true s h f = f
resets_small k false s h f = next resets_byte (k ∷ s) (omega arith) (next k s h f)

module _ (c : Chart) (w : WellFormed c) (r : (i : ℕ) → i < 32 → Ranges (region_at c i)) where
  region_small : (i : ℕ) → i < c.count → (s : List ℕ) → Small s → Small (region_bytes (region_at c i) s)
  unfolding region_bytes
  region_small i h s f =
      let room : c.count ≤ 32 = w.room in
      let x = fits_of _ _ _ _ _ _ (w.used i h) in
      let y = r i (omega arith) in
      event_small c.lines _ _ (region_at c i).event _ w.high x.event y.label
      (terms_small c.clocks (region_at c i) w.clocks x.terms y (region_at c i).count 0 (omega arith) _
      (flag_small hot_byte (region_at c i).hot _ (omega arith)
      (resets_small (region_at c i).resets (eqb (region_at c i).resets 0) _
      (lt_of_lt_of_le x.resets (pow_mono w.clocks))
      (flag_small rest_byte (region_at c i).rest s (omega arith) f))))

  main_small : (b : Bool) (s : List ℕ) → Small s → Small (cond b (main_byte ∷ s) s)
  main_small true s f = next main_byte s (omega arith) f
  main_small false s f = f

  regions_small : (n i : ℕ) → i + n ≡ c.count → (s : List ℕ) → Small s → Small (regions_bytes c n i s)
  unfolding regions_bytes
  regions_small zero i e s f = f
  regions_small (suc n) i e s f =
      main_small (eqb i c.prechart) _ (region_small i (omega arith) _ (regions_small n (suc i) (omega arith) s f))

  pub chart_small : Small (chart_bytes c)
  unfolding chart_bytes
  chart_small =
      let a : c.lines ≤ 16 = w.high in
      let b : c.clocks ≤ 8 = w.clocks in
      next heading_byte _ (omega arith) (next c.lines _ (omega arith) (next c.clocks _ (omega arith)
      (regions_small c.count 0 (omega arith) _ (next end_byte [] (omega arith) none))))
