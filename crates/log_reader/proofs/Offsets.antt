-- Where reading a record leads. Assumes nothing.
use mathlib.Core.Path.{◌≡◌, refl, sym, ap, subst, ◌∙◌}
use mathlib.Core.Bool.{Bool, true, false, cond, not, ◌||◌}
use mathlib.Core.List.{List}
use Prim.Native.Nat.{ℕ, ◌+◌, ◌≤◌, ◌<◌}
use native.Mathlib.Omega.{arith}
use borrow.Author.Tests.{leb-true, leb-false, lt-ltb, le-ltb, le-leb, lt-leb}
use lib.ListN.{length, get_or}
use Rattle.std.specs.Prelude.{Ok, Err}
use lib.Dec.{leb, ltb, eqb}
use Rattle.model.specs.declared.Record.{Record}
use Rattle.model.specs.declared.RawRecord.{RawRecord}
use Rattle.log_reader.specs.declared.RecordRefusal.TheVariants.{CutShort, UnknownByte}
use Rattle.log_reader.specs.declared.Next.TheVariants as next
use Rattle.log_reader.specs.Record.{message_tag, time_tag, raw_message_tag, raw_time_tag, message_size, time_size}
use Rattle.log_reader.specs.Record.{RecordRead, message_at, time_at, raw_message_at, raw_time_at}
use Rattle.log_reader.specs.Next.{next_at}

-- at or past the end there is no record
pub at_end : (s : List ℕ) (at : ℕ) → length s ≤ at → next_at s at ≡ (Ok next.End)
at_end s at h = rw (le-leb _ _ h)

abbrev is_end : RecordRead → Bool
is_end (Ok next.End) = true
is_end (Err f) = false
is_end (Ok (next.Handed e p)) = false
is_end (Ok (next.Raw e p)) = false

module _ (s : List ℕ) (at : ℕ) where
  -- what is read: at the end or not, by the four tags, and by whether all bytes of either record are there
  abbrev pub read : (a p q t u m k : Bool) → RecordRead
  read a p q t u m k =
      cond a (Ok next.End)
      (cond (p || q)
      (cond (not m) (Err CutShort)
      (cond p (Ok (next.Handed (message_at s at) (at + message_size))) (Ok (next.Raw (raw_message_at s at) (at + message_size)))))
      (cond (t || u)
      (cond (not k) (Err CutShort)
      (cond t (Ok (next.Handed (time_at s at) (at + time_size))) (Ok (next.Raw (raw_time_at s at) (at + time_size)))))
      (Err UnknownByte)))

  short : (size : ℕ) (m : Bool) → leb (at + size) (length s) ≡ m → ltb (length s) (at + size) ≡ not m
  short size true e = le-ltb (length s) (at + size) (leb-true (at + size) (length s) e)
  short size false e = lt-ltb (length s) (at + size) (leb-false (at + size) (length s) e)

  pub is_read : next_at s at ≡ read (leb (length s) at) (eqb (get_or s at 0) message_tag) (eqb (get_or s at 0) raw_message_tag)
      (eqb (get_or s at 0) time_tag) (eqb (get_or s at 0) raw_time_tag) (leb (at + message_size) (length s))
      (leb (at + time_size) (length s))
  is_read = rw (short message_size _ refl, short time_size _ refl)

  -- the offset moves past the record, and not past the end
  Past : RecordRead → Type 0
  Past (Ok next.End) = Unit {0}
  Past (Err f) = Unit {0}
  Past (Ok (next.Handed e p)) = (at < p) × (p ≤ length s)
  Past (Ok (next.Raw e p)) = (at < p) × (p ≤ length s)

  read_past : (a p q t u m k : Bool) → leb (at + message_size) (length s) ≡ m → leb (at + time_size) (length s) ≡ k
      → Past (read a p q t u m k)
  unfolding Past
  read_past true p q t u m k x y = tt
  read_past false true q t u true k x y = (omega arith, leb-true (at + message_size) (length s) x)
  read_past false true q t u false k x y = tt
  read_past false false true t u true k x y = (omega arith, leb-true (at + message_size) (length s) x)
  read_past false false true t u false k x y = tt
  read_past false false false true u m true x y = (omega arith, leb-true (at + time_size) (length s) y)
  read_past false false false true u m false x y = tt
  read_past false false false false true m true x y = (omega arith, leb-true (at + time_size) (length s) y)
  read_past false false false false true m false x y = tt
  read_past false false false false false m k x y = tt

  past : Past (next_at s at)
  past =
      subst Past (sym is_read)
      (read_past (leb (length s) at) (eqb (get_or s at 0) message_tag) (eqb (get_or s at 0) raw_message_tag)
      (eqb (get_or s at 0) time_tag) (eqb (get_or s at 0) raw_time_tag) (leb (at + message_size) (length s))
      (leb (at + time_size) (length s)) refl refl)

  pub taken_past : (e : Record) (p : ℕ) → next_at s at ≡ Ok (next.Handed e p) → (at < p) × (p ≤ length s)
  unfolding Past
  taken_past e p q = subst Past q past

  pub raw_past : (e : RawRecord) (p : ℕ) → next_at s at ≡ Ok (next.Raw e p) → (at < p) × (p ≤ length s)
  unfolding Past
  raw_past e p q = subst Past q past

  -- before the end something stands
  read_some : (p q t u m k : Bool) → is_end (read false p q t u m k) ≡ false
  read_some true q t u true k = refl
  read_some true q t u false k = refl
  read_some false true t u true k = refl
  read_some false true t u false k = refl
  read_some false false true u m true = refl
  read_some false false true u m false = refl
  read_some false false false true m true = refl
  read_some false false false true m false = refl
  read_some false false false false m k = refl

  pub not_end : at < length s → ¬ (next_at s at ≡ (Ok next.End))
  not_end h q =
      let p = eqb (get_or s at 0) message_tag in
      let r = eqb (get_or s at 0) raw_message_tag in
      let t = eqb (get_or s at 0) time_tag in
      let u = eqb (get_or s at 0) raw_time_tag in
      let m = leb (at + message_size) (length s) in
      let k = leb (at + time_size) (length s) in
      let z : ◌≡◌ {A = Bool} true false = ap is_end (sym q ∙ is_read)
      ∙ ap (λ (a : Bool). is_end (read a p r t u m k)) (lt-leb (length s) at h) ∙ read_some p r t u m k in
      let w : ◌≡◌ {A = ℕ} 0 1 = ap (λ (b : Bool). cond b 0 1) z in
      omega arith
