-- One record met from its bytes: what the check says of it. Assumes nothing.
use Rattle.std.proofs.Common.{◌≡◌, ℕ, ◌+◌, ◌-◌, ◌*◌, ◌/◌, ◌%◌, ◌^◌, ◌<◌, ◌≤◌, Bool, true, false, cond, ◌&&◌, eqb, ltb, leb, ◌≢◌, List, None, Ok, Err, length, get_or, sym, refl, ap, ◌∙◌, ap₂, arith, ltb-false, ltb-true, le-ltb, ne_eqb, le-leb, leb-false, leb-true}
use borrow.Author.Tests.{lt-leb}
use Rattle.wire.specs.Bytes.{word16, word32}
use Rattle.model.specs.declared.Moment.{Moment}
use Rattle.model.specs.declared.Stamp.{Stamp}
use Rattle.model.specs.Answers.{most_records}
use Rattle.log_reader.specs.Record.{message_tag, time_tag, raw_message_tag, raw_time_tag, message_size, time_size}
use Rattle.log_clock.specs.declared.Kind.{Kind}
use Rattle.log_clock.specs.declared.Kind.TheVariants.{Plain, Raw}
use Rattle.log_clock.specs.declared.MomentRefusal.TheVariants.{Falls, TooLate}
use Rattle.log_clock.specs.Clock.{Timed, range, half_range, gap_of, later_moment}
use Rattle.log_clock.proofs.Times.{gap_only, later_at}
use Rattle.log_check.specs.declared.LogRefusal.TheVariants.{NoMoment, TooManyRecords}
use Rattle.log_check.specs.Check.{CheckStep}
use Rattle.log_check.specs.Check.{Over, Going}
use Rattle.log_check.specs.declared.pace.Pace.{Pace}
use Rattle.log_check.specs.declared.MetRecord.{MetRecord}
use Rattle.log_check.specs.Refusal.{fault, Checked}
use Rattle.log_check.specs.Check.{take_record, step_at}
use Rattle.log_check.specs.Met.{Met, met_record, plain_pace, raw_pace, kind_in, met_if, code_of, code_at}
use Rattle.log_check.specs.Met.{is_message, met_by, met_at, Steady, ended_by}
use Rattle.log_check.proofs.Paces.{Paced, plainly, rawly}
use Rattle.log_check.proofs.Laws.{took, went, Left, left_step}
use Rattle.log_check.proofs.Steps.{whole, take_timed, plain_message, plain_time, plain_fault}
use Rattle.log_check.proofs.Steps.{raw_message_case, raw_time_case, raw_fault}

-- a difference in 64 bits, below zero if the moment falls
pub ticks_in : (p : Pace) → Paced p → (t last d : ℕ) → t < range → last < range → d < 2 ^ 64 → (d + last) % 2 ^ 64 ≡ t
    → leb d p.most ≡ (leb last t && leb (t - last) p.most)
ticks_in p P t last d h l m q = by (leb last t) refl
  where
    small : (p : Pace) → Paced p → p.most < range
    small p plainly = omega arith
    small p (rawly o) = omega arith

    by : (a : Bool) → leb last t ≡ a → leb d p.most ≡ (a && leb (t - last) p.most)
    by true x =
        let b = leb-true last t x in
        let e : d ≡ t - last = omega (arith, b) in
        ap (λ (y : ℕ). leb y p.most) e
    by false x = let b = leb-false last t x in lt-leb d p.most (omega (arith, b, small p P))

pub small_byte : (p : Pace) → Paced p → p.message < 255
small_byte p plainly = omega arith
small_byte p (rawly o) = omega arith

-- what is met at an offset
pub record Meets (s : List ℕ) (at : ℕ) (p : Pace) (last : Moment) (n : ℕ) (r : Met) : Type 0 where
  pub met : r ≡ met_at s at p last n
  pub steady : Steady s at p last n

module _ (s : List ℕ) (at : ℕ) (p : Pace) (last : Moment) (n : ℕ) where
  -- the check is over there
  meets_over : (c : Checked) → step_at s at (kind_in p last) last n ≡ Over c → Meets s at p last n None
  meets_over c e = record {
    met = sym (ap (met_by (code_at s at)) e);
    steady = λ q k t m g. let z : Over c ≡ Going q k t m = sym e ∙ g in let w : ◌≡◌ {A = ℕ} 0 1 = cc in absurd (omega arith);
  }

  -- a record at a moment t, in time
  meets_sound : (t : Moment) (past : ℕ) → ltb t.0 last.0 ≡ false
      → step_at s at (kind_in p last) last n ≡ take_record (kind_in p t) t past at last n
      → Meets s at p last n (cond (leb most_records n) None (met_record (code_at s at) t past))
  meets_sound t past l e = by (leb most_records n) refl
    where
      steady : Steady s at p last n
      steady q k u m g =
          let T = took (kind_in p t) t past at last n q k u m (sym e ∙ g) in
          sym T.is_kind_lem ∙ ap (kind_in p) T.is_time

      by : (b : Bool) → leb most_records n ≡ b → Meets s at p last n (cond b None (met_record (code_at s at) t past))
      by true y =
          let v : take_record (kind_in p t) t past at last n ≡ Over (Err (fault TooManyRecords at)) = rw (l, y) in
          record { met = sym (ap (met_by (code_at s at)) (e ∙ v)); steady = steady }
      by false y =
          let v : take_record (kind_in p t) t past at last n ≡ Going past (kind_in p t) t (n + 1) = rw (l, y) in
          record { met = sym (ap (met_by (code_at s at)) (e ∙ v)); steady = steady }

-- a plain record, at its time
module _ (s : List ℕ) (at : ℕ) (last : Moment) (n : ℕ) where
  plain_met : (w : ℕ) (t : Moment) (past : ℕ) → t.0 < range → (t.0 + 0) % range ≡ w
      → step_at s at Plain last n ≡ take_record Plain (record { 0 = w }) past at last n
      → Meets s at plain_pace last n (met_if plain_pace last n (code_at s at) t past)
  plain_met w t past h q e = by (ltb t.0 last.0) refl
    where
      is : ◌≡◌ {A = Moment} (record { 0 = w }) t
      is = let z : w ≡ t.0 = omega arith in λ i. record { 0 = z i }

      step : step_at s at Plain last n ≡ take_record Plain t past at last n
      step = e ∙ ap (λ (u : Moment). take_record Plain u past at last n) is

      by : (a : Bool) → ltb t.0 last.0 ≡ a
          → Meets s at plain_pace last n (met_if plain_pace last n (code_at s at) t past)
      by true x =
          let l = ltb-true t.0 last.0 x in
          rw (lt-leb last.0 t.0 l)
          (meets_over s at plain_pace last n (Err (fault (NoMoment Falls) at)) (step ∙ rw x))
      by false x =
          let l = ltb-false t.0 last.0 x in
          rw (le-leb last.0 t.0 l, le-leb (t.0 - last.0) 0xFFFF_FFFF (omega (arith, h)))
          (meets_sound s at plain_pace last n t past x step)

-- a raw record, as many ticks after the origin
module _ (o last t w : ℕ) (h : t < range) (q : (t + o) % range ≡ w) where
  gap_in : last ≤ t → gap_of (record { 0 = (last + o) % range }) (record { 0 = w }) ≡ t - last
  gap_in l = gap_only _ _ (t - last) (omega arith) (omega arith)

  gap_out : t < last → last < range → gap_of (record { 0 = (last + o) % range }) (record { 0 = w }) ≡ t + range - last
  gap_out l m = gap_only _ _ (t + range - last) (omega arith) (omega arith)

module _ (s : List ℕ) (at : ℕ) (last : Moment) (n o : ℕ) where
  abbrev from : Stamp
  from = record { 0 = (last.0 + o) % range }

  abbrev pace : Pace
  pace = raw_pace o

  module _ (w : ℕ) (t : Moment) (past : ℕ) (h : t.0 < range) (z : last.0 < range) (q : (t.0 + o) % range ≡ w)
      (e : step_at s at (Raw from) last n
      ≡ take_timed (Raw (record { 0 = w })) past at last n (later_moment last (gap_of from (record { 0 = w })))) where
    refused : (x : Timed) (c : Checked) → later_moment last (gap_of from (record { 0 = w })) ≡ x
        → take_timed (Raw (record { 0 = w })) past at last n x ≡ Over c → Meets s at pace last n None
    refused x c y v = meets_over s at pace last n c (e ∙ ap (take_timed (Raw (record { 0 = w })) past at last n) y ∙ v)

    before : t.0 < last.0 → Meets s at pace last n None
    before l = by (leb half_range (gap_of from (record { 0 = w }))) refl
      where
        sum : range ≤ last.0 + gap_of from (record { 0 = w })
        sum = let g = gap_out o last.0 t.0 w h q l z in omega (arith, g)

        by : (a : Bool) → leb half_range (gap_of from (record { 0 = w })) ≡ a → Meets s at pace last n None
        by true x = refused (Err Falls) _ (rw x) refl
        by false x = refused (Err TooLate) _ (rw (x, le-leb _ _ sum)) refl

    far : last.0 ≤ t.0 → half_range ≤ t.0 - last.0 → Meets s at pace last n None
    far l m =
        refused (Err Falls) _
        (rw (gap_in o last.0 t.0 w h q l, le-leb half_range (t.0 - last.0) m)) refl

    near : last.0 ≤ t.0 → t.0 - last.0 < half_range
        → step_at s at (Raw from) last n ≡ take_record (kind_in pace t) t past at last n
    near l m =
        let sum : last.0 + (t.0 - last.0) ≡ t.0 = omega (arith, l) in
        e ∙ ap (take_timed (Raw (record { 0 = w })) past at last n)
        (ap (later_moment last) (gap_in o last.0 t.0 w h q l)
        ∙ later_at last (t.0 - last.0) m (omega (arith, sum, h))
        ∙ ap (λ (x : ℕ). Ok (record { 0 = x })) sum)
        ∙ ap (λ (x : ℕ). take_record (Raw (record { 0 = x })) t past at last n) (sym q)

    raw_met : Meets s at pace last n (met_if pace last n (code_at s at) t past)
    raw_met = by (leb last.0 t.0) (leb (t.0 - last.0) 0x7FFF_FFFF) refl refl
      where
        by : (a b : Bool) → leb last.0 t.0 ≡ a → leb (t.0 - last.0) 0x7FFF_FFFF ≡ b
            → Meets s at pace last n (met_if pace last n (code_at s at) t past)
        by false b x y = rw x (before (leb-false last.0 t.0 x))
        by true false x y =
            rw (x, y) (far (leb-true last.0 t.0 x) (omega (arith, leb-false (t.0 - last.0) 0x7FFF_FFFF y)))
        by true true x y =
            let l = leb-true last.0 t.0 x in
            rw (x, y)
            (meets_sound s at pace last n t past (le-ltb t.0 last.0 l)
            (near l (omega (arith, leb-true (t.0 - last.0) 0x7FFF_FFFF y))))

-- the code of a record, from its bytes
module _ (s : List ℕ) (at : ℕ) where
  halves : (w h l : ℕ) → w ≡ h * 65536 + l → w % 65536 ≡ l → code_of w ≡ l * 65536 + h + 1
  halves w h l e m = let q : w / 65536 ≡ h = omega arith in rw (q, m)

  pub message_code : (p : Pace) → Paced p → get_or s at 0 ≡ p.message → (w : ℕ)
      → w ≡ word16 s (at + 1) * 65536 + word16 s (at + 1 + 2) → w % 65536 ≡ word16 s (at + 1 + 2)
      → code_of w ≡ code_at s at
  message_code p P e w x y =
      let z : at + 1 + 2 ≡ at + 3 = omega arith in
      halves w (word16 s (at + 1)) (word16 s (at + 1 + 2)) x y ∙ rw (z, is p P e)
    where
      is : (p : Pace) → Paced p → get_or s at 0 ≡ p.message → is_message s at ≡ true
      is p plainly e = rw e
      is p (rawly o) e = rw e

  pub time_code : (p : Pace) → Paced p → get_or s at 0 ≡ p.message + 1 → 0 ≡ code_at s at
  time_code p plainly e = rw e
  time_code p (rawly o) e = rw e

-- no whole record with this byte is there: too few bytes, or another byte
module _ (s : List ℕ) (at : ℕ) where
  pub cut_short_case : (tag size : ℕ) → length s < at + size → whole s at tag size ≡ false
  cut_short_case tag size h = rw (lt-leb (at + size) (length s) h) (by (eqb (get_or s at 0) tag))
    where
      by : (b : Bool) → (b && false) ≡ false
      by true = refl
      by false = refl

  pub no_byte : (tag size : ℕ) → get_or s at 0 ≢ tag → whole s at tag size ≡ false
  no_byte tag size d = rw (ne_eqb (get_or s at 0) tag d)

  -- a message's byte is not a time's
  pub other_byte : (p : Pace) → Paced p → get_or s at 0 ≡ p.message → whole s at (p.message + 1) time_size ≡ false
  other_byte p plainly e = no_byte time_tag time_size (λ z. omega (arith, e, z))
  other_byte p (rawly o) e = no_byte raw_time_tag time_size (λ z. omega (arith, e, z))

-- a whole record by its first byte, and anything else
module _ (s : List ℕ) (at : ℕ) (last : Moment) (n : ℕ) where
  is_whole : (tag size : ℕ) → eqb (get_or s at 0) tag ≡ true → at + size ≤ length s → whole s at tag size ≡ true
  is_whole tag size e h = rw (e, le-leb (at + size) (length s) h)

  pub message_meets : (p : Pace) → Paced p → last.0 < range → eqb (get_or s at 0) p.message ≡ true
      → at + message_size ≤ length s → (t : Moment) → t.0 < range → (t.0 + p.origin) % range ≡ word32 s (at + 5)
      → Meets s at p last n (met_if p last n (code_at s at) t (at + message_size))
  message_meets p plainly z e l t h q =
      plain_met s at last n (word32 s (at + 5)) t (at + message_size) h q
      (plain_message s at last n (is_whole message_tag message_size e l))
  message_meets p (rawly o) z e l t h q =
      raw_met s at last n o (word32 s (at + 5)) t (at + message_size) h z q
      (raw_message_case s at last n (from s at last n o) (is_whole raw_message_tag message_size e l))

  pub time_meets : (p : Pace) → Paced p → last.0 < range → eqb (get_or s at 0) (p.message + 1) ≡ true
      → at + time_size ≤ length s → (t : Moment) → t.0 < range → (t.0 + p.origin) % range ≡ word32 s (at + 1)
      → Meets s at p last n (met_if p last n (code_at s at) t (at + time_size))
  time_meets p plainly z e l t h q =
      plain_met s at last n (word32 s (at + 1)) t (at + time_size) h q
      (plain_time s at last n (is_whole time_tag time_size e l))
  time_meets p (rawly o) z e l t h q =
      raw_met s at last n o (word32 s (at + 1)) t (at + time_size) h z q
      (raw_time_case s at last n (from s at last n o) (is_whole raw_time_tag time_size e l))

  pub other_meets : (p : Pace) → Paced p → at < length s → whole s at p.message message_size ≡ false
      → whole s at (p.message + 1) time_size ≡ false → Meets s at p last n None
  other_meets p plainly h v w = meets_over s at plain_pace last n _ (plain_fault s at last n h v w)
  other_meets p (rawly o) h v w =
      meets_over s at (raw_pace o) last n _ (raw_fault s at last n (from s at last n o) h v w)

-- what follows for the check from what was met
module _ (s : List ℕ) (at : ℕ) (p : Pace) (last : Moment) (n : ℕ) where
  -- the check is over there
  pub over_there : None ≡ met_at s at p last n → (c : Checked) × (step_at s at (kind_in p last) last n ≡ Over c)
  over_there e = by (step_at s at (kind_in p last) last n) refl e
    where
      by : (x : CheckStep) → step_at s at (kind_in p last) last n ≡ x → None ≡ met_by (code_at s at) x
          → (c : Checked) × (step_at s at (kind_in p last) last n ≡ Over c)
      by (Over c) q e = (c, q)
      by (Going past k t m) q e = let z : ◌≡◌ {A = ℕ} 0 1 = cc in absurd (omega arith)

  -- or it goes on at the record's moment, with one record more
  pub record Goes (code : ℕ) (t : Moment) (past : ℕ) : Type 0 where
    pub step : step_at s at (kind_in p last) last n ≡ Going past (kind_in p t) t (n + 1)
    pub is_code : code ≡ code_at s at

  pub goes : Steady s at p last n → (code : ℕ) (t : Moment) (past : ℕ) → met_record code t past ≡ met_at s at p last n
      → Goes code t past
  goes S code t past e = by (step_at s at (kind_in p last) last n) refl e
    where
      by : (x : CheckStep) → step_at s at (kind_in p last) last n ≡ x → met_record code t past ≡ met_by (code_at s at) x
          → Goes code t past
      by (Over c) q e = let z : ◌≡◌ {A = ℕ} 0 1 = cc in absurd (omega arith)
      by (Going a k u m) q e =
          let W = went s at (kind_in p last) last n a k u m q in
          let z : ◌≡◌ {A = MetRecord} (record { code = code; time = t; past = past })
          (record { code = code_at s at; time = u; past = a }) = cc in
          let x : a ≡ past = sym (ap (λ (r : MetRecord). r.past) z) in
          let y : u ≡ t = sym (ap (λ (r : MetRecord). r.time) z) in
          record {
            step = q ∙ ap (λ (v : Kind). Going a v u m) (S a k u m q) ∙ ap (Going a (kind_in p u) u) W.is_count
                ∙ ap₂ (λ (b : ℕ) (v : Moment). Going b (kind_in p v) v (n + 1)) x y;
            is_code = ap (λ (r : MetRecord). r.code) z;
          }

  -- the end of what is left of the check
  pub ended_left : {x : Checked} → Left x s at (kind_in p last) last n → None ≡ met_at s at p last n → (k : Kind)
      → k ≡ kind_in p last → ended_by n (step_at s at k last n) ≡ x
  ended_left l e k q =
      let o = over_there e in
      ap (λ (j : Kind). ended_by n (step_at s at j last n)) q ∙ ap (ended_by n) o.1
      ∙ left_step s at (kind_in p last) last n l (Over o.0) o.1
