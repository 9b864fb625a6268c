-- One record at an offset, and a whole log, read case by case. The records walked without a fault decide where the
-- check of the log stands, so two walks end alike. Assumes nothing.
use mathlib.Core.Path.{◌≡◌, refl, sym, ap, subst, ◌∙◌}
use mathlib.Core.Logic.{inl, inr}
use mathlib.Core.Bool.{Bool, true, false, cond}
use mathlib.Core.List.{List}
use Prim.Native.Nat.{ℕ, zero, suc, ◌+◌, ◌-◌, ◌%◌, ◌≤◌, ◌<◌}
use native.Mathlib.Omega.{arith}
use native.Mathlib.Numerals.{add-one}
use borrow.Author.Tests.{ltb-true, ltb-false, leb-true, leb-false, lt-ltb, le-ltb, le-leb, lt-leb, ne_eqb}
use borrow.Author.Tests.{eqb-true, eqb-false}
use lib.Dec.{eqb, leb, ltb}
use lib.ListN.{length, get_or}
use Rattle.model.specs.declared.Moment.{Moment}
use Rattle.model.specs.declared.Record.{Record}
use Rattle.model.specs.declared.RawRecord.{RawRecord}
use Rattle.model.specs.declared.Stamp.{Stamp}
use Rattle.model.specs.Answers.{most_records, time_falls}
use Rattle.model.specs.Monitor.{time_of, stamp_of, at_moment}
use Rattle.base.proofs.Bounds.{inside}
use Rattle.base.specs.Lists.{Snoc, ε, ◌▸◌, size}
use Rattle.base.proofs.Bools.{split}
use Rattle.log_reader.specs.declared.RecordRefusal.{RecordRefusal}
use Rattle.log_reader.specs.declared.RecordRefusal.TheVariants.{UnknownByte}
use Rattle.log_reader.specs.Record.{RecordRead}
use Rattle.log_reader.specs.declared.Next.TheVariants as next
use Rattle.log_reader.specs.Record as found
use Rattle.log_reader.specs.Record.{record_refusal_number, message_tag, time_tag, raw_message_tag, raw_time_tag}
use Rattle.log_reader.specs.Record.{message_size, time_size, said}
use Rattle.log_reader.specs.Next.{next_at}
use Rattle.log_reader.proofs.Offsets.{at_end}
use Rattle.log_reader.proofs.Said.{said_tells}
use Rattle.log_reader.proofs.There.{message_read, time_read, raw_message_read, raw_time_read, is_whole, is_cut}
use Rattle.log_clock.specs.declared.Kind.{Kind}
use Rattle.log_clock.specs.declared.Kind.TheVariants.{Unset, Plain, Raw}
use Rattle.log_clock.specs.declared.MomentRefusal.{MomentRefusal}
use Rattle.log_clock.specs.declared.MomentRefusal.TheVariants.{Mixed, Falls, TooLate}
use Rattle.log_clock.specs.declared.Undated.TheVariants as undated
use Rattle.log_clock.specs.Clock.{range, half_range, moment_refusal_number, gap_of, later_moment}
use Rattle.log_clock.specs.Dated.{DatedRead, dated_record, raw_by, dated_by, dated_at}
use Rattle.log_clock.specs.Records.{records_from, records_in}
use Rattle.log_clock.specs.TrueTimes.{shown_at, Passing, begins, goes_on}
use Rattle.log_clock.proofs.Records.{dated_next, dated_past, one_record}
use Rattle.log_clock.proofs.Times.{time_at_lem, gap_leads, gap_below, gap_only, later_at, not_before}
use Rattle.log_check.specs.declared.LogRefusal.{LogRefusal}
use Rattle.log_check.specs.declared.LogRefusal.TheVariants.{NoRecord, NoMoment, TooManyRecords}
use Rattle.std.specs.Prelude.{None, Ok, Err}
use Rattle.log_check.specs.Check.{Over, Going}
use Rattle.log_check.specs.Check.{step_by, step_at, continue_by as check_on, check_from, check_log}
use Rattle.log_check.specs.Refusal.{log_refusal_number, fault, Checked}
use Rattle.log_check.proofs.Laws.{came_to, Left, left_first, left_step, left_going}
use Rattle.base.specs.Just.{Just}
use Rattle.log_claims.specs.Logs.{FindsAs, ends, unknown, message_cut, time_cut, raw_message_cut}
use Rattle.log_claims.specs.Logs.{raw_time_cut, message, time, raw_message_case, raw_time_case}
use Rattle.log_claims.specs.Logs.{ComesAs, first_plain, plain, first_raw, raw, Walk, start, step}
use Rattle.log_claims.specs.Logs.{FaultAt, no_record, raw_in_plain, plain_in_raw, falls, goes_back, too_late_case}
use Rattle.log_claims.specs.Logs.{overflows, Stamped, none_stamped, one_stamped}

-- one record at an offset
finds_as : (s : List ℕ) (at : ℕ) → FindsAs s at (said at (next_at s at))
finds_as s at = elim (split (leb (length s) at)) [
  | inl a ↦ rw a (ends (leb-true _ _ a))
  | inr a ↦ elim (split (eqb (get_or s at 0) message_tag)) [
    | inl b ↦ elim (split (ltb (length s) (at + message_size))) [
      | inl k ↦ rw (a, b, k) (message_cut (eqb-true _ _ b) (ltb-true _ _ k))
      | inr k ↦ rw (a, b, k) (message (eqb-true _ _ b) (ltb-false _ _ k))
    ]
    | inr b ↦ elim (split (eqb (get_or s at 0) raw_message_tag)) [
      | inl d ↦ elim (split (ltb (length s) (at + message_size))) [
        | inl k ↦ rw (a, b, d, k) (raw_message_cut (eqb-true _ _ d) (ltb-true _ _ k))
        | inr k ↦ rw (a, b, d, k) (raw_message_case (eqb-true _ _ d) (ltb-false _ _ k))
      ]
      | inr d ↦ elim (split (eqb (get_or s at 0) time_tag)) [
        | inl t ↦ elim (split (ltb (length s) (at + time_size))) [
          | inl k ↦ rw (a, b, d, t, k) (time_cut (eqb-true _ _ t) (ltb-true _ _ k))
          | inr k ↦ rw (a, b, d, t, k) (time (eqb-true _ _ t) (ltb-false _ _ k))
        ]
        | inr t ↦ elim (split (eqb (get_or s at 0) raw_time_tag)) [
          | inl u ↦ elim (split (ltb (length s) (at + time_size))) [
            | inl k ↦ rw (a, b, d, t, u, k) (raw_time_cut (eqb-true _ _ u) (ltb-true _ _ k))
            | inr k ↦ rw (a, b, d, t, u, k) (raw_time_case (eqb-true _ _ u) (ltb-false _ _ k))
          ]
          | inr u ↦
              rw (a, b, d, t, u)
              (unknown (leb-false _ _ a) (eqb-false _ _ b) (eqb-false _ _ t) (eqb-false _ _ d) (eqb-false _ _ u))
        ]
      ]
    ]
  ]
]

tag_inside : (s : List ℕ) (at tag : ℕ) → 0 < tag → get_or s at 0 ≡ tag → at < length s
tag_inside s at tag h e = inside s at (λ z. omega (arith, z, e, h))

finds_next : (s : List ℕ) (at : ℕ) (x : found.Said) → FindsAs s at x → (n : RecordRead) × (next_at s at ≡ n) × (x ≡ said at n)
finds_next s at x (ends h) = ((Ok next.End), at_end s at h, refl)
finds_next s at x (unknown h a b d u) =
    (Err UnknownByte, rw (lt-leb _ _ h, ne_eqb _ _ a, ne_eqb _ _ b, ne_eqb _ _ d, ne_eqb _ _ u), refl)
finds_next s at x (message_cut a l) =
    (_, message_read s at (tag_inside s at _ (omega arith) a) a ∙ is_cut s at message_size _ l, refl)
finds_next s at x (raw_message_cut a l) =
    (_, raw_message_read s at (tag_inside s at _ (omega arith) a) a ∙ is_cut s at message_size _ l, refl)
finds_next s at x (time_cut a l) =
    (_, time_read s at (tag_inside s at _ (omega arith) a) a ∙ is_cut s at time_size _ l, refl)
finds_next s at x (raw_time_cut a l) =
    (_, raw_time_read s at (tag_inside s at _ (omega arith) a) a ∙ is_cut s at time_size _ l, refl)
finds_next s at x (message a l) =
    (_, message_read s at (tag_inside s at _ (omega arith) a) a ∙ is_whole s at message_size _ l, refl)
finds_next s at x (raw_message_case a l) =
    (_, raw_message_read s at (tag_inside s at _ (omega arith) a) a ∙ is_whole s at message_size _ l, refl)
finds_next s at x (time a l) =
    (_, time_read s at (tag_inside s at _ (omega arith) a) a ∙ is_whole s at time_size _ l, refl)
finds_next s at x (raw_time_case a l) =
    (_, raw_time_read s at (tag_inside s at _ (omega arith) a) a ∙ is_whole s at time_size _ l, refl)

pub finds_just : (s : List ℕ) (at : ℕ) (n : RecordRead) → n ≡ next_at s at → Just (FindsAs s at) (said at n)
finds_just s at n e = record {
  holds = subst (λ (x : RecordRead). FindsAs s at (said at x)) (sym e) (finds_as s at);
  only = λ x F. let N = finds_next s at x F in N.2 ∙ ap (said at) (sym N.1 ∙ sym e);
}

finds_of : (s : List ℕ) (at : ℕ) (n : RecordRead) → next_at s at ≡ n → FindsAs s at (said at n)
finds_of s at n q = subst (λ (x : RecordRead). FindsAs s at (said at x)) q (finds_as s at)

-- what was found is what the definition of reading finds
found_as : (s : List ℕ) (at : ℕ) (n : RecordRead) → FindsAs s at (said at n) → next_at s at ≡ n
found_as s at n F = let N = finds_next s at (said at n) F in N.1 ∙ sym (said_tells at n N.0 N.2)

found_refused : (s : List ℕ) (at k : ℕ) → FindsAs s at (found.refused k at) → (f : RecordRefusal)
    × (next_at s at ≡ Err f) × (k ≡ record_refusal_number f)
found_refused s at k F = by (next_at s at) refl (finds_next s at (found.refused k at) F)
  where
    by : (x : RecordRead) → next_at s at ≡ x → (n : RecordRead) × (next_at s at ≡ n) × (found.refused k at ≡ said at n)
        → (f : RecordRefusal) × (next_at s at ≡ Err f) × (k ≡ record_refusal_number f)
    by (Ok next.End) q N =
        absurd (let w : found.refused k at ≡ found.end at = N.2
        ∙ ap (said at) (sym N.1 ∙ q) in let z : ◌≡◌ {A = ℕ} 0 1 = cc in omega arith)
    by (Err f) q N =
        let w : found.refused k at ≡ found.refused (record_refusal_number f) at = N.2 ∙ ap (said at) (sym N.1 ∙ q) in
        (f, q, cc)
    by (Ok (next.Handed e p)) q N =
        absurd (let w : found.refused k at ≡ found.handed e p = N.2
        ∙ ap (said at) (sym N.1 ∙ q) in let z : ◌≡◌ {A = ℕ} 0 1 = cc in omega arith)
    by (Ok (next.Raw e p)) q N =
        absurd (let w : found.refused k at ≡ found.handed_raw e p = N.2
        ∙ ap (said at) (sym N.1 ∙ q) in let z : ◌≡◌ {A = ℕ} 0 1 = cc in omega arith)

abbrev pub moment : ℕ → Moment
moment t = record { 0 = t }

-- before the first record the last moment is 0
abbrev pub FirstAtZero : Kind → ℕ → Type 0
FirstAtZero k last = k ≡ Unset → last ≡ 0

-- a record that comes is what stands there with its moment, and does not fall
module _ (s : List ℕ) (at last : ℕ) where
  pub record Dates (k : Kind) (e : Record) (kind : Kind) (past : ℕ) : Type 0 where
    pub dated_there : dated_at s at k (moment last) ≡ dated_record e kind past
    pub later : last ≤ (time_of e).0

  pub comes_dated : (k : Kind) (e : Record) (kind : Kind) (past : ℕ) → FirstAtZero k last → ComesAs s at last k e kind past
      → Dates k e kind past
  comes_dated k e kind past z (first_plain e' past' F) = record {
    dated_there = dated_next s at Unset (moment last) _ (found_as s at (Ok (next.Handed e past)) F);
    later = omega (arith, z refl);
  }
  comes_dated k e kind past z (plain e' past' F l) =
      record { dated_there = dated_next s at Plain (moment last) _ (found_as s at (Ok (next.Handed e past)) F); later = l }
  comes_dated k e kind past z (first_raw r past' F) = record {
    dated_there = dated_next s at Unset (moment last) _ (found_as s at (Ok (next.Raw r past)) F);
    later = omega (arith, z refl);
  }
  comes_dated k e kind past z (raw from r past' F g t h l) =
      let m : gap_of from (stamp_of r) ≡ g = gap_only from (stamp_of r) g t (omega arith) in
      let u = ap (λ (x : Moment). x.0) (time_at_lem r (moment (last + g))) in
      record {
        dated_there =
            dated_next s at (Raw from) (moment last) _ (found_as s at (Ok (next.Raw r past)) F)
            ∙ ap (λ (x : ℕ). raw_by r past (later_moment (moment last) x)) m
            ∙ ap (raw_by r past) (later_at (moment last) g h l);
        later = omega (arith, u);
      }

-- what stands at an offset with its moment, by the cases of the claims
module _ (s : List ℕ) (at last : ℕ) where
  pub data Seen : Kind → DatedRead → Type 0 where
    sees_end : {k : Kind} → FindsAs s at (found.end at) → Seen k (Ok None)
    sees_none : {k : Kind} (f : RecordRefusal) → FindsAs s at (found.refused (record_refusal_number f) at)
        → Seen k (Err (undated.NoRecord f))
    sees_fault : {k : Kind} (f : MomentRefusal) → ((es : Snoc Record) → FaultAt s es at last k (moment_refusal_number f))
        → Seen k (Err (undated.NoMoment f))
    sees_record : {k : Kind} (e : Record) (kind : Kind) (p : ℕ)
        → (last ≤ (time_of e).0 → ComesAs s at last k e kind p)
        → ((time_of e).0 < last → FirstAtZero k last → (es : Snoc Record) → FaultAt s es at last k time_falls)
        → Seen k (dated_record e kind p)

  seen_plain : (e : Record) (p : ℕ) → FindsAs s at (found.handed e p) → (k : Kind)
      → Seen k (dated_by k (moment last) (Ok (next.Handed e p)))
  seen_plain e p F Unset =
      sees_record e Plain p (λ l. first_plain e p F) (λ l z es. absurd (omega (arith, l, z refl)))
  seen_plain e p F Plain = sees_record e Plain p (λ l. plain e p F l) (λ l z es. falls e p F l)
  seen_plain e p F (Raw from) = sees_fault Mixed (λ es. plain_in_raw from e p F)

  seen_later : (from : Stamp) (e : RawRecord) (p : ℕ) → FindsAs s at (found.handed_raw e p) → (a b : Bool)
      → leb half_range (gap_of from (stamp_of e)) ≡ a → leb range (last + gap_of from (stamp_of e)) ≡ b
      → Seen (Raw from) (raw_by e p (cond a (Err Falls)
      (cond b (Err TooLate) (Ok (moment (last + gap_of from (stamp_of e)))))))
  seen_later from e p F true b x y =
      sees_fault Falls (λ es. goes_back from e p F (gap_of from (stamp_of e)) (gap_leads from (stamp_of e))
      (leb-true _ _ x) (omega (arith, gap_below from (stamp_of e))))
  seen_later from e p F false true x y =
      let h = leb-false half_range (gap_of from (stamp_of e)) x in
      sees_fault TooLate (λ es. too_late_case from e p F (gap_of from (stamp_of e)) (gap_leads from (stamp_of e))
      (omega (arith, h)) (leb-true _ _ y))
  seen_later from e p F false false x y =
      let u = ap (λ (m : Moment). m.0) (time_at_lem e (moment (last + gap_of from (stamp_of e)))) in
      let h = leb-false half_range (gap_of from (stamp_of e)) x in
      let r = leb-false range (last + gap_of from (stamp_of e)) y in
      sees_record _ _ p
      (λ l. raw from e p F (gap_of from (stamp_of e)) (gap_leads from (stamp_of e)) (omega (arith, h)) (omega (arith, r)))
      (λ l z es. absurd (omega (arith, l, u)))

  seen_raw : (e : RawRecord) (p : ℕ) → FindsAs s at (found.handed_raw e p) → (k : Kind)
      → Seen k (dated_by k (moment last) (Ok (next.Raw e p)))
  seen_raw e p F Unset =
      sees_record _ _ p (λ l. first_raw e p F) (λ l z es. absurd (omega (arith, l, z refl)))
  seen_raw e p F Plain = sees_fault Mixed (λ es. raw_in_plain e p F)
  seen_raw e p F (Raw from) =
      seen_later from e p F (leb half_range (gap_of from (stamp_of e))) (leb range (last + gap_of from (stamp_of e))) refl refl

  pub seen : (k : Kind) → Seen k (dated_at s at k (moment last))
  seen k = by (next_at s at) refl
    where
      is : (x : RecordRead) → next_at s at ≡ x → Seen k (dated_by k (moment last) x) → Seen k (dated_at s at k (moment last))
      is x q S = subst (Seen k) (sym (dated_next s at k (moment last) x q)) S

      by : (x : RecordRead) → next_at s at ≡ x → Seen k (dated_at s at k (moment last))
      by (Ok next.End) q = is _ q (sees_end (finds_of s at _ q))
      by (Err f) q = is _ q (sees_none f (finds_of s at _ q))
      by (Ok (next.Handed e p)) q = is _ q (seen_plain e p (finds_of s at _ q) k)
      by (Ok (next.Raw e p)) q = is _ q (seen_raw e p (finds_of s at _ q) k)

-- where the records walked leave the check of the log, and the list of its records
pub record Stands (s : List ℕ) (es : Snoc Record) (k : Kind) (at last : ℕ) : Type 0 where
  pub first : FirstAtZero k last
  pub left : Left (check_log s) s at k (moment last) (size es)
  pub more : ℕ
  pub room : length s ≤ at + more
  pub rest : records_from more s at k (moment last) es ≡ records_in s

comes_set : {s : List ℕ} {at last : ℕ} {k : Kind} {e : Record} {kind : Kind} {p : ℕ} → ComesAs s at last k e kind p
    → ¬ (kind ≡ Unset)
comes_set (first_plain e p F) z = let w : ◌≡◌ {A = ℕ} 0 1 = cc in omega arith
comes_set (plain e p F l) z = let w : ◌≡◌ {A = ℕ} 0 1 = cc in omega arith
comes_set (first_raw e p F) z = let w : ◌≡◌ {A = ℕ} 0 1 = cc in omega arith
comes_set (raw from e p F g t h l) z = let w : ◌≡◌ {A = ℕ} 0 1 = cc in omega arith

module _ (s : List ℕ) where
  pub took : (at : ℕ) (k : Kind) (last : Moment) (n : ℕ) (e : Record) (kind : Kind) (p : ℕ)
      → dated_at s at k last ≡ dated_record e kind p → (a b : Bool)
      → ltb (time_of e).0 last.0 ≡ a
      → leb most_records n ≡ b
      → step_at s at k last n ≡ cond a (Over (Err (fault (NoMoment Falls) at)))
      (cond b (Over (Err (fault TooManyRecords at))) (Going p kind (time_of e) (n + 1)))
  took at k last n e kind p q a b x y = came_to s at k last n _ q ∙ rw (x, y)

  pub walked : {es : Snoc Record} {k : Kind} {at last : ℕ} → Walk s es k at last → Stands s es k at last
  unfolding records_in
  walked start =
      record { first = λ z. refl; left = left_first s; more = length s; room = omega arith; rest = refl }
  walked (step {es} {k} {at} {last} W e kind p C n) =
      let S = walked W in
      let D = comes_dated s at last k e kind p S.first C in
      let l = dated_past s at k (moment last) e kind p D.dated_there in
      let h : 0 < S.more = omega (arith, l, S.room) in
      record {
        first = λ z. absurd (comes_set C z);
        left = subst (Left (check_log s) s p kind (time_of e)) (add-one (size es))
            (left_going s at k (moment last) (size es) S.left p kind (time_of e) (size es + 1)
            (took at k (moment last) (size es) e kind p D.dated_there false false (le-ltb _ _ D.later)
            (lt-leb _ _ n)));
        more = S.more - 1;
        room = omega (arith, l, S.room);
        rest = sym (one_record s at S.more h k (moment last) es (dated_record e kind p) D.dated_there) ∙ S.rest;
      }

  pub ended : (at : ℕ) (k : Kind) (last : Moment) → FindsAs s at (found.end at) → dated_at s at k last ≡ (Ok None)
  ended at k last F = dated_next s at k last _ (found_as s at (Ok next.End) F)

  -- the records of a log without a fault
  pub walk_records : {es : Snoc Record} {k : Kind} {at last : ℕ} → Walk s es k at last → FindsAs s at (found.end at)
      → records_in s ≡ es
  unfolding records_from
  walk_records {es} {k} {at} {last} W F = let S = walked W in sym S.rest ∙ by S.more refl
    where
      by : (n : ℕ) → (walked W).more ≡ n → records_from (walked W).more s at k (moment last) es ≡ es
      by zero q = ap (λ (j : ℕ). records_from j s at k (moment last) es) q
      by (suc n) q =
          one_record s at (walked W).more (omega (arith, q)) k (moment last) es (Ok None) (ended at k (moment last) F)

  pub walk_fine : {es : Snoc Record} {k : Kind} {at last : ℕ} → Walk s es k at last → FindsAs s at (found.end at)
      → check_log s ≡ Ok (size es)
  walk_fine {es} {k} {at} {last} W F =
      sym (left_step s at k (moment last) (size es) (walked W).left (Over (Ok (size es)))
      (came_to s at k (moment last) (size es) (Ok None) (ended at k (moment last) F)))

  -- a fault is what the check ends with
  pub record Ends (es : Snoc Record) (k : Kind) (at last f : ℕ) : Type 0 where
    pub why : LogRefusal
    pub ends_there : step_at s at k (moment last) (size es) ≡ Over (Err (fault why at))
    pub told : f ≡ log_refusal_number why

  pub fault_ends : {es : Snoc Record} {at last : ℕ} (k : Kind) (f : ℕ) → FirstAtZero k last → FaultAt s es at last k f
      → Ends es k at last f
  fault_ends {es} {at} {last} k f z (no_record k' f' F) =
      let R = found_refused s at f F in
      record {
        why = NoRecord R.0;
        ends_there = came_to s at k (moment last) (size es) _ (dated_next s at k (moment last) _ R.1);
        told = R.2;
      }
  fault_ends {es} {at} {last} k f z (raw_in_plain e p F) = record {
    why = NoMoment Mixed;
    ends_there =
        came_to s at Plain (moment last) (size es) _
        (dated_next s at Plain (moment last) _ (found_as s at (Ok (next.Raw e p)) F));
    told = refl;
  }
  fault_ends {es} {at} {last} k f z (plain_in_raw from e p F) = record {
    why = NoMoment Mixed;
    ends_there =
        came_to s at (Raw from) (moment last) (size es) _
        (dated_next s at (Raw from) (moment last) _ (found_as s at (Ok (next.Handed e p)) F));
    told = refl;
  }
  fault_ends {es} {at} {last} k f z (falls e p F l) = record {
    why = NoMoment Falls;
    ends_there =
        took at Plain (moment last) (size es) e Plain p
        (dated_next s at Plain (moment last) _ (found_as s at (Ok (next.Handed e p)) F)) true (leb most_records (size es))
        (lt-ltb _ _ l) refl;
    told = refl;
  }
  fault_ends {es} {at} {last} k f z (goes_back from e p F g t h r) =
      let m = gap_only from (stamp_of e) g t r in
      record {
        why = NoMoment Falls;
        ends_there =
            came_to s at (Raw from) (moment last) (size es) (Err (undated.NoMoment Falls))
            (dated_next s at (Raw from) (moment last) _ (found_as s at (Ok (next.Raw e p)) F)
            ∙ ap (λ (x : ℕ). raw_by e p (later_moment (moment last) x)) m
            ∙ rw (le-leb _ _ h));
        told = refl;
      }
  fault_ends {es} {at} {last} k f z (too_late_case from e p F g t h r) =
      let m = gap_only from (stamp_of e) g t (omega arith) in
      record {
        why = NoMoment TooLate;
        ends_there =
            came_to s at (Raw from) (moment last) (size es) (Err (undated.NoMoment TooLate))
            (dated_next s at (Raw from) (moment last) _ (found_as s at (Ok (next.Raw e p)) F)
            ∙ ap (λ (x : ℕ). raw_by e p (later_moment (moment last) x)) m
            ∙ rw (lt-leb _ _ h, le-leb _ _ r));
        told = refl;
      }
  fault_ends {es} {at} {last} k f z (overflows k' e kind p C n) =
      let D = comes_dated s at last k e kind p z C in
      record {
        why = TooManyRecords;
        ends_there =
            took at k (moment last) (size es) e kind p D.dated_there false true (le-ltb _ _ D.later) (le-leb _ _ n);
        told = refl;
      }

-- what checking a log comes to, by the records before it
pub data Checks (s : List ℕ) : Checked → Type 0 where
  fine : {es : Snoc Record} {k : Kind} {at last : ℕ} → Walk s es k at last → FindsAs s at (found.end at)
      → Checks s (Ok (size es))
  bad : {es : Snoc Record} {k : Kind} {at last : ℕ} → Walk s es k at last → (f : LogRefusal)
      → FaultAt s es at last k (log_refusal_number f) → Checks s (Err (fault f at))

module _ (s : List ℕ) where
  checks : (f : ℕ) (es : Snoc Record) (at : ℕ) (k : Kind) (last : Moment) → Walk s es k at last.0 → length s < at + f
      → Checks s (check_from f s at k last (size es))
  unfolding check_from step_at
  checks zero es at k last W h = fine W (ends (omega arith))
  checks (suc f) es at k last W h =
      by (dated_at s at k last) refl (seen s at last.0 k) (λ ds p j t X l. checks f ds p j t X l)
    where
      by : (d : DatedRead) → dated_at s at k last ≡ d → Seen s at last.0 k d
          → ((ds : Snoc Record) (q : ℕ) (j : Kind) (t : Moment) → Walk s ds j q t.0 → length s < q + f
          → Checks s (check_from f s q j t (size ds)))
          → Checks s (check_on (check_from f s) (step_by at last (size es) d))
      by d q (sees_end F) i = fine W F
      by d q (sees_none g F) i = bad W (NoRecord g) (no_record k _ F)
      by d q (sees_fault g F) i = bad W (NoMoment g) (F es)
      by d q (sees_record e kind p C N) i =
          tests (ltb (time_of e).0 last.0) (leb most_records (size es)) refl refl
        where
          tests : (a b : Bool) → ltb (time_of e).0 last.0 ≡ a → leb most_records (size es) ≡ b
              → Checks s (check_on (check_from f s)
              (cond a (Over (Err (fault (NoMoment Falls) at)))
              (cond b (Over (Err (fault TooManyRecords at))) (Going p kind (time_of e) (size es + 1)))))
          tests true b x y = bad W (NoMoment Falls) (N (ltb-true _ _ x) (walked s W).first es)
          tests false true x y =
              bad W TooManyRecords (overflows k e kind p (C (ltb-false _ _ x)) (leb-true _ _ y))
          tests false false x y =
              subst (λ (n : ℕ). Checks s (check_from f s p kind (time_of e) n)) (sym (add-one (size es)))
              (i (es ▸ e) p kind (time_of e) (step W e kind p (C (ltb-false _ _ x)) (leb-false _ _ y))
              (omega (arith, dated_past s at k last e kind p q)))

  pub log_checks : Checks s (check_log s)
  unfolding check_log
  log_checks = checks (length s + 1) ε 0 Unset (moment 0) start (omega arith)

-- raw records with true times are walked
module _ (s : List ℕ) (first : ℕ) where
  true_ticks : (t u : ℕ) → t ≤ u → (t % range + (u - t)) % range ≡ u % range % range
  true_ticks t u l = omega arith

  pub true_walk : {ts : Snoc ℕ} {t : ℕ} → Passing first ts t → {es : Snoc Record} {at : ℕ} → Stamped s first ts es at
      → size es ≤ most_records → Walk s es (Raw (shown_at t)) at (t - first)
  true_walk begins (one_stamped none_stamped e p F u q) n =
      let z : 0 ≡ first - first = omega arith in
      let W : Walk s (ε ▸ at_moment e (moment 0)) (Raw (stamp_of e)) p (time_of (at_moment e (moment 0))).0
      = step start _ _ p (first_raw e p F) (omega arith) in
      subst (λ (x : ℕ). Walk s (ε ▸ at_moment e (moment x)) (Raw (shown_at first)) p x) z
      (subst (λ (x : Stamp). Walk s (ε ▸ at_moment e (moment 0)) (Raw x) p 0) q
      (subst (λ (x : Moment). Walk s (ε ▸ at_moment e (moment 0)) (Raw (stamp_of e)) p x.0) (time_at_lem e (moment 0)) W))
  true_walk (goes_on {t = t} P u l h r) (one_stamped {es = es} {at} S e p F v q) n =
      let f = not_before first P in
      let g : t - first + (u - t) ≡ u - first = omega (arith, f) in
      let C : ComesAs s at (t - first) (Raw (shown_at t)) (at_moment e (moment (t - first + (u - t)))) (Raw (stamp_of e)) p
      = raw (shown_at t) e p F (u - t) (true_ticks t u l ∙ ap (λ (x : Stamp). x.0 % range) (sym q)) h
      (omega (arith, f, r)) in
      let D : ComesAs s at (t - first) (Raw (shown_at t)) (at_moment e (moment (u - first))) (Raw (shown_at u)) p
      = subst (λ (x : Stamp). ComesAs s at (t - first) (Raw (shown_at t)) (at_moment e (moment (u - first))) (Raw x) p) q
      (subst (λ (x : ℕ). ComesAs s at (t - first) (Raw (shown_at t)) (at_moment e (moment x)) (Raw (stamp_of e)) p) g C) in
      subst (λ (x : Moment). Walk s (es ▸ at_moment e (moment (u - first))) (Raw (shown_at u)) p x.0)
      (time_at_lem e (moment (u - first)))
      (step (true_walk P S (omega (arith, n))) _ _ p D (omega (arith, n)))
