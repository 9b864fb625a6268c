-- Live bytes, kind and log fix what a call says and the bytes after it. Assumes nothing.
use mathlib.Core.Path.{◌≡◌, refl, sym, ap, subst, ◌∙◌}
use mathlib.Core.Bool.{true, false, cond, ◌||◌}
use lib.Dec.{eqb}
use mathlib.Core.Logic.{◌≢◌, inl, inr}
use mathlib.Core.List.{List, ◌++◌}
use Rattle.std.specs.Prelude.{Some, None, Ok, Err}
use Rattle.log_clock.specs.declared.Dated.{Dated}
use Rattle.log_clock.specs.Dated.{DatedRead, dated_record}
use Prim.Native.Nat.{ℕ, ◌+◌, ◌*◌, ◌/◌, ◌%◌, ◌^◌, ◌<◌}
use native.Mathlib.Omega.{arith}
use lib.ListN.{length, drop}
use Rattle.base.specs.Lists.{Snoc, ◌▸◌, size}
use Rattle.base.proofs.Bools.{clash, split}
use Rattle.model.specs.Chart.{most_regions, most_clocks}
use Rattle.model.specs.declared.Monitor.{Monitor}
use Rattle.model.specs.declared.Record.{Record}
use Rattle.model.specs.declared.Answer.{Answer}
use Rattle.model.specs.declared.FeedRefusal.{FeedRefusal}
use Rattle.model.specs.Answers.{Fed, feed_refusal_number}
use Rattle.rounds.specs.Machine.{Step as AbstractStep}
use Rattle.stepping.specs.declared.Step.{Step}
use Rattle.monitor.specs.Stored.{Stored}
use Rattle.monitor.proofs.History.{view_tells}
use Rattle.log_reader.specs.declared.RecordRefusal.{RecordRefusal}
use Rattle.log_reader.specs.Record.{record_refusal_number}
use Rattle.log_clock.specs.declared.Kind.{Kind}
use Rattle.log_clock.specs.declared.MomentRefusal.{MomentRefusal}
use Rattle.log_clock.specs.Clock.{moment_refusal_number}
use Rattle.log_clock.specs.declared.Undated.TheVariants as undated
use Rattle.monitor_image.specs.MonitorImage.{monitor_size, monitor_bytes, monitor_in}
use Rattle.live.specs.Live.{is_refused, is_broken, bytes_fed, LiveFed}
use Rattle.live.proofs.History.{one_answer}
use Rattle.log_reader.specs.declared.RecordRefusal.TheVariants.{CutShort, UnknownByte}
use Rattle.log_reader.specs.Record.{cut_short, unknown_byte}
use Rattle.log_clock.specs.declared.MomentRefusal.TheVariants.{Mixed, Falls, TooLate}
use Rattle.log_clock.specs.Clock.{two_kinds, too_late}
use Rattle.model.specs.Answers.{not_a_chart, not_fit, time_falls}
use Rattle.log_check.specs.declared.LogRefusal.TheVariants.{NoRecord, NoMoment, TooManyRecords}
use Rattle.feed_log.specs.declared.Stop.{Stop}
use Rattle.feed_log.specs.declared.Stop.TheVariants as stop
use Rattle.feed_log.specs.Feeds.{number_of, Outcome, Feeds, at_break, at_end, at_no_record, at_no_moment, at_refused, taken}
use Rattle.feed_log.specs.Feeds.{FeedsLog, refuses, feeds, counts_of, last_number, FeedsTell}

-- four bytes are 32 bits
four_bytes : (x : ℕ) → (x / 0x100_0000 % 256 * 256 + x / 0x1_0000 % 256) * 65536 + (x / 0x100 % 256 * 256 + x % 256)
    < 2 ^ most_regions
four_bytes x = omega arith

-- a monitor that is read from its own image can be stored
stored_image : (m : Monitor) (rest : List ℕ) → monitor_in (monitor_bytes m ++ rest) ≡ m → Stored m
unfolding monitor_in monitor_bytes
stored_image m rest e = record {
  bits = subst (λ (x : Monitor). x.place.fired < 2 ^ most_regions) e (four_bytes m.place.fired);
  places = subst (λ (x : Monitor). length x.place.resets ≡ most_clocks) e refl;
}

-- one feed has one result
module _ {l n m : List ℕ} {e : Record} {a b : Fed} (F : LiveFed l e a n) (G : LiveFed l e b m) where
  abbrev s : Step
  s = F.by_chart.taken

  abbrev t : Step
  t = G.by_chart.taken

  same_answer : s.answer ≡ t.answer
  same_answer = sym F.by_chart.ans ∙ one_answer F G ∙ G.by_chart.ans

  same_next : (is_refused s.answer || is_broken (monitor_in l)) ≡ false → s.next ≡ t.next
  unfolding bytes_fed
  same_next z =
      let y : (is_refused t.answer || is_broken (monitor_in l)) ≡ false =
      ap (λ (x : Fed). is_refused x || is_broken (monitor_in l)) (sym same_answer) ∙ z in
      let p : n ≡ monitor_bytes s.next ++ drop monitor_size l = F.by_chart.bytes ∙ rw z in
      let q : m ≡ monitor_bytes t.next ++ drop monitor_size l = G.by_chart.bytes ∙ rw y in
      view_tells s.next t.next
      (stored_image s.next (drop monitor_size l) (ap monitor_in (sym p) ∙ F.by_chart.next))
      (stored_image t.next (drop monitor_size l) (ap monitor_in (sym q) ∙ G.by_chart.next))
      (ap (λ (x : AbstractStep). x.next) (F.by_chart.fed ∙ sym G.by_chart.fed))

  one_next : n ≡ m
  unfolding bytes_fed
  one_next = F.by_chart.bytes ∙ elim (split (is_refused s.answer || is_broken (monitor_in l))) [
    | inl z ↦
        let y : (is_refused t.answer || is_broken (monitor_in l)) ≡ true =
        ap (λ (x : Fed). is_refused x || is_broken (monitor_in l)) (sym same_answer) ∙ z in
        rw (z, y)
    | inr z ↦
        let y : (is_refused t.answer || is_broken (monitor_in l)) ≡ false =
        ap (λ (x : Fed). is_refused x || is_broken (monitor_in l)) (sym same_answer) ∙ z in
        rw (z, y) (ap (λ (x : Monitor). monitor_bytes x ++ drop monitor_size l) (same_next z))
  ] ∙ sym G.by_chart.bytes

-- what stands at an offset is one thing
abbrev sort : DatedRead → ℕ
sort (Ok None) = 0
sort (Err (undated.NoRecord f)) = 1
sort (Err (undated.NoMoment f)) = 2
sort (Ok (Some d)) = 3

apart : {X : Type 0} {d x y : DatedRead} → d ≡ x → d ≡ y → sort x ≢ sort y → X
apart p q n = absurd (n (ap sort (sym p ∙ q)))

-- and the same thing has the same parts
same_fault : {f g : RecordRefusal} → ◌≡◌ {A = DatedRead} (Err (undated.NoRecord f)) (Err (undated.NoRecord g)) → f ≡ g
same_fault e = cc

same_moment : {f g : MomentRefusal} → ◌≡◌ {A = DatedRead} (Err (undated.NoMoment f)) (Err (undated.NoMoment g)) → f ≡ g
same_moment e = cc

module _ {e f : Record} {j i : Kind} {past end : ℕ} (q : dated_record e j past ≡ dated_record f i end) where
  same_parts : ◌≡◌ {A = Dated} (record { item = e; kind = j; past = past }) (record { item = f; kind = i; past = end })
  same_parts = cc

  same_record : e ≡ f
  same_record = ap (λ (d : Dated). d.item) same_parts

  same_kind : j ≡ i
  same_kind = ap (λ (d : Dated). d.kind) same_parts

  same_past : past ≡ end
  same_past = ap (λ (d : Dated). d.past) same_parts

  fed_same : {l n : List ℕ} {a : Fed} → LiveFed l e a n → LiveFed l f a n
  fed_same {l} {n} {a} F = subst (λ (x : Record). LiveFed l x a n) same_record F

same_refusal : {h x : FeedRefusal} → ◌≡◌ {A = Fed} (Err h) (Err x) → h ≡ x
same_refusal e = cc

same_taken : {a b : Answer} → ◌≡◌ {A = Fed} (Ok a) (Ok b) → a ≡ b
same_taken e = cc

onward : {s : List ℕ} {past end : ℕ} {j i : Kind} {n m : List ℕ} {ans : Snoc Answer} {a b : Answer} {o : Outcome}
    → past ≡ end → j ≡ i → n ≡ m → a ≡ b → Feeds s past j n (ans ▸ a) o → Feeds s end i m (ans ▸ b) o
onward {s} {past} {end} {j} {i} {n} {m} {ans} {a} {b} {o} p q r t F =
    subst (λ (x : ℕ). Feeds s x i m (ans ▸ b) o) p
    (subst (λ (x : Kind). Feeds s past x m (ans ▸ b) o) q
    (subst (λ (x : List ℕ). Feeds s past j x (ans ▸ b) o) r
    (subst (λ (x : Answer). Feeds s past j n (ans ▸ x) o) t F)))

-- from an offset on there is one outcome
one_outcome : {s : List ℕ} {at : ℕ} {k : Kind} {l : List ℕ} {ans : Snoc Answer} {o p : Outcome} → Feeds s at k l ans o
    → Feeds s at k l ans p → o ≡ p
one_outcome (at_break b) (at_break c) = refl
one_outcome (at_break b) (at_end c d) = clash b c
one_outcome (at_break b) (at_no_record f c d) = clash b c
one_outcome (at_break b) (at_no_moment f c d) = clash b c
one_outcome (at_break b) (at_refused e j past h n c d F) = clash b c
one_outcome (at_break b) (taken e j past a n c d F G) = clash b c
one_outcome (at_end b q) (at_break c) = clash c b
one_outcome (at_end b q) (at_end c d) = refl
one_outcome (at_end b q) (at_no_record f c d) = apart q d (λ z. omega (arith, z))
one_outcome (at_end b q) (at_no_moment f c d) = apart q d (λ z. omega (arith, z))
one_outcome (at_end b q) (at_refused e j past h n c d F) = apart q d (λ z. omega (arith, z))
one_outcome (at_end b q) (taken e j past a n c d F G) = apart q d (λ z. omega (arith, z))
one_outcome (at_no_record g b q) (at_break c) = clash c b
one_outcome (at_no_record g b q) (at_end c d) = apart q d (λ z. omega (arith, z))
one_outcome {at = at} {k} {l} {ans} (at_no_record g b q) (at_no_record f c d) =
    let z : g ≡ f = same_fault (sym q ∙ d) in
    λ i. record { number = record_refusal_number (z i); answers = ans; place = at; kind = k; bytes = l }
one_outcome (at_no_record g b q) (at_no_moment f c d) = apart q d (λ z. omega (arith, z))
one_outcome (at_no_record g b q) (at_refused e j past h n c d F) = apart q d (λ z. omega (arith, z))
one_outcome (at_no_record g b q) (taken e j past a n c d F G) = apart q d (λ z. omega (arith, z))
one_outcome (at_no_moment g b q) (at_break c) = clash c b
one_outcome (at_no_moment g b q) (at_end c d) = apart q d (λ z. omega (arith, z))
one_outcome (at_no_moment g b q) (at_no_record f c d) = apart q d (λ z. omega (arith, z))
one_outcome {at = at} {k} {l} {ans} (at_no_moment g b q) (at_no_moment f c d) =
    let z : g ≡ f = same_moment (sym q ∙ d) in
    λ i. record { number = moment_refusal_number (z i); answers = ans; place = at; kind = k; bytes = l }
one_outcome (at_no_moment g b q) (at_refused e j past h n c d F) = apart q d (λ z. omega (arith, z))
one_outcome (at_no_moment g b q) (taken e j past a n c d F G) = apart q d (λ z. omega (arith, z))
one_outcome (at_refused e j past h n b q F) (at_break c) = clash c b
one_outcome (at_refused e j past h n b q F) (at_end c d) = apart q d (λ z. omega (arith, z))
one_outcome (at_refused e j past h n b q F) (at_no_record f c d) = apart q d (λ z. omega (arith, z))
one_outcome (at_refused e j past h n b q F) (at_no_moment f c d) = apart q d (λ z. omega (arith, z))
one_outcome {at = at} {k} {l} {ans} (at_refused e j past h n b q F) (at_refused f i end x m c d G) =
    let z : h ≡ x = same_refusal (one_answer (fed_same (sym q ∙ d) F) G) in
    λ i. record { number = feed_refusal_number (z i); answers = ans; place = at; kind = k; bytes = l }
one_outcome (at_refused e j past h n b q F) (taken f i end x m c d G H) =
    clash refl (ap is_refused (one_answer (fed_same (sym q ∙ d) F) G))
one_outcome (taken e j past a n b q F H) (at_break c) = clash c b
one_outcome (taken e j past a n b q F H) (at_end c d) = apart q d (λ z. omega (arith, z))
one_outcome (taken e j past a n b q F H) (at_no_record f c d) = apart q d (λ z. omega (arith, z))
one_outcome (taken e j past a n b q F H) (at_no_moment f c d) = apart q d (λ z. omega (arith, z))
one_outcome (taken e j past a n b q F H) (at_refused f i end x m c d G) =
    clash refl (ap is_refused (sym (one_answer (fed_same (sym q ∙ d) F) G)))
one_outcome {s} {ans = ans} {o} (taken e j past a n b q F H) (taken f i end x m c d G K) =
    let E = fed_same (sym q ∙ d) F in
    one_outcome
    (onward (same_past (sym q ∙ d)) (same_kind (sym q ∙ d)) (one_next E G) (same_taken (one_answer E G)) H) K

-- the whole call
one_call : {l s : List ℕ} {k : Kind} {o p : Outcome} → FeedsLog l k s o → FeedsLog l k s p → o ≡ p
one_call (refuses n) (refuses m) = refl
one_call (refuses n) (feeds z F) = absurd (n z)
one_call (feeds z F) (refuses n) = absurd (n z)
one_call (feeds z F) (feeds y G) = one_outcome F G

-- why a call stopped, by its number
stop_by : ℕ → Stop
stop_by n =
    cond (eqb n 0) stop.End
    (cond (eqb n 1) stop.Broken
    (cond (eqb n not_a_chart) stop.NotAChart
    (cond (eqb n not_fit) stop.Unfit
    (cond (eqb n cut_short) (stop.Log (NoRecord CutShort))
    (cond (eqb n unknown_byte) (stop.Log (NoRecord UnknownByte))
    (cond (eqb n two_kinds) (stop.Log (NoMoment Mixed))
    (cond (eqb n time_falls) (stop.Log (NoMoment Falls))
    (cond (eqb n too_late) (stop.Log (NoMoment TooLate)) (stop.Log TooManyRecords)))))))))

stop_back : (x : Stop) → stop_by (number_of x) ≡ x
unfolding stop_by
stop_back stop.End = refl
stop_back stop.Broken = refl
stop_back stop.NotAChart = refl
stop_back stop.Unfit = refl
stop_back (stop.Log (NoRecord CutShort)) = refl
stop_back (stop.Log (NoRecord UnknownByte)) = refl
stop_back (stop.Log (NoMoment Mixed)) = refl
stop_back (stop.Log (NoMoment Falls)) = refl
stop_back (stop.Log (NoMoment TooLate)) = refl
stop_back (stop.Log TooManyRecords) = refl

same_stop : (x y : Stop) → number_of x ≡ number_of y → x ≡ y
same_stop x y e = sym (stop_back x) ∙ ap stop_by e ∙ stop_back y

pub feeds_tell : FeedsTell
feeds_tell = record {
  tell = λ {l} {s} {n} {m} {k} {r} {q} F G.
      let e = one_call F.one_by_one G.one_by_one in
      let a : F.answers ≡ G.answers = ap (λ (o : Outcome). o.answers) e in (
        λ i. record {
          stop = same_stop r.stop q.stop (ap (λ (o : Outcome). o.number) e) i;
          kind = (e i).kind;
          place = (e i).place;
          taken = (F.is_taken ∙ ap size a ∙ sym G.is_taken) i;
          last = (F.is_last ∙ ap last_number a ∙ sym G.is_last) i;
          counts = (F.is_counts ∙ ap counts_of a ∙ sym G.is_counts) i;
        },
        ap (λ (o : Outcome). o.bytes) e,
      );
}
