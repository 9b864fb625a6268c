-- Every case has its instance: charts and monitors by computing their tests, logs by walking their records. Assumes
-- nothing.
use mathlib.Core.Path.{◌≡◌, refl, sym, ap, subst, ◌∙◌}
use mathlib.Core.Bool.{Bool, true, ◌&&◌}
use mathlib.Core.List.{List, [], ◌∷◌}
use Prim.Native.Nat.{ℕ, zero, suc, ◌+◌, ◌*◌, ◌≤◌, ◌<◌}
use native.Mathlib.Omega.{arith}
use native.Mathlib.Nat.{not-suc-le-zero}
use lib.Dec.{ltb}
use lib.ListN.{length, get_or}
use borrow.Author.Tests.{ltb-true}
use Rattle.model.specs.declared.Monitor.{Monitor}
use Rattle.model.specs.declared.Record.{Record}
use Rattle.model.specs.Chart.{zero_chart}
use Rattle.model.specs.Monitor.{no_cause, zero_monitor}
use Rattle.chart_reader.specs.Said.{accepted_as}
use Rattle.chart_value.specs.Given.{Given}
use Rattle.chart_value.proofs.Sound.{sound}
use Rattle.base.specs.Lists.{Snoc, ε, ◌▸◌, size}
use Rattle.rounds.specs.Feeds.{refused, broken_at, entered}
use Rattle.rounds.specs.Machine.{Monitor as AbstractMonitor, Fit, feed, after}
use Rattle.base.proofs.Bools.{clash, and_left, and_right}
use Rattle.rounds.proofs.Fitness.{after_fit}
use Rattle.paper.specs.Taken.{Taken, status_of, Acceptable}
use Rattle.paper.proofs.Demand2.{demand_2}
use Rattle.stepping.specs.Monitors.{monitor_at}
use Rattle.chart_value.specs.Records.{log_record}
use Rattle.monitor.specs.Fit.{closed_upward, rests_unless_broken, moments_fit, counts_fit, cause_fits, break_fits, place_fits}
use Rattle.monitor.specs.Fit.{fits}
use Rattle.monitor.specs.History.{HistoryOver}
use Rattle.monitor.proofs.Fitness.{of_fit, fit_exactly}
use Rattle.monitor.proofs.History.{feeding}
use Rattle.stepping.proofs.Zeros.{zero_fresh}
use Rattle.log_reader.specs.Record as found
use Rattle.log_clock.specs.declared.Kind.{Kind}
use Rattle.log_clock.specs.declared.Kind.TheVariants.{Unset, Plain}
use Rattle.examples.specs.Examples.{chart_u}
use Rattle.log_claims.specs.Logs as cases
use Rattle.feed_claims.specs.Feeds as feeding-cases
use Rattle.claims.specs.Demand1 as demand-1
use Rattle.log_clock.specs.TrueTimes as times
use Rattle.log_claims.specs.Logs.{FindsAs, ComesAs, Walk}
use Rattle.feed_claims.specs.Feeds.{FeedsAs}
use Rattle.claims.specs.Demand1.{refused_log, JudgesAs}
use Rattle.claims.proofs.Demand1.{reads_just}
use Rattle.claims.proofs.Standing.{row_cases}
use Rattle.witnesses.specs.Feeds.{passes as passed, undo, headings, references, stored}
use Rattle.witnesses.specs.Raw.{raw_time}
use Rattle.witness_rounds.specs.Charts.{written}
use Rattle.model.specs.Answers.{verdict_from}
use Rattle.witness_rounds.specs.Rounds.{U}
use Rattle.witness_rounds.specs.Cases.{value_u, value_rest, ticks, shown, stamp, Cases}
use Rattle.witness_rounds.proofs.Computing.{computing}
use Rattle.witness_rounds.proofs.Logs.{read_u, accepted_u}

abbrev small_test : List ℕ → Bool
small_test [] = true
small_test (b ∷ s) = ltb b 256 && small_test s

small : (s : List ℕ) → small_test s ≡ true → (i : ℕ) → i < length s → get_or s i 0 < 256
small [] h i l = absurd (not-suc-le-zero l)
small (b ∷ s) h zero l = ltb-true b 256 (and_left (ltb b 256) (small_test s) h)
small (b ∷ s) h (suc i) l = small s (and_right (ltb b 256) (small_test s) h) i (omega (arith, l))

given_u : Given value_u
given_u = record { bytes = chart_u; small = small chart_u refl; accepted = read_u }

zeros_not : ¬ Given zero_chart
unfolding computing
zeros_not g = clash (sound g.bytes zero_chart g.accepted).fine refl

fit : (m : Monitor) → length m.place.resets ≡ 8 → fits U m ≡ true → Fit U (monitor_at m)
fit m p q = (fit_exactly U accepted_u m p true (sym q)).0 refl

unfit : FeedsAs value_u (stored 7 0 0 3 0 0) (undo 100) (refused 21) (stored 7 0 0 3 0 0)
unfolding computing fits place_fits closed_upward rests_unless_broken moments_fit counts_fit cause_fits break_fits
unfit = feeding-cases.unfit given_u (λ F. clash (of_fit U accepted_u (stored 7 0 0 3 0 0) F) refl)

broken_again : FeedsAs value_u (stored 1 0 110 2 2 1) (undo 120) (broken_at 2 1 no_cause) (stored 1 0 110 2 2 1)
unfolding computing fits place_fits closed_upward rests_unless_broken moments_fit counts_fit cause_fits break_fits
broken_again = feeding-cases.broken_again given_u (fit (stored 1 0 110 2 2 1) refl refl) (λ z. omega (arith, z))

time_falls_case : FeedsAs value_u (stored 0 0 100 1 0 0) (undo 99) (refused 22) (stored 0 0 100 1 0 0)
unfolding computing fits place_fits closed_upward rests_unless_broken moments_fit counts_fit cause_fits break_fits
time_falls_case = feeding-cases.time_falls_case given_u (fit (stored 0 0 100 1 0 0) refl refl) refl (omega arith)

too_many : FeedsAs value_u (stored 0 0 100 1000000 0 0) (undo 100) (refused 23) (stored 0 0 100 1000000 0 0)
unfolding computing fits place_fits closed_upward rests_unless_broken moments_fit counts_fit cause_fits break_fits
too_many = feeding-cases.too_many given_u (fit (stored 0 0 100 1000000 0 0) refl refl) refl (omega arith) (omega arith)

-- undo, fed to a fresh monitor: the monitor of a list of one feed
takes : (n : Monitor) × FeedsAs value_u zero_monitor (undo 100) entered n
unfolding computing
takes =
    let G = feeding value_u refl accepted_u in
    let X : HistoryOver value_u (ε ▸ undo 100) = G.exists (ε ▸ undo 100) in
    let z : monitor_at zero_monitor ≡ after U ε = zero_fresh in
    let L : monitor_at X.monitor ≡ (feed U (monitor_at zero_monitor) (log_record (undo 100))).next
    = G.leads X.history ∙ ap (λ (m : AbstractMonitor). (feed U m (log_record (undo 100))).next) (sym z) in
    let P : Acceptable U (monitor_at zero_monitor) (log_record (undo 100))
    = record {
      fit = subst (Fit U) (sym z) (after_fit U accepted_u ε);
      unbroken = refl;
      forward = omega arith;
      room = omega arith;
    } in
    let D = demand_2 U accepted_u in (
      X.monitor,
      feeding-cases.takes given_u P entered X.monitor
          (subst (λ (m : AbstractMonitor). Taken U (status_of U (monitor_at zero_monitor)) (log_record (undo 100))
          (status_of U m) entered) (sym L)
          (D.given (monitor_at zero_monitor) (log_record (undo 100)) P))
          (subst (Fit U) (sym L) (D.stays_fit (monitor_at zero_monitor) (log_record (undo 100)) P)),
    )

no_tag : FindsAs (0x05 ∷ []) 0 (found.refused 31 0)
no_tag =
    cases.unknown (omega arith) (λ z. omega (arith, z)) (λ z. omega (arith, z)) (λ z. omega (arith, z))
    (λ z. omega (arith, z))

no_tag_after : FindsAs (written (ε ▸ passed 7) (0x05 ∷ [])) 5 (found.refused 31 5)
no_tag_after =
    cases.unknown (omega arith) (λ z. omega (arith, z)) (λ z. omega (arith, z)) (λ z. omega (arith, z))
    (λ z. omega (arith, z))

message : FindsAs (written (ε ▸ undo 100) []) 0 (found.handed (undo 100) 9)
message = cases.message refl (omega arith)

two : Walk (written (ε ▸ undo 100 ▸ passed 110) []) (ε ▸ undo 100 ▸ passed 110) Plain 14 110
two =
    cases.step
    (cases.step cases.start (undo 100) Plain 9 (cases.first_plain (undo 100) 9 (cases.message refl (omega arith)))
    (omega arith))
    (passed 110) Plain 14 (cases.plain (passed 110) 14 (cases.time refl (omega arith)) (omega arith)) (omega arith)

-- a first record of time, plain and raw, before more of a log
first_time : (rest : List ℕ) → Walk (written (ε ▸ passed 7) rest) (ε ▸ passed 7) Plain 5 7
first_time rest =
    cases.step cases.start (passed 7) Plain 5
    (cases.first_plain (passed 7) 5 (cases.time refl (omega arith))) (omega arith)

first_shown : (rest : List ℕ) → Walk (shown 0 0 0 7 rest) (ε ▸ passed 0) (stamp 7) 5 0
first_shown rest =
    cases.step cases.start (passed 0) (stamp 7) 5 (cases.first_raw (raw_time 7) 5 (cases.raw_time_case refl (omega arith)))
    (omega arith)

-- moments 0, 2^31 - 1 and 2^32 - 2
abbrev long : List ℕ
long = shown 0 0 0 0 (shown 0x7f 0xff 0xff 0xff (shown 0xff 0xff 0xff 0xfe (shown 0 0 0 0 [])))

long_walk : Walk long (ε ▸ passed 0 ▸ passed 2147483647 ▸ passed 4294967294) (stamp 4294967294) 15 4294967294
long_walk =
    cases.step
    (cases.step
    (cases.step cases.start (passed 0) (stamp 0) 5 (cases.first_raw (raw_time 0) 5 (cases.raw_time_case refl (omega arith)))
    (omega arith))
    (passed 2147483647) (stamp 2147483647) 10
    (cases.raw (record { 0 = 0 }) (raw_time 2147483647) 10 (cases.raw_time_case refl (omega arith)) 2147483647 refl
    (omega arith) (omega arith)) (omega arith))
    (passed 4294967294) (stamp 4294967294) 15
    (cases.raw (record { 0 = 2147483647 }) (raw_time 4294967294) 15 (cases.raw_time_case refl (omega arith)) 2147483647 refl
    (omega arith) (omega arith)) (omega arith)

-- a log of n records of time 0: the byte at each offset, and a walk over the first k of them
module _ where
  ticks_length : (n : ℕ) → length (ticks n) ≡ 5 * n
  unfolding ticks
  ticks_length zero = refl
  ticks_length (suc n) = let h : length (ticks n) ≡ 5 * n = ticks_length n in omega arith

  -- the byte of each record, and zeros after it
  head_at : (n k : ℕ) → k < n → get_or (ticks n) (5 * k) 0 ≡ 2
  unfolding ticks
  head_at zero k h = absurd (not-suc-le-zero h)
  head_at (suc n) zero h = refl
  head_at (suc n) (suc k) h =
      let q : 5 * suc k ≡ suc (suc (suc (suc (suc (5 * k))))) = omega arith in
      ap (λ (i : ℕ). get_or (ticks (suc n)) i 0) q ∙ head_at n k (omega arith)

  zero_at : (n k i : ℕ) → k < n → 5 * k < i → i < 5 * k + 5 → get_or (ticks n) i 0 ≡ 0
  unfolding ticks
  zero_at zero k i h a b = absurd (not-suc-le-zero h)
  zero_at (suc n) zero zero h a b = absurd (omega arith)
  zero_at (suc n) zero (suc zero) h a b = refl
  zero_at (suc n) zero (suc (suc zero)) h a b = refl
  zero_at (suc n) zero (suc (suc (suc zero))) h a b = refl
  zero_at (suc n) zero (suc (suc (suc (suc zero)))) h a b = refl
  zero_at (suc n) zero (suc (suc (suc (suc (suc i))))) h a b = absurd (omega arith)
  zero_at (suc n) (suc k) zero h a b = absurd (omega arith)
  zero_at (suc n) (suc k) (suc zero) h a b = absurd (omega arith)
  zero_at (suc n) (suc k) (suc (suc zero)) h a b = absurd (omega arith)
  zero_at (suc n) (suc k) (suc (suc (suc zero))) h a b = absurd (omega arith)
  zero_at (suc n) (suc k) (suc (suc (suc (suc zero)))) h a b = absurd (omega arith)
  zero_at (suc n) (suc k) (suc (suc (suc (suc (suc i))))) h a b =
      zero_at n k i (omega arith) (omega arith) (omega arith)

  time_at_lem : (n k : ℕ) → k < n → found.time_at (ticks n) (5 * k) ≡ passed 0
  time_at_lem n k h =
      rw (
        zero_at n k (5 * k + 1) h (omega arith) (omega arith),
        zero_at n k (5 * k + 1 + 1) h (omega arith) (omega arith),
        zero_at n k (5 * k + 1 + 2) h (omega arith) (omega arith),
        zero_at n k (5 * k + 1 + 2 + 1) h (omega arith) (omega arith),
      )

  tick : (n k : ℕ) → k < n → FindsAs (ticks n) (5 * k) (found.handed (passed 0) (5 * k + 5))
  tick n k h =
      subst (λ (r : Record). FindsAs (ticks n) (5 * k) (found.handed r (5 * k + 5))) (time_at_lem n k h)
      (cases.time (head_at n k h) (let l : length (ticks n) ≡ 5 * n = ticks_length n in omega arith))

  abbrev copies : ℕ → Snoc Record
  copies zero = ε
  copies (suc k) = copies k ▸ passed 0

  copies_size : (k : ℕ) → size (copies k) ≡ k
  copies_size zero = refl
  copies_size (suc k) = ap suc (copies_size k)

  abbrev kind_after : ℕ → Kind
  kind_after zero = Unset
  kind_after (suc k) = Plain

  comes : (n k : ℕ) → k < n → (j : ℕ) → ComesAs (ticks n) (5 * k) 0 (kind_after j) (passed 0) Plain (5 * k + 5)
  comes n k h zero = cases.first_plain (passed 0) (5 * k + 5) (tick n k h)
  comes n k h (suc j) = cases.plain (passed 0) (5 * k + 5) (tick n k h) (omega arith)

  walk : (n k : ℕ) → k ≤ n → k ≤ 1000000 → Walk (ticks n) (copies k) (kind_after k) (5 * k) 0
  walk n zero h m = cases.start
  walk n (suc k) h m =
      let s : size (copies k) ≡ k = copies_size k in
      let q : 5 * k + 5 ≡ 5 * suc k = omega arith in
      subst (λ (p : ℕ). Walk (ticks n) (copies k ▸ passed 0) Plain p 0) q
      (cases.step (walk n k (omega arith) (omega arith)) (passed 0) Plain (5 * k + 5) (comes n k (omega arith) k)
      (omega arith))

overflow : (k : ℕ) → k ≡ 1000000 → JudgesAs value_u (ticks (suc k)) (refused_log 23 (5 * k))
overflow k q =
    let s : size (copies k) ≡ k = copies_size k in
    demand-1.refuses given_u (walk (suc k) k (omega arith) (omega arith)) 23
    (cases.overflows (kind_after k) (passed 0) Plain (5 * k + 5) (comes (suc k) k (omega arith) k) (omega arith))

judges : JudgesAs value_u (written (ε ▸ undo 100 ▸ references 120 ▸ headings 140) [])
    (record { number = 0; offset = 0; verdict = verdict_from 0 1 0 3 0 0 0 0 })
unfolding computing
judges =
    demand-1.judges given_u
    (cases.step
    (cases.step
    (cases.step cases.start (undo 100) Plain 9 (cases.first_plain (undo 100) 9 (cases.message refl (omega arith)))
    (omega arith))
    (references 120) Plain 18 (cases.plain (references 120) 18 (cases.message refl (omega arith)) (omega arith))
    (omega arith))
    (headings 140) Plain 27 (cases.plain (headings 140) 27 (cases.message refl (omega arith)) (omega arith))
    (omega arith))
    (cases.ends (omega arith))

pub each_case : Cases
unfolding computing
each_case = record {
  accepts = (reads_just chart_u (accepted_as value_u) (sym read_u)).holds;
  refuses = (reads_just [] (record { number = 1; offset = 0; chart = zero_chart }) refl).holds;
  makes = feeding-cases.makes given_u;
  no_chart = feeding-cases.no_chart zeros_not;
  not_a_chart_case = feeding-cases.not_a_chart_case zeros_not;
  unfit = unfit;
  broken_again = broken_again;
  time_falls_case = time_falls_case;
  too_many = too_many;
  takes = takes;
  ends = cases.ends (omega arith);
  unknown = no_tag;
  message_cut = cases.message_cut refl (omega arith);
  time_cut = cases.time_cut refl (omega arith);
  raw_message_cut = cases.raw_message_cut refl (omega arith);
  raw_time_cut = cases.raw_time_cut refl (omega arith);
  message = message;
  time = cases.time refl (omega arith);
  raw_message_case = cases.raw_message_case refl (omega arith);
  raw_time_case = cases.raw_time_case refl (omega arith);
  first_plain = cases.first_plain (passed 7) 5 (cases.time refl (omega arith));
  plain = cases.plain (passed 7) 5 (cases.time refl (omega arith)) (omega arith);
  first_raw = cases.first_raw (raw_time 5) 5 (cases.raw_time_case refl (omega arith));
  raw = cases.raw (record { 0 = 4294967295 }) (raw_time 5) 5 (cases.raw_time_case refl (omega arith)) 6 refl (omega arith)
      (omega arith);
  start = cases.start;
  step = two;
  begins = times.begins;
  goes_on = times.goes_on
      (times.goes_on
      (times.goes_on times.begins 2147483654 (omega arith) (omega arith) (omega arith))
      4294967301 (omega arith) (omega arith) (omega arith))
      4294967302 (omega arith) (omega arith) (omega arith);
  none_stamped = cases.none_stamped;
  one_stamped = cases.one_stamped
      (cases.one_stamped cases.none_stamped (raw_time 4294967290) 5 (cases.raw_time_case refl (omega arith)) 4294967290 refl)
      (raw_time 5) 10 (cases.raw_time_case refl (omega arith)) 4294967301 refl;
  not_given = demand-1.not_given zeros_not;
  no_record = demand-1.refuses given_u (first_time _) 31 (cases.no_record Plain 31 no_tag_after);
  raw_in_plain = demand-1.refuses given_u (first_time _) 32
      (cases.raw_in_plain (raw_time 7) 10 (cases.raw_time_case refl (omega arith)));
  plain_in_raw = demand-1.refuses given_u (first_shown _) 32
      (cases.plain_in_raw (record { 0 = 7 }) (passed 7) 10 (cases.time refl (omega arith)));
  falls = demand-1.refuses given_u
      (cases.step cases.start (undo 100) Plain 9 (cases.first_plain (undo 100) 9 (cases.message refl (omega arith)))
      (omega arith)) 22
      (cases.falls (headings 99) 18 (cases.message refl (omega arith)) (omega arith));
  goes_back = demand-1.refuses given_u (first_shown _) 22
      (cases.goes_back (record { 0 = 7 }) (raw_time 6) 10 (cases.raw_time_case refl (omega arith)) 4294967295 refl
      (omega arith) (omega arith));
  too_late_case = demand-1.refuses given_u long_walk 24
      (cases.too_late_case (record { 0 = 4294967294 }) (raw_time 0) 20 (cases.raw_time_case refl (omega arith)) 2 refl
      (omega arith) (omega arith));
  overflows = overflow 1000000 refl;
  judges = judges;
  opens = row_cases value_rest ε (λ n. absurd (n refl));
  in_prechart_case = row_cases value_rest (ε ▸ 0) (λ n. refl);
  owes = row_cases value_rest (ε ▸ 0 ▸ 1) (λ n. refl);
  rests = row_cases value_rest (ε ▸ 0 ▸ 1 ▸ 2) (λ n. refl);
}
