-- The counts of a log and its break, with what each of the four ways to take a record makes of them.
use Rattle.std.specs.Prelude.{ℕ, suc}
use Rattle.model.specs.declared.Cause.{Cause}
use Rattle.model.specs.Monitor.{no_cause}

-- where and why the log is broken: the record's number, the reason and the cause (T31), all zero if there is no break
pub record Break : Type 0 where
  pub at : ℕ
  pub reason : ℕ
  pub cause : Cause

-- the last record's time; the numbers of records, of kept rounds and of dropped rounds; the break
pub record Tally : Type 0 where
  pub now : ℕ
  pub records : ℕ
  pub kept : ℕ
  pub dropped : ℕ
  pub broken : Break

abbrev pub no_break : Break
no_break = record { at = 0; reason = 0; cause = no_cause }

-- before the first record
abbrev pub fresh_tally : Tally
fresh_tally = record { now = 0; records = 0; kept = 0; dropped = 0; broken = no_break }

-- one more record, at time t, with these numbers of kept and of dropped rounds and this break
abbrev pub counted_as : Tally → ℕ → ℕ → ℕ → Break → Tally
counted_as x t kept dropped broken = record {
  now = t;
  records = suc x.records;
  kept = kept;
  dropped = dropped;
  broken = broken;
}

-- Four ways to take a record, each for a tally without a break. The round runs on:
abbrev pub counted : Tally → ℕ → Tally
counted x t = counted_as x t x.kept x.dropped no_break

-- the round is kept
abbrev pub counted_kept : Tally → ℕ → Tally
counted_kept x t = counted_as x t (suc x.kept) x.dropped no_break

-- the round is dropped
abbrev pub counted_dropped : Tally → ℕ → Tally
counted_dropped x t = counted_as x t x.kept (suc x.dropped) no_break

-- the round is broken for reason k, with cause z, at the record that is counted
abbrev pub counted_broken : Tally → ℕ → ℕ → Cause → Tally
counted_broken x t k z =
    counted_as x t x.kept x.dropped (record { at = suc x.records; reason = k; cause = z })

-- T34: a round is dropped at time t by a record that is offered again, and counted with that offer
abbrev pub reopened_tally : Tally → ℕ → Tally
reopened_tally x t = record {
  now = t;
  records = x.records;
  kept = x.kept;
  dropped = suc x.dropped;
  broken = x.broken;
}
