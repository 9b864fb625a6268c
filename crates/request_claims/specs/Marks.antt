-- J14: what judging says by two charts that differ in their marks of places to rest alone.
use Rattle.std.specs.Prelude.{◌≡◌, cond, ℕ, eqb}
use Rattle.judge.specs.Said as judge
use Rattle.verdict.specs.Verdict.{owed, resting}

-- the standing, with 4 taken for 2
abbrev pub without_rest : ℕ → ℕ
without_rest k = cond (eqb k resting) owed k

-- the same but for that
pub record SaidAlike (r s : judge.Said) : Type 0 where
  pub number : r.number ≡ s.number
  pub offset : r.offset ≡ s.offset
  pub standing : without_rest r.verdict.standing ≡ without_rest s.verdict.standing
  pub kept : r.verdict.kept ≡ s.verdict.kept
  pub dropped : r.verdict.dropped ≡ s.verdict.dropped
  pub records : r.verdict.records ≡ s.verdict.records
  pub broken : r.verdict.broken ≡ s.verdict.broken
  pub reason : r.verdict.reason ≡ s.verdict.reason
  pub region : r.verdict.region ≡ s.verdict.region
  pub term : r.verdict.term ≡ s.verdict.term
