-- `log_check::met_at` meets its contract: a whole record of the pace is met at its moment, anything else is not. Assumes
-- nothing.
use Rattle.std.proofs.Common.{ℕ, ◌+◌, ap, ◌∙◌, arith, rules, eq-eqb}
use Rattle.log_reader.specs.Record.{message_size, time_size}
use Rattle.log_check.specs.Met.{met_if}
use Rattle.log_check.proofs.Meets.{message_code, time_code, message_meets, time_meets, other_meets}
use Rattle.log_check.proofs.Paces.{paced}
use Rattle.log_check.proofs.Meets.{cut_short_case, no_byte, other_byte, small_byte}
use Rattle.log_check.proofs.met_at.Goals as goal

pub returns-then-at-log : goal.returns-then-at-log
returns-then-at-log c =
    let w = c.word32_in in
    let t = c.moment_of-t in
    let tag = c.if-tag-pace.true in
    let code = c.code_of-code.ensures ∙ message_code c.args.log.now c.args.at c.args.pace (paced c.args.pace) tag w.result w.ensures.value w.ensures.low in
    let M = message_meets c.args.log.now c.args.at c.args.last c.args.records c.args.pace (paced c.args.pace) (search rules) (eq-eqb _ _ tag) c.if-at-log.true t.result t.ensures.within (t.ensures.counted ∙ c.word32_in-then-at-log.ensures.value) in record {
      met = c.met_if.ensures ∙ ap (λ (x : ℕ). met_if c.args.pace c.args.last c.args.records x t.result (c.args.at + message_size)) code ∙ M.met;
      steady = M.steady;
    }

pub returns-then-tag-pace : goal.returns-then-tag-pace
returns-then-tag-pace c =
    let M = other_meets c.args.log.now c.args.at c.args.last c.args.records c.args.pace (paced c.args.pace) c.requires
    (cut_short_case c.args.log.now c.args.at c.args.pace.message message_size c.if-at-log.false) (other_byte c.args.log.now c.args.at c.args.pace (paced c.args.pace) c.if-tag-pace.true) in record {
      met = M.met;
      steady = M.steady;
    }

pub overflow_add-pace : goal.overflow_add-pace
overflow_add-pace c =
    omega (arith, small_byte c.args.pace (paced c.args.pace))

pub returns-then-at-log-2 : goal.returns-then-at-log-2
returns-then-at-log-2 c =
    let t = c.moment_of-t-then-at-log-2 in
    let tag = c.if-tag-pace-2.true in
    let M = time_meets c.args.log.now c.args.at c.args.last c.args.records c.args.pace (paced c.args.pace) (search rules) (eq-eqb _ _ tag) c.if-at-log-2.true t.result t.ensures.within (t.ensures.counted ∙ c.word32_in-then-at-log-2.ensures.value) in record {
      met = c.met_if-then-at-log-2.ensures ∙ ap (λ (x : ℕ). met_if c.args.pace c.args.last c.args.records x t.result (c.args.at + time_size)) (time_code c.args.log.now c.args.at c.args.pace (paced c.args.pace) tag) ∙ M.met;
      steady = M.steady;
    }

pub returns-else-at-log-2 : goal.returns-else-at-log-2
returns-else-at-log-2 c =
    let M = other_meets c.args.log.now c.args.at c.args.last c.args.records c.args.pace (paced c.args.pace) c.requires
    (no_byte c.args.log.now c.args.at c.args.pace.message message_size c.if-tag-pace.false) (cut_short_case c.args.log.now c.args.at (c.args.pace.message + 1) time_size c.if-at-log-2.false) in record {
      met = M.met;
      steady = M.steady;
    }

pub returns-else-tag-pace-2 : goal.returns-else-tag-pace-2
returns-else-tag-pace-2 c =
    let M = other_meets c.args.log.now c.args.at c.args.last c.args.records c.args.pace (paced c.args.pace) c.requires
    (no_byte c.args.log.now c.args.at c.args.pace.message message_size c.if-tag-pace.false) (no_byte c.args.log.now c.args.at (c.args.pace.message + 1) time_size c.if-tag-pace-2.false) in record {
      met = M.met;
      steady = M.steady;
    }
