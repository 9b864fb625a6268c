-- `lsc_log::lsc_feed_log` meets its contract: the tests in their order, then the call. Assumes nothing.
use mathlib.Core.Path.{refl, sym, subst}
use Prim.Native.Nat.{ℕ}
use borrow.Author.Tests.{ltb-false}
use lib.ListN.{length}
use Rattle.base.proofs.Bools.{neither}
use Rattle.lsc_log.specs.Log.{kind_size, log_places, CallsLog, too_few, no_kind}
use Rattle.lsc_log.proofs.Laws.{kind_there, no_kind_there, said, calls_tell}
use Rattle.lsc_log.proofs.lsc_feed_log.Goals as goal

pub returns-then-kind-out : goal.returns-then-kind-out
returns-then-kind-out c = record {
  fed = too_few c.if-kind-out.true;
  only = calls_tell;
  unchanged = refl;
}

pub returns-then-byte_at-gt-RAW : goal.returns-then-byte_at-gt-RAW
returns-then-byte_at-gt-RAW c =
    let a = c.args in
    let z = c.if-kind-out.false in
    let k = no_kind_there a.kind.now _ c.byte_at.ensures.value c.if-byte_at-gt-RAW.true in record {
      fed = subst (λ (x : ℕ). CallsLog a.live.now a.kind.now a.log.now a.out.now x a.live.now a.kind.now a.out.now)
          (sym c.no_kind.ensures) (no_kind z k);
      only = calls_tell;
      unchanged = refl;
    }

pub put_said-requires : goal.put_said-requires
put_said-requires c =
    let a = c.args in
    let z = neither _ _ c.if-kind-out.false in record {
      kind_size_in_bounds = ltb-false (length a.kind.now) kind_size z.0;
      log_places_in_bounds = ltb-false (length a.out.now) log_places z.1;
    }

pub returns : goal.returns
returns c =
    let a = c.args in
    let z = c.if-kind-out.false in
    let k = kind_there a.kind.now _ c.byte_at.ensures.value c.if-byte_at-gt-RAW.false in record {
      fed = said a.live.now a.kind.now a.log.now a.out.now z k c.kind_at.ensures c.feed_log-r.ensures.fed c.put_said.ensures.number c.put_said.ensures.kind c.put_said.ensures.numbers;
      only = calls_tell;
      unchanged = c.feed_log-r.ensures.unchanged;
    }
