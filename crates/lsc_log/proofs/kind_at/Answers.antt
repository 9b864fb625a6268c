-- `lsc_log::kind_at` meets its contract: by the byte. Assumes nothing.
use Rattle.lsc_log.proofs.Laws.{kind_unset, kind_plain, kind_raw}
use Rattle.lsc_log.proofs.kind_at.Goals as goal

pub returns-then-tag-eq-UNSET : goal.returns-then-tag-eq-UNSET
returns-then-tag-eq-UNSET c = kind_unset c.args.bytes.now _ c.byte_at-tag.ensures.value c.if-tag-eq-UNSET.true

pub returns-then-tag-eq-PLAIN : goal.returns-then-tag-eq-PLAIN
returns-then-tag-eq-PLAIN c = kind_plain c.args.bytes.now _ c.byte_at-tag.ensures.value c.if-tag-eq-UNSET.false c.if-tag-eq-PLAIN.true

pub returns : goal.returns
returns c =
    kind_raw c.args.bytes.now _ c.byte_at-tag.ensures.value c.if-tag-eq-UNSET.false c.if-tag-eq-PLAIN.false _ c.word32_at.ensures.value
