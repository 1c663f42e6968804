use Rattle.ttx_certify.proofs.AuthoredIds.{distinct_ids}
use Rattle.ttx_proof.specs.Verdicts.{IsSpliceVerdict}
use Rattle.ttx_proof.proofs.SixFiles.{pages_same}
use Rattle.ttx_press.proofs.changes.spliced.Goals as goal

pub splice-requires-clause-old_distinct : goal.splice-requires-clause-old_distinct
splice-requires-clause-old_distinct c = distinct_ids c.pages.result.now c.args.on_air.now.service.pages c.pages.ensures.value c.pages.ensures.ranges.distinct

pub splice-requires-clause-new_distinct : goal.splice-requires-clause-new_distinct
splice-requires-clause-new_distinct c = distinct_ids c.pages-2.result.now c.args.next.now.service.pages c.pages-2.ensures.value
    c.pages-2.ensures.ranges.distinct

pub returns : goal.returns
returns c = pages_same IsSpliceVerdict _ _ _ _ _ _ _ _ c.splice.result c.pages.ensures.value c.pages-2.ensures.value c.splice.ensures.exact
