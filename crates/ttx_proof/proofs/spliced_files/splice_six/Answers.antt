use Rattle.ttx_proof.specs.Verdicts.{IsSpliceVerdict, SpliceMeans}
use Rattle.ttx_certify.proofs.AuthoredIds.{distinct_ids}
use Rattle.ttx_proof.proofs.SixFiles.{pages_same}
use Rattle.ttx_proof.proofs.spliced_files.splice_six.Goals as goal

pub splice-requires : goal.splice-requires
splice-requires c = record {
  old_distinct = distinct_ids c.pages.result.now c.args.six.now.services.old.pages c.pages.ensures.value c.pages.ensures.ranges.distinct;
  new_distinct = distinct_ids c.pages-2.result.now c.args.six.now.services.new.pages c.pages-2.ensures.value c.pages-2.ensures.ranges.distinct;
}

pub returns-clause-exact : goal.returns-clause-exact
returns-clause-exact c = pages_same IsSpliceVerdict _ _ _ _ _ _ _ _ c.splice.result c.pages.ensures.value c.pages-2.ensures.value
    c.splice.ensures.exact

pub returns-clause-seen : goal.returns-clause-seen
returns-clause-seen c = pages_same SpliceMeans _ _ _ _ _ _ _ _ c.splice.result c.pages.ensures.value c.pages-2.ensures.value c.splice.ensures.seen
