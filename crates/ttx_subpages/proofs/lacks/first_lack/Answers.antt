use Rattle.ttx_certify.proofs.AuthoredIds.{distinct_ids}
use Rattle.ttx_subpages.proofs.lacks.first_lack.Goals as goal

pub lack_in-requires : goal.lack_in-requires
lack_in-requires c = record {
  distinct = distinct_ids c.pages.result.now c.args.service.now.pages c.pages.ensures.value c.pages.ensures.ranges.distinct;
}
