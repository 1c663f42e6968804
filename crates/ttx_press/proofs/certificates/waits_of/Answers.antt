use Rattle.ttx_certify.proofs.AuthoredIds.{distinct_ids}
use Rattle.ttx_press.proofs.certificates.waits_of.Goals as goal

pub waits-requires-clause-distinct : goal.waits-requires-clause-distinct
waits-requires-clause-distinct c =
    distinct_ids c.pages.result.now c.args.planned.now.service.pages c.pages.ensures.value c.pages.ensures.ranges.distinct
