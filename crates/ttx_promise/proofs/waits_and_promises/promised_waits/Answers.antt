use Rattle.ttx_promise.proofs.KeptPromises.{distinct_ids}
use Rattle.ttx_promise.proofs.waits_and_promises.promised_waits.Goals as goal

pub waits-requires-clause-distinct : goal.waits-requires-clause-distinct
waits-requires-clause-distinct c =
    distinct_ids c.pages.result.now c.args.service.now.pages c.pages.ensures.value c.pages.ensures.ranges.distinct
