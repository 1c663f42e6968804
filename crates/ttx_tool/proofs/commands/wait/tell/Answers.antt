use Rattle.ttx_tool.proofs.ServiceIds.{distinct_ids}
use Rattle.ttx_tool.proofs.commands.wait.tell.Goals as goal

pub report_with-requires-clause-distinct : goal.report_with-requires-clause-distinct
report_with-requires-clause-distinct c = distinct_ids c.pages.result.now c.args.service.now.pages c.pages.ensures.value
    c.pages.ensures.ranges.distinct
