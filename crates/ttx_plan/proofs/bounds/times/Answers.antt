use Rattle.std.proofs.Common.{Some, ap, ◌∙◌, sym}
use Rattle.ttx_plan.proofs.ServicePages.{often_there}
use Rattle.ttx_plan.proofs.bounds.times.Goals as goal

pub returns-clause-is : goal.returns-clause-is
returns-clause-is c = often_there c.args.service.now.serial c.args.service.now.pages c.args.index c.from.result
    c.pages-pages.ensures.ranges.pages (c.often.ensures ∙ ap Some (sym c.from.ensures))
