use Rattle.std.proofs.Common.{arith, ◌∙◌, ap, sym}
use Rattle.ttx_plan.proofs.ServicePages.{id_there}
use Rattle.ttx_plan.proofs.subpage_turns.id_at.Goals as goal
use Rattle.std.proofs.Common.{Some}

pub returns : goal.returns
returns c =
    id_there c.pages.result.now c.args.service.now.pages c.args.index c.index-pages-index.result c.pages.ensures.value
    (omega (arith, c.requires, c.pages.ensures.count)) c.index-pages-index.is
    ∙ ap Some (sym c.id.ensures)
