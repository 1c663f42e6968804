use Rattle.ttx_render.proofs.Printed.{views_are_printed_lem}
use Rattle.ttx_render.proofs.laws.views_are_printed.Goals as goal

pub returns : goal.returns
returns c = views_are_printed_lem
