use Rattle.ttx_render.proofs.ViewRows.{contents_decide_lem}
use Rattle.ttx_render.proofs.laws.contents_decide.Goals as goal

pub returns : goal.returns
returns c = contents_decide_lem
