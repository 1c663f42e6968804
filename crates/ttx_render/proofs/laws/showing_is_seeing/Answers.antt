use Rattle.ttx_render.proofs.Showing.{showing_is_seeing_lem}
use Rattle.ttx_render.proofs.laws.showing_is_seeing.Goals as goal

pub returns : goal.returns
returns c = showing_is_seeing_lem
