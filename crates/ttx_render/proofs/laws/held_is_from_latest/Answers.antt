use Rattle.ttx_render.proofs.HeldMosaics.{held_is_from_latest_lem}
use Rattle.ttx_render.proofs.laws.held_is_from_latest.Goals as goal

pub returns : goal.returns
returns c = held_is_from_latest_lem
