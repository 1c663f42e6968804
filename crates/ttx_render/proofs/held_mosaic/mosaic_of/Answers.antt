use Rattle.std.proofs.Common.{refl}
use Rattle.ttx_render.proofs.held_mosaic.mosaic_of.Goals as goal

pub returns : goal.returns
returns c = refl
