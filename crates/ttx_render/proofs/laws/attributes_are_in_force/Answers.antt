use Rattle.ttx_render.proofs.InForce.{attributes_are_in_force_lem}
use Rattle.ttx_render.proofs.laws.attributes_are_in_force.Goals as goal

pub returns : goal.returns
returns c = attributes_are_in_force_lem
