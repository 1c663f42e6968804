use Rattle.ttx_render.proofs.SpaceRows.{IsRow-spaces}
use Rattle.ttx_render.proofs.view.space_codes.Goals as goal

pub returns-clause-row : goal.returns-clause-row
returns-clause-row c = IsRow-spaces
