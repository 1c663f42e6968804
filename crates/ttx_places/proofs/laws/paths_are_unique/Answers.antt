use Rattle.ttx_places.proofs.PartsOfPaths as parts
use Rattle.ttx_places.proofs.laws.paths_are_unique.Goals as goal

pub returns : goal.returns
returns c = parts.paths_are_unique
