use Rattle.std.proofs.Common.{refl}
use Rattle.ttx_links.proofs.sets.Links.new.Goals as goal

pub returns : goal.returns
returns c = refl
