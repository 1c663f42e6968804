use Rattle.std.proofs.Common.{refl}
use Rattle.ttx_source.specs.Keys.{six_of, links_in}
use Rattle.ttx_source.proofs.links.no_links.Goals as goal

pub returns : goal.returns
unfolding six_of links_in
returns c = refl
