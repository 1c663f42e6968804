use Rattle.ttx_links.proofs.Receptions.{links_are_kept}
use Rattle.ttx_links.proofs.laws.links_are_kept.Goals as goal

pub returns : goal.returns
returns c = links_are_kept c.words_have_numbers.ensures c.words_are_kept.ensures
