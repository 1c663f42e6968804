use Rattle.ttx_page.proofs.Owners.{owners_are_unique}
use Rattle.ttx_page.proofs.laws.owners_are_unique.Goals as goal

pub returns : goal.returns
returns c = owners_are_unique
