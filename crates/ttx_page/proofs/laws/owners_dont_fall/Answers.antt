use Rattle.ttx_page.proofs.Owners.{owners_dont_fall}
use Rattle.ttx_page.proofs.laws.owners_dont_fall.Goals as goal

pub returns : goal.returns
returns c = owners_dont_fall
