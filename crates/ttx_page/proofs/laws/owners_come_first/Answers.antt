use Rattle.ttx_page.proofs.Owners.{owners_come_first}
use Rattle.ttx_page.proofs.laws.owners_come_first.Goals as goal

pub returns : goal.returns
returns c = owners_come_first
