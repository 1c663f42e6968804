use Rattle.std.proofs.Common.{refl}
use Rattle.ttx_page.proofs.page.Page.rows.Goals as goal

pub returns : goal.returns
returns c = refl
