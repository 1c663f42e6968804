use Rattle.ttx_author.proofs.Seen.{row_is_seen_lem}
use Rattle.ttx_author.proofs.laws.row_is_seen.Goals as goal

pub returns : goal.returns
returns c = row_is_seen_lem
