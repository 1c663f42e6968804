use Rattle.ttx_author.proofs.Seen.{head_is_seen_lem}
use Rattle.ttx_author.proofs.laws.head_is_seen.Goals as goal

pub returns : goal.returns
returns c = head_is_seen_lem
