use Rattle.ttx_row_monitor.proofs.ReceivedFeeds.{seen}
use Rattle.ttx_row_monitor.proofs.laws.within_is_seen_by_rows.Goals as goal

pub returns : goal.returns
returns c = seen c.accepted_is_seen_by_rows.ensures
