use Rattle.ttx_row_monitor.proofs.ReceivedFeeds.{received}
use Rattle.ttx_row_monitor.proofs.laws.within_is_received_by_rows.Goals as goal

pub returns : goal.returns
returns c = received
