use Rattle.ttx_row_monitor.proofs.ReceivedFeeds.{shown}
use Rattle.ttx_row_monitor.proofs.laws.within_is_shown_by_rows.Goals as goal

pub returns : goal.returns
returns c = shown c.accepted_is_shown_by_rows.ensures
