use Rattle.ttx_counter.proofs.SeenIsCovered.{found_is_least_seen}
use Rattle.ttx_counter.proofs.completeness.found_is_least_seen.Goals as goal

pub returns : goal.returns
returns c = found_is_least_seen c.seen_exactly_where_accepted.ensures c.accepted_is_seen.ensures
