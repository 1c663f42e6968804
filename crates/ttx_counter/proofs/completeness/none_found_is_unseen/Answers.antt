use Rattle.ttx_counter.proofs.SeenIsCovered.{none_found_is_unseen}
use Rattle.ttx_counter.proofs.completeness.none_found_is_unseen.Goals as goal

pub returns : goal.returns
returns c = none_found_is_unseen c.seen_exactly_where_accepted.ensures
