use Rattle.ttx_counter.proofs.SeenIsCovered.{seen_exactly_where_accepted}
use Rattle.ttx_counter.proofs.completeness.seen_exactly_where_accepted.Goals as goal

pub returns : goal.returns
returns c =
    seen_exactly_where_accepted (record {
      decide = c.covered_or_starved.ensures;
      counter = c.starved_has_counter.ensures;
      refutes = c.counter_is_unseen.ensures;
      names = c.fullest_names_all.ensures;
    }) c.accepted_is_seen.ensures
