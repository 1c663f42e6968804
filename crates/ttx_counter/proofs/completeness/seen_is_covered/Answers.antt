use Rattle.ttx_counter.proofs.SeenIsCovered.{seen_is_covered}
use Rattle.ttx_counter.proofs.completeness.seen_is_covered.Goals as goal

pub returns : goal.returns
returns c =
    seen_is_covered (record {
      decide = c.covered_or_starved.ensures;
      counter = c.starved_has_counter.ensures;
      refutes = c.counter_is_unseen.ensures;
      names = c.fullest_names_all.ensures;
    })
