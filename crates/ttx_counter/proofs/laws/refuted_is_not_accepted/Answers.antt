use Rattle.ttx_counter.proofs.CounterRunRefutes.{not_accepted}
use Rattle.ttx_counter.proofs.laws.refuted_is_not_accepted.Goals as goal

pub returns : goal.returns
returns c = not_accepted c.counter_runs_refute.ensures c.accepted_is_seen.ensures
