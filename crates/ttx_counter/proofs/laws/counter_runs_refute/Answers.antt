use Rattle.ttx_counter.proofs.CounterRunRefutes.{refute}
use Rattle.ttx_counter.proofs.laws.counter_runs_refute.Goals as goal

pub returns : goal.returns
returns c = refute c.scripted_runs.ensures
