use Rattle.ttx_counter.proofs.PlainRuns.{counter_runs}
use Rattle.ttx_counter.proofs.laws.plain_runs_are_counter_runs.Goals as goal

pub returns : goal.returns
returns c = counter_runs c.exact_is_received.ensures c.each_slot_turns.ensures
