use Rattle.ttx_playout.proofs.SeenOnAir as L
use Rattle.ttx_playout.proofs.laws.each_schedule_runs.Goals as goal

pub returns : goal.returns
returns c = L.each_schedule_runs c.each_slot_turns.ensures c.each_list_runs.ensures c.exact_is_received.ensures
