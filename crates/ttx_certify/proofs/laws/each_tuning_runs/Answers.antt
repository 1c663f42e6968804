use Rattle.ttx_certify.proofs.AcceptedIsSeen as L
use Rattle.ttx_certify.proofs.laws.each_tuning_runs.Goals as goal

pub returns : goal.returns
returns c = L.each_tuning_runs c.each_slot_turns.ensures c.each_list_runs.ensures c.exact_is_received.ensures
