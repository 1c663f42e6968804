use Rattle.ttx_cycle.proofs.cycles.Cycle.slots.Goals as goal

pub returns-clause-slots : goal.returns-clause-slots
returns-clause-slots c = c.as_slice.ensures.value
