use Rattle.ttx_cycle.proofs.counted.CountedWrite.write.Goals as goal

pub returns-then-is_fault-clause-calls : goal.returns-then-is_fault-clause-calls
returns-then-is_fault-clause-calls g c = c.saturating_add-self.ensures

pub returns-else-is_fault-clause-calls : goal.returns-else-is_fault-clause-calls
returns-else-is_fault-clause-calls g c = c.saturating_add-self.ensures
