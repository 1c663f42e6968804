use Rattle.ttx_cycle.proofs.counted.CountedRead.read.Goals as goal

pub returns-then-is_err-clause-calls : goal.returns-then-is_err-clause-calls
returns-then-is_err-clause-calls g c = c.saturating_add-self.ensures

pub returns-else-is_err-clause-calls : goal.returns-else-is_err-clause-calls
returns-else-is_err-clause-calls g c = c.saturating_add-self.ensures
