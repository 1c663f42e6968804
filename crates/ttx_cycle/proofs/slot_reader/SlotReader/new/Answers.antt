use Rattle.std.proofs.Common.{refl}
use Rattle.ttx_cycle.proofs.slot_reader.SlotReader.new.Goals as goal

pub returns-clause-over : goal.returns-clause-over
returns-clause-over c = refl
