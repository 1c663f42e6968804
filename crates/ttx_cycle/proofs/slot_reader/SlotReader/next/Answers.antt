use Rattle.std.proofs.Common.{refl}
use Rattle.ttx_cycle.proofs.slot_reader.SlotReader.next.Goals as goal

pub returns-in-42-clause-goes_on : goal.returns-in-42-clause-goes_on
returns-in-42-clause-goes_on g c = refl
