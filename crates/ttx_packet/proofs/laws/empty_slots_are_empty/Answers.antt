use Rattle.ttx_packet.proofs.Cases.{kind_when_empty, empty_when_kind}
use Rattle.ttx_packet.proofs.laws.empty_slots_are_empty.Goals as goal

pub returns : goal.returns
returns c = λ slot. (empty_when_kind slot, kind_when_empty slot)
