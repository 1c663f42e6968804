use Rattle.ttx_witness.proofs.lemmas.sent.PacketKinds.{id_told}
use Rattle.ttx_witness.proofs.sent.packets.id_in.Goals as goal

pub returns : goal.returns
returns c = id_told c.args.slot.now c.is_slot.ensures c.headers_have_fields.ensures c.headers_are_headers.ensures c.read_id.result c.read_id.ensures.value
