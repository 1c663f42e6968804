use Rattle.ttx_witness.proofs.lemmas.sent.PacketKinds.{header_told}
use Rattle.ttx_witness.proofs.sent.packets.header_in.Goals as goal

pub returns : goal.returns
returns c = header_told c.args.slot.now c.is_slot.ensures c.headers_have_fields.ensures c.headers_are_headers.ensures c.read_header.result
    c.read_header.ensures
