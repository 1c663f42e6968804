use Rattle.std.proofs.Common.{None, get_or, refl, sym, ap, ◌∙◌, subst}
use Rattle.ttx_packet.specs.Slots.{kind_of}
use Rattle.ttx_page.specs.Packets.{packet_of}
use Rattle.ttx_witness.specs.faults.OtherSubpages.{place, first_of, heads_other, is_other_id}
use Rattle.ttx_witness.specs.sent.IndexedHeaders.{IsHeaderOf, IsIndexed}
use Rattle.ttx_witness.proofs.lemmas.faults.OtherSubpages.{none_other, not_noted}
use Rattle.ttx_witness.proofs.lemmas.sent.OwnersAfterSlot.{packet_is}
use Rattle.ttx_witness.proofs.lemmas.sent.PacketKinds.{holds_none}
use Rattle.ttx_witness.proofs.faults.other_subpages.note_other.Goals as goal

pub returns-in-Some-clause-noted : goal.returns-in-Some-clause-noted
returns-in-Some-clause-noted c = λ ids slot read mag number low high small.
    let table = c.args.subcodes.now in
    let o : IsIndexed ids slot c.in-Some.header = subst (IsHeaderOf ids slot) c.in-Some.is read in
    c.note_id.ensures.noted mag number low high small
    ∙ ap (λ b. first_of (get_or c.args.first.now.items (place mag number) None) b c.args.j)
    (ap (is_other_id table mag number) o.id ∙ ap (heads_other table mag number) (sym (packet_is slot _ o.kind)))

pub returns-in_default-clause-noted : goal.returns-in_default-clause-noted
returns-in_default-clause-noted c = λ ids slot read mag number low high small.
    let none = holds_none slot (kind_of slot) (subst (IsHeaderOf ids slot) c.in_default.is read) refl in
    sym (ap (λ b. first_of (get_or c.args.first.now.items (place mag number) None) b c.args.j)
    (none_other c.args.subcodes.now mag number (packet_of slot) none) ∙ not_noted (get_or c.args.first.now.items (place mag number) None) c.args.j)
