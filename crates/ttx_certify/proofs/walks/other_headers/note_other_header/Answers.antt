use Rattle.std.proofs.Common.{None, get_or, ap, ◌∙◌}
use Rattle.ttx_page.specs.Packets.{packet_of}
use Rattle.ttx_witness.specs.faults.OtherSubpages.{place, first_of, heads_other}
use Rattle.ttx_certify.proofs.walks.other_headers.note_other_header.Goals as goal

pub returns-clause-noted : goal.returns-clause-noted
returns-clause-noted c = λ ids slot read mag number low high small.
    c.note_other.ensures.noted ids slot read mag number low high small
    ∙ ap (λ table. first_of (get_or c.args.others.now.first.items (place mag number) None) (heads_other table mag number (packet_of slot)) c.args.j)
    c.deref.ensures.value
