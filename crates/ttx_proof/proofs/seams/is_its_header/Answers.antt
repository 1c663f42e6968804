use Rattle.std.proofs.Common.{◌<◌, negsuc, length, sym, ap, ◌∙◌, subst}
use Rattle.ttx_page.specs.Packets.{packet_of}
use Rattle.ttx_page.specs.Streams.{repeated, heads_page}
use Rattle.ttx_proof.proofs.LatestHeaderBefore.{back_is}
use Rattle.ttx_proof.proofs.seams.is_its_header.Goals as goal

pub returns : goal.returns
returns c =
    let cycle = c.slots-slots.result.now in
    let e = c.slots-slots.ensures.slots in
    let lt = subst (λ s. c.args.back < length s) (sym e) c.requires in
    c.heads_page.ensures ∙ ap (λ x. heads_page c.args.page (packet_of x)) (sym (back_is cycle c.args.page.mag c.args.back lt))
    ∙ ap (λ s. heads_page c.args.page (packet_of (repeated s (negsuc c.args.back)))) e
