use Rattle.std.proofs.Common.{◌≡◌, ◌∙◌, [], true, map, get_or, pos, sym, ap, subst}
use Rattle.ttx_cycle.specs.Cycles.{slots_of}
use Rattle.ttx_page.specs.Packets.{packet_of}
use Rattle.ttx_page.specs.Streams.{repeated, heads_page}
use Rattle.ttx_page.specs.Views.{page_of}
use Rattle.ttx_subpages.proofs.HeadersOfNumbers.{header_told, slot_here, no_header}
use Rattle.ttx_subpages.proofs.lacks.lack_at.Goals as goal

pub lack_of-requires-clause-header : goal.lack_of-requires-clause-header
lack_of-requires-clause-header c =
    let v = c.args.sendings.now in
    let packet = packet_of (get_or c.slots.result.now c.args.slot []) in
    let here : packet ≡ packet_of (repeated (slots_of v.cycle.now) (pos c.args.slot)) =
    ap (λ s. packet_of (get_or s c.args.slot [])) c.slots.ensures.slots ∙ ap packet_of (sym (slot_here (slots_of v.cycle.now) c.args.slot c.requires.at)) in
    subst (λ x. heads_page c.id.result x ≡ true) here
    (subst (λ id. heads_page id packet ≡ true) (sym c.id.ensures.value) (header_told c.in-Some.header packet c.in-Some.ensures))

pub returns-in-None : goal.returns-in-None
returns-in-None c =
    let v = c.args.sendings.now in
    let packet = packet_of (get_or c.slots.result.now c.args.slot []) in
    let here : packet ≡ packet_of (repeated (slots_of v.cycle.now) (pos c.args.slot)) =
    ap (λ s. packet_of (get_or s c.args.slot [])) c.slots.ensures.slots ∙ ap packet_of (sym (slot_here (slots_of v.cycle.now) c.args.slot c.requires.at)) in
    no_header (repeated (slots_of v.cycle.now)) (map page_of v.pages.now) v.lines (pos c.args.slot) packet (sym here) c.in-None.ensures
