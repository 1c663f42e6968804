use Rattle.std.proofs.Common.{◌≡◌, ◌+◌, suc, [], get_or, sym, ap, ◌∙◌, arith}
use Rattle.ttx_cycle.specs.Cycles.{slots_of}
use Rattle.ttx_page.specs.Packets.{packet_of}
use Rattle.ttx_extract.specs.NamedPages.{with_name, named_after}
use Rattle.ttx_extract.proofs.NamedIds.{none_named, named_more}
use Rattle.ttx_extract.proofs.page_names.named_ids.Goals as goal

pub loop-j-init : goal.loop-j-init
loop-j-init c = c.new-ids.ensures.empty ∙ sym (none_named (slots_of c.args.cycle.now))

pub loop-j-preserved : goal.loop-j-preserved
loop-j-preserved c =
    let slots = slots_of c.args.cycle.now in
    let j = c.loop-j.j in
    let slot = get_or slots j [] in
    let here = ap (λ s. get_or s j []) c.slots-slots.ensures.slots in
    let one : suc j ≡ j + 1 = omega arith in
    c.in_ok-note_slot.ensures ∙ ap (λ s. with_name c.loop-j.ids.keys (packet_of s)) here
    ∙ ap (λ ids. with_name ids (packet_of slot)) c.loop-j.invariant
    ∙ sym (named_more slots j) ∙ ap (named_after slots) one
