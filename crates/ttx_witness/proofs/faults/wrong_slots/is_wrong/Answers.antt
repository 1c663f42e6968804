use Rattle.std.proofs.Common.{◌↔◌, IsTrue, not, sym, subst}
use Rattle.ttx_page.specs.Packets.{packet_of}
use Rattle.ttx_page.specs.Steady.{LinksAreRight}
use Rattle.ttx_page.specs.Views.{page_of}
use Rattle.ttx_witness.specs.faults.Comparing.{IsWrong}
use Rattle.ttx_witness.proofs.lemmas.sent.PacketKinds.{not_tested}
use Rattle.ttx_witness.proofs.faults.wrong_slots.is_wrong.Goals as goal

pub returns-in-Links : goal.returns-in-Links
returns-in-Links c =
    let p = page_of c.args.page.now in let slot = c.args.slot.now in
    subst (λ k. IsTrue (not c.are_links_right.result) ↔ IsWrong p k slot) (sym c.in-Links.is)
    (not_tested c.are_links_right.result (LinksAreRight p slot (packet_of slot)) c.are_links_right.ensures)
