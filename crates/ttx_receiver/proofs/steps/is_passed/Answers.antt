use Rattle.std.proofs.Common.{◌≡◌, ◌∙◌, ◌&&◌, slice_index, false, sym, ap, refl}
use Rattle.std.proofs.lemmas.Bool.{not-true}
use Rattle.ttx_code.specs.Words.{reading}
use Rattle.ttx_page.specs.Pages.{selected_mag}
use Rattle.ttx_receiver.specs.Reading.{names_magazine}
use Rattle.ttx_receiver.proofs.PassedPackets.{passed_slot}
use Rattle.ttx_receiver.proofs.steps.is_passed.Goals as goal
use Rattle.ttx_receiver.proofs.steps.is_passed.Goals.{then-storing, else-storing}

pub returns-after-storing : goal.returns-after-storing
returns-after-storing c some class lines choice m same =
    let own = names_magazine (selected_mag c.args.selection.now) (reading (slice_index c.args.slot.now 0)) in
    let none = elim c.if-storing.branch as (λ _. (c.args.storing && own) ≡ false) [
      | then-storing w ↦
          let named = w.is_of.ensures ∙ ap (λ mag. names_magazine mag (reading (slice_index c.args.slot.now 0))) w.magazine_of.ensures in
          rw w.if-storing.true (sym named ∙ sym w.result-is ∙ not-true _ some)
      | else-storing w ↦ rw w.if-storing.false refl
    ] in
    passed_slot class lines c.args.selection.now choice m c.args.slot.now (sym c.is_packet_0.ensures ∙ c.if-not-is_packet_0.true) (rw same none)
