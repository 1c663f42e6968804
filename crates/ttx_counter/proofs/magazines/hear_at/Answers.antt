use Rattle.std.proofs.Common.{◌≡◌, ◌∙◌, [], slice_index_or, sym, ap}
use Rattle.ttx_page.specs.Packets.{packet_of}
use Rattle.ttx_page.specs.Pages.{selected_mag}
use Rattle.ttx_page.specs.Receivers.{older}
use Rattle.ttx_cycle.specs.Cycles.{slots_of}
use Rattle.ttx_receiver.specs.Tuning.{tuned_at}
use Rattle.ttx_counter.specs.Magazines.{magazine_of}
use Rattle.ttx_counter.proofs.OtherMagazineSlots.{as_empty}
use Rattle.ttx_counter.proofs.magazines.hear_at.Goals as goal

pub returns-else-magazine_at-selected-clause-value : goal.returns-else-magazine_at-selected-clause-value
returns-else-magazine_at-selected-clause-value c =
    let r = c.args.receiver.now in
    let slot = slice_index_or (slots_of c.args.sorted.now.cycle.now) c.args.at [] in
    let foreign : magazine_of slot ≡ selected_mag r.selection → ⊥ =
    λ e. c.if-magazine_at-selected.false (c.magazine_at.ensures ∙ e ∙ sym (c.selected.ensures ∙ ap selected_mag c.selection.ensures)) in
    c.step-else-magazine_at-selected.ensures.value
    ∙ ap (tuned_at r.selection r.lines) (as_empty r.lines r.selection (older r.memory) (packet_of slot) foreign)
