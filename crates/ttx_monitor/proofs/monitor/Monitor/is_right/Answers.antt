use Rattle.std.proofs.Common.{◌≡◌, get_or, None, ap, ◌∙◌, subst}
use Rattle.ttx_packet.specs.Receptions.{MayBeReceivedAs}
use Rattle.ttx_monitor.specs.Places.{is_at}
use Rattle.ttx_monitor.specs.Totals.{wrong_in, bits_in}
use Rattle.ttx_monitor.proofs.DueSlots.{due_place, due_slot, text_below}
use Rattle.ttx_monitor.proofs.monitor.Monitor.is_right.Goals as goal

pub returns : goal.returns
returns c = λ w feed st h.
    let m = c.args.self.now in
    let slot = c.args.slot.now in
    let place = due_place m w feed st c.place_at-place.result (c.place_at-place.ensures ∙ ap (λ l. get_or l m.at None) c.as_slice.ensures.value) in
    let sent = due_slot m w feed st c.slot_at.result.now c.slot_at.ensures.is in
    let right = c.is_right.ensures h in
    record {
      may = subst (λ s. MayBeReceivedAs s slot) sent right.may;
      wrong = subst (λ s. wrong_in s slot ≡ 0) sent right.wrong;
      bits = subst (λ s. bits_in s slot ≡ 0) sent right.bits;
      texts = λ i r x sends text. subst (λ s. get_or slot x 0 ≡ get_or s x 0) sent
          (right.same x (text_below c.place_at-place.result c.text_end.result c.text_end.ensures i r x
          (ap (is_at i r) place ∙ sends) text));
    }
