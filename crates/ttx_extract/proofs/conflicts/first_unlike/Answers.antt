use Rattle.std.proofs.Common.{◌≡◌, ◌<◌, pos, [], length, get_or, slice_get, Some, ap, sym, ◌∙◌, subst, arith}
use Rattle.std.specs.Prelude.{option_copied, unsigned_abs}
use Rattle.std.proofs.lemmas.Bool.{false≢true}
use Rattle.ttx_cycle.specs.Cycles.{slots_of, slots_of-IsCycle}
use Rattle.ttx_page.specs.Packets.{packet_of}
use Rattle.ttx_page.specs.Streams.{repeated, IsOwned, IsSure, IsTransmission}
use Rattle.ttx_witness.specs.runs.Repeating.{AreSent}
use Rattle.ttx_extract.specs.Extracts.{Differs}
use Rattle.ttx_extract.proofs.SameLists.{same_value}
use Rattle.ttx_extract.proofs.Slots.{slot_is, first_sent}
use Rattle.ttx_extract.proofs.conflicts.first_unlike.Goals as goal

pub returns-then-differ : goal.returns-then-differ
returns-then-differ c = λ page lines item is.
    let slots = slots_of c.args.cycle.now in
    let cycle = slots_of-IsCycle c.args.cycle.now in
    let size = ap length c.slots-slots.ensures.slots in
    let a = c.slot_of_first-place.result in
    let b = c.args.slot in
    let lt_a : a < length slots = let t = c.if-place-slots.false in omega arith in
    let lt_b : b < length slots = let t = c.if-slot-slots.false in omega arith in
    let sent = subst (AreSent (IsOwned (repeated slots) page item) (IsSure (repeated slots) lines page.mag item) (pos 0)
    (pos (length slots))) (sym is)
    (c.transmissions_are_listed.ensures slots cycle.some cycle.most page lines item).0 in
    let earliest = c.in-Some.earliest.now in
    let here : slice_get c.args.sent.now 0 ≡ Some earliest = sym c.first.ensures.value ∙ ap option_copied c.in-Some.is in
    let first = subst (λ n. IsTransmission (repeated slots) page item (pos n)) (sym c.slot_of_first-place.ensures)
    (first_sent slots page lines item c.args.sent.now sent earliest here) in
    let unlike : Differs (packet_of (get_or slots a [])) (packet_of (get_or slots b [])) =
    subst (λ s. Differs (packet_of (get_or s a [])) (packet_of (get_or s b []))) c.slots-slots.ensures.slots (c.differ.ensures.0 c.if-differ.true) in
    record {
      transmission = earliest;
      is_first = subst (λ ts. slice_get ts 0 ≡ Some earliest) is here;
      slot_is = c.slot_of_first-place.ensures;
      sent = first;
      first_within = lt_a;
      second_within = lt_b;
      differ = subst (λ x. Differs (packet_of x) (packet_of (repeated slots (pos b)))) (sym (slot_is slots a lt_a))
          (subst (λ x. Differs (packet_of (get_or slots a [])) (packet_of x)) (sym (slot_is slots b lt_b)) unlike);
    }

pub returns-else-differ : goal.returns-else-differ
returns-else-differ c = λ page lines item is first unlike.
    let slots = slots_of c.args.cycle.now in
    let size = ap length c.slots-slots.ensures.slots in
    let a = c.slot_of_first-place.result in
    let b = c.args.slot in
    let lt_a : a < length slots = let t = c.if-place-slots.false in omega arith in
    let lt_b : b < length slots = let t = c.if-slot-slots.false in omega arith in
    let earliest = c.in-Some.earliest.now in
    let here : slice_get c.args.sent.now 0 ≡ Some earliest = sym c.first.ensures.value ∙ ap option_copied c.in-Some.is in
    let same : unlike.transmission ≡ earliest =
    same_value unlike.transmission earliest (sym unlike.is_first ∙ ap (λ ts. slice_get ts 0) (sym is) ∙ here) in
    let at : first ≡ a = unlike.slot_is ∙ ap (λ t. unsigned_abs t.slot) same ∙ sym c.slot_of_first-place.ensures in
    let other : Differs (packet_of (get_or slots a [])) (packet_of (get_or slots b [])) =
    subst (λ x. Differs (packet_of x) (packet_of (get_or slots b []))) (ap (λ n. repeated slots (pos n)) at ∙ slot_is slots a lt_a)
    (subst (λ x. Differs (packet_of (repeated slots (pos first))) (packet_of x)) (slot_is slots b lt_b) unlike.differ) in
    let read : Differs (packet_of (get_or c.slots-slots.result.now a [])) (packet_of (get_or c.slots-slots.result.now b [])) =
    subst (λ s. Differs (packet_of (get_or s a [])) (packet_of (get_or s b []))) (sym c.slots-slots.ensures.slots) other in
    false≢true (sym c.if-differ.false ∙ c.differ.ensures.1 read)
