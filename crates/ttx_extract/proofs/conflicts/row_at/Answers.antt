use Rattle.std.proofs.Common.{◌≡◌, ◌<◌, pos, [], length, get_or, drop, sym, ap, ◌∙◌, subst, arith}
use Rattle.ttx_cycle.specs.Cycles.{slots_of}
use Rattle.ttx_page.specs.Packets.{packet_of, Row}
use Rattle.ttx_page.specs.Streams.{repeated}
use Rattle.ttx_witness.specs.faults.Comparing.{HoldsNoRow}
use Rattle.ttx_extract.proofs.Slots.{slot_is}
use Rattle.ttx_extract.proofs.Packets.{row_is, row_none}
use Rattle.ttx_extract.proofs.conflicts.row_at.Goals as goal

pub returns-in-Some : goal.returns-in-Some
returns-in-Some c =
    let slots = slots_of c.args.cycle.now in
    let at = c.in-Some.at in
    let i = c.args.slot in
    let same = c.slots-slots.ensures.slots in
    let lt : i < length slots = let l = ap length same in let t = c.if-slot-slots.false in omega arith in
    let here : packet_of (get_or slots i []) ≡ Row at.mag at.number (drop 2 (get_or slots i [])) =
    subst (λ s. packet_of (get_or s i []) ≡ Row at.mag at.number (drop 2 (get_or s i []))) same c.in-Some.ensures in
    let packet = packet_of (repeated (slots_of c.args.cycle.now) (pos i)) in
    let is : packet ≡ Row at.mag at.number (drop 2 (get_or slots i [])) = ap packet_of (slot_is slots i lt) ∙ here in
    record {
      row = row_is c.new.result _ at.number c.new.ensures packet at.mag (drop 2 (get_or slots i [])) is;
      none = row_none c.new.result at.number (i < length slots) c.new.ensures packet at.mag (drop 2 (get_or slots i [])) is;
    }

pub returns-in-None-clause-none : goal.returns-in-None-clause-none
returns-in-None-clause-none c = λ lt mag number text is from to.
    let slots = slots_of c.args.cycle.now in
    let i = c.args.slot in
    subst HoldsNoRow (ap (λ s. packet_of (get_or s i [])) c.slots-slots.ensures.slots ∙ sym (ap packet_of (slot_is slots i lt)) ∙ is) c.in-None.ensures
