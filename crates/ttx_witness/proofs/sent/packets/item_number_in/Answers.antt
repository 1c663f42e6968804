use Rattle.std.proofs.Common.{Some, refl, sym, ap, subst, arith}
use Rattle.std.proofs.lemmas.Bool.{both_ways}
use Rattle.ttx_packet.specs.Slots.{IsHeader, IsRow, IsLinks, kind_of}
use Rattle.ttx_page.specs.Packets.{packet_of}
use Rattle.ttx_witness.proofs.lemmas.sent.OneSlot.{quiet}
use Rattle.ttx_witness.proofs.lemmas.sent.OwnersAfterSlot.{packet_is}
use Rattle.ttx_witness.proofs.lemmas.sent.NumbersSent.{Numbers, number_told, silent_number}
use Rattle.ttx_witness.proofs.sent.packets.item_number_in.Goals as goal

pub returns-in-Header-clause-number : goal.returns-in-Header-clause-number
returns-in-Header-clause-number c = λ page item mine e.
    ap Some (number_told (packet_of c.args.slot.now) 0
    (subst (λ x. Numbers x 0) (sym (packet_is c.args.slot.now (IsHeader c.in-Header.field-0.mag) c.in-Header.ensures.0)) refl) page item mine e)

pub returns-in-Row : goal.returns-in-Row
returns-in-Row c = record {
  range = let h = c.rows_are_numbered.ensures c.args.slot.now c.in-Row.at.mag c.in-Row.at.number c.in-Row.ensures.0 in omega arith;
  number = λ page item mine e. ap Some (number_told (packet_of c.args.slot.now) c.in-Row.at.number
      (subst (λ x. Numbers x c.in-Row.at.number) (sym (packet_is c.args.slot.now (IsRow c.in-Row.at.mag c.in-Row.at.number) c.in-Row.ensures.0)) refl)
      page item mine e);
}

pub returns-in-Links-clause-number : goal.returns-in-Links-clause-number
returns-in-Links-clause-number c = λ page item mine e.
    ap Some (number_told (packet_of c.args.slot.now) 25
    (subst (λ x. Numbers x 25) (sym (packet_is c.args.slot.now (IsLinks c.in-Links.field-0.mag) c.in-Links.ensures.0)) refl) page item mine e)

pub returns-in_default : goal.returns-in_default
returns-in_default c =
    let d = c.in_default in
    let still = quiet c.slot_of.result (kind_of c.args.slot.now) c.args.slot.now c.slot_of.ensures d.not-Header d.not-Row d.not-Links in
    record {
      range = tt;
      number = λ page item mine e. absurd (both_ways _ (silent_number c.args.slot.now (kind_of c.args.slot.now) refl still page item mine) e);
    }
