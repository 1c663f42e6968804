use Rattle.std.proofs.Common.{[], w32, refl, ◌∙◌, subst, arith}
use Rattle.std.proofs.lemmas.Int.{to_z-of_z}
use Rattle.ttx_packet.specs.Slots.{kind_of}
use Rattle.ttx_witness.specs.sent.Collected.{owner_for}
use Rattle.ttx_witness.specs.sent.IndexedHeaders.{IsHeaderOf, IsIndexed}
use Rattle.ttx_witness.proofs.lemmas.sent.OneSlot.{row_slot_sent, links_slot_sent, head_slot_sent, silent, quiet, headless}
use Rattle.ttx_witness.proofs.sent.one_slot.sent_in_slot.Goals as goal

pub sent_under-requires : goal.sent_under-requires
sent_under-requires c = let n = c.rows_are_numbered.ensures c.args.slot.now c.in-Row.at.mag c.in-Row.at.number c.in-Row.ensures.0 in omega arith

pub returns-in-Some-clause-sent : goal.returns-in-Some-clause-sent
returns-in-Some-clause-sent c = λ ids read apart i id item at is.
    let h = c.in-Some.header in
    let o : IsIndexed ids c.args.slot.now h = subst (IsHeaderOf ids c.args.slot.now) c.in-Some.is read in
    c.sent_head.ensures.sent i item
    ∙ head_slot_sent ids c.args.lines c.args.j (owner_for c.args.owners.now i id) c.args.slot.now _ h.id h.page
    o.kind o.id o.finds _ (to_z-of_z w32 c.args.j c.ranges.j) i id at item is

pub returns-in-Row-clause-sent : goal.returns-in-Row-clause-sent
returns-in-Row-clause-sent c = λ ids read apart i id item at is.
    c.sent_under.ensures.sent i item
    ∙ row_slot_sent ids c.args.lines c.args.j c.args.owners.now apart c.in-Row.at.mag c.in-Row.at.mag_from c.in-Row.at.mag_to i id at
    c.args.slot.now c.in-Row.at.number
    (c.rows_are_numbered.ensures c.args.slot.now c.in-Row.at.mag c.in-Row.at.number c.in-Row.ensures.0) c.in-Row.ensures.0
    _ _ _ c.from.ensures refl (to_z-of_z w32 c.args.j c.ranges.j) item is

pub returns-in-Links-clause-sent : goal.returns-in-Links-clause-sent
returns-in-Links-clause-sent c = λ ids read apart i id item at is.
    c.sent_under-in-Links.ensures.sent i item
    ∙ links_slot_sent ids c.args.lines c.args.j c.args.owners.now apart c.in-Links.at.mag c.in-Links.at.mag_from c.in-Links.at.mag_to i
    id at c.args.slot.now c.in-Links.ensures.0
    _ _ c.from-in-Links.ensures (to_z-of_z w32 c.args.j c.ranges.j) item is

pub returns-in_default-slot_of : goal.returns-in_default-slot_of
returns-in_default-slot_of c =
    let d = c.in_default-slot_of in
    let slot = c.args.slot.now in
    record {
      number = tt;
      sent = λ ids read apart i id item at is.
          silent slot (kind_of slot) refl
          (quiet c.slot_of.result (kind_of slot) slot c.slot_of.ensures
          (headless c.slot_of.result (kind_of slot) slot c.slot_of.ensures (subst (IsHeaderOf ids slot) c.in_default.is read)) d.not-Row d.not-Links)
          [] id c.args.lines item c.args.j (owner_for c.args.owners.now i id);
    }
