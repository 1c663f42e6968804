use Rattle.std.proofs.Common.{◌∙◌, ap}
use Rattle.ttx_header.specs.Control.{c11}
use Rattle.ttx_witness.proofs.lemmas.sent.OwnersAfterSlot.{no_header}
use Rattle.ttx_witness.proofs.sent.indexed_headers.indexed_header.Goals as goal

pub returns-in-Some : goal.returns-in-Some
returns-in-Some c = λ ids index.
    let h = c.in-Some.ensures.value in
    let kind = c.headers_are_headers.ensures c.args.slot.now c.is_slot.ensures h.0 in
    record {
      kind = kind;
      is = (c.headers_have_fields.ensures c.args.slot.now _ c.is_slot.ensures kind).id;
      id = ap (λ x. x.0) h.1;
      serial = c.is_serial.ensures ∙ ap (λ x. c11 x.1.0) h.1;
      finds = c.place_of.ensures ids index;
    }

pub returns-in-None : goal.returns-in-None
returns-in-None c = λ ids index.
    no_header c.args.slot.now (λ mag e. c.in-None.ensures.value (c.headers_have_fields.ensures c.args.slot.now mag c.is_slot.ensures e).header)
