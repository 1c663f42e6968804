use Rattle.std.proofs.Common.{◌∙◌, ◌-◌, [], map, drop, slice_index_or, ap, sym}
use Rattle.ttx_code.specs.Words.{odd_byte}
use Rattle.ttx_page.specs.Views.{page_of}
use Rattle.ttx_witness.proofs.lemmas.sent.PacketKinds.{row_right}
use Rattle.ttx_witness.proofs.faults.wrong_slots.is_row_right.Goals as goal

pub returns-in-Some : goal.returns-in-Some
returns-in-Some c =
    let w = row_right (page_of c.args.page.now) c.args.row c.in-Some.field-0.mag c.in-Some.field-0.number
    (drop 2 c.args.slot.now) _ c.in-Some.ensures in
    let e = ap (λ n. map odd_byte (slice_index_or c.rows.result.now (n - 1) [])) (c.from.ensures ∙ c.number.ensures.value)
    ∙ ap (λ rows. map odd_byte (slice_index_or rows (c.args.row - 1) [])) c.rows.ensures in
    ((λ t. w.1 (sym c.text_in.ensures ∙ c.is_row_sent.ensures.0 t ∙ e)), (λ h. c.is_row_sent.ensures.1 (c.text_in.ensures ∙ w.0 h ∙ sym e)))
