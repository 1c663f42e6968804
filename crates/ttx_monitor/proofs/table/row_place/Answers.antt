use Rattle.std.proofs.Common.{◌-◌, ◌&&◌, ◌==◌, drop, get_or, None, ap, sym, ◌∙◌, arith}
use Rattle.std.proofs.lemmas.Option.{slice_get_within}
use Rattle.ttx_witness.specs.sent.Collected.{is_page}
use Rattle.ttx_counter.specs.Listening.{row_sent}
use Rattle.ttx_counter.specs.Cells.{is_row}
use Rattle.ttx_monitor.specs.Places.{is_owner}
use Rattle.ttx_counter.proofs.SentRows.{row_number}
use Rattle.ttx_monitor.proofs.SlotOwners.{row_under}
use Rattle.ttx_monitor.proofs.table.row_place.Goals as goal

pub row_of-requires-in-Some-row_in : goal.row_of-requires-in-Some-row_in
row_of-requires-in-Some-row_in c = row_number c.rows_are_numbered.ensures c.args.slot.now c.in-Some-row_in.at.mag c.in-Some-row_in.at.number
    (drop 2 c.args.slot.now) c.in-Some-row_in.ensures

pub returns-in-Some-row_in-clause-sent : goal.returns-in-Some-row_in-clause-sent
returns-in-Some-row_in-clause-sent c = λ ids index apart size i id is of_id r.
    let at = c.in-Some-row_in.at in
    let e = c.row_of-in-Some-row_in.ensures.at i r (let h = slice_get_within ids i id is in omega arith) in
    e ∙ ap (λ z. is_page i (get_or c.args.owners.now (z - 1) None) && (at.number == r)) c.from.ensures
    ∙ row_under ids c.args.owners.now apart i id is of_id at.mag at.number (drop 2 c.args.slot.now) at.mag_from at.mag_to r
    ∙ ap (λ p. is_row r (row_sent id p (is_owner i id c.args.owners.now))) (sym c.in-Some-row_in.ensures)
