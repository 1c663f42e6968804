use Rattle.std.proofs.Common.{drop}
use Rattle.ttx_counter.proofs.run_slots.row_sent.Goals as goal
use Rattle.ttx_counter.proofs.SentRows.{row_number}

pub returns-then-at-mag-clause-few : goal.returns-then-at-mag-clause-few
returns-then-at-mag-clause-few c = row_number c.rows_are_numbered.ensures c.args.slot.now c.in-Some.at.mag c.in-Some.at.number
    (drop 2 c.args.slot.now) c.in-Some.ensures
