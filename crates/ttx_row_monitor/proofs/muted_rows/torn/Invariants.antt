use Rattle.ttx_row_monitor.proofs.TornRows.{IsTornTo}
use Rattle.ttx_row_monitor.proofs.muted_rows.torn.Given as goal

abbrev pub invariant-loop-x : goal.invariant-loop-x
invariant-loop-x l = IsTornTo l.sent l.packet l.x
