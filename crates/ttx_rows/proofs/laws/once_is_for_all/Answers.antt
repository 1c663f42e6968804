use Rattle.ttx_rows.proofs.AtRepeatOne as L
use Rattle.ttx_rows.proofs.laws.once_is_for_all.Goals as goal

pub returns : goal.returns
returns c = record {
  rule = L.once_is_for_all c.sent_rows_are_odd.ensures;
  seen = L.seen_once_by_all c.sent_rows_are_odd.ensures c.accepted_is_seen_by_rows.ensures;
  shown = L.shown_once_by_all c.sent_rows_are_odd.ensures c.accepted_is_shown_by_rows.ensures;
}
