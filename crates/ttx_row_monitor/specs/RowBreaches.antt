-- Breaches of the rule by rows.
--
--   row_breach              a breach of the muted feed, as one of the feed
use Rattle.ttx_monitor.specs.declared.breach.Breach.{Breach}
use Rattle.ttx_monitor.specs.declared.breach.Breach.TheVariants.{Repeated}
use Rattle.ttx_row_monitor.specs.declared.breach.RowBreach.{RowBreach}
use Rattle.ttx_row_monitor.specs.declared.breach.RowBreach.TheVariants.{Slot, Row}

abbrev pub row_breach : Breach → RowBreach
row_breach (Repeated t) = Row t.page t.row
row_breach breach = Slot breach
