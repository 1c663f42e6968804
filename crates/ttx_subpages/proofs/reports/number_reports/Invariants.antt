use Rattle.std.proofs.Common.{map}
use Rattle.ttx_cycle.specs.Cycles.{slots_of}
use Rattle.ttx_page.specs.Streams.{repeated}
use Rattle.ttx_page.specs.Views.{page_of}
use Rattle.ttx_subpages.specs.NumberReports.{AreReportsBelow}
use Rattle.ttx_subpages.proofs.reports.number_reports.Given as goal

abbrev pub invariant-loop-index : goal.invariant-loop-index
invariant-loop-index l = record { below : AreReportsBelow (repeated (slots_of l.cycle)) (map page_of l.pages) l.index l.reports.items }
