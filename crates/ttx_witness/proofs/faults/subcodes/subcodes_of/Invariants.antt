use Rattle.std.proofs.Common.{◌≡◌, length, map}
use Rattle.ttx_page.specs.Views.{page_of}
use Rattle.ttx_witness.specs.faults.OtherSubpages.{AreAllSubcodes}
use Rattle.ttx_witness.proofs.faults.subcodes.subcodes_of.Given as goal

abbrev pub invariant-loop-i : goal.invariant-loop-i
invariant-loop-i l = record { size : length l.table.items ≡ 2048; subcodes : AreAllSubcodes (map page_of l.pages) l.i l.table.items }
