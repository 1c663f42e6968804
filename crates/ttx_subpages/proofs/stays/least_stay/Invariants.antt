use Rattle.ttx_page.specs.Streams.{repeated}
use Rattle.ttx_subpages.specs.Stays.{StayBelow}
use Rattle.ttx_subpages.proofs.stays.least_stay.Given as goal

abbrev pub invariant-loop-at : goal.invariant-loop-at
invariant-loop-at l = record { below : StayBelow (repeated l.slots) l.selection l.at l.least }
