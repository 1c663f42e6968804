use Rattle.ttx_page.specs.Streams.{repeated}
use Rattle.ttx_subpages.specs.Stays.{IntervalBelow}
use Rattle.ttx_subpages.proofs.stays.greatest_interval.Given as goal

abbrev pub invariant-loop-at : goal.invariant-loop-at
invariant-loop-at l = record { below : IntervalBelow (repeated l.slots) l.selection l.at l.most }
