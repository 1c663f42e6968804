use Rattle.std.proofs.Common.{◌≤◌, length}
use Rattle.ttx_book.specs.Placing.{IsPlaceIndex}
use Rattle.ttx_book.proofs.packet_index.index_of.Given as goal

abbrev pub invariant-loop-at : goal.invariant-loop-at
invariant-loop-at l = record { index : IsPlaceIndex l.pages.items l.at l.first l.next.items; within : l.at ≤ length l.pages.items }

abbrev pub decreases-loop-at : goal.decreases-loop-at
decreases-loop-at l = l.at
