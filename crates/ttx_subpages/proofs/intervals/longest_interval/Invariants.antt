use Rattle.std.proofs.Common.{map}
use Rattle.ttx_cycle.specs.Cycles.{slots_of}
use Rattle.ttx_page.specs.Streams.{repeated}
use Rattle.ttx_page.specs.Views.{page_of}
use Rattle.ttx_subpages.specs.Intervals.{LongestBelow}
use Rattle.ttx_subpages.proofs.intervals.longest_interval.Given as goal

abbrev pub invariant-loop-index : goal.invariant-loop-index
invariant-loop-index l = record { below : LongestBelow (repeated (slots_of l.cycle)) (map page_of l.pages) l.index l.mag l.number l.most }
