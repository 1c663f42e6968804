use Rattle.std.proofs.Common.{map}
use Rattle.ttx_cycle.specs.Cycles.{slots_of}
use Rattle.ttx_page.specs.Views.{page_of}
use Rattle.ttx_subpages.proofs.HeadersOfNumbers.{WholeBelow}
use Rattle.ttx_subpages.proofs.lacks.lack_among.Given as goal

abbrev pub invariant-loop-slot : goal.invariant-loop-slot
invariant-loop-slot l = record { whole : WholeBelow (slots_of l.sendings.cycle.now) (map page_of l.sendings.pages.now) l.sendings.lines l.slot }
