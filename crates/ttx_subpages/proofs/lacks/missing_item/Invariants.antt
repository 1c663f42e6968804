use Rattle.std.proofs.Common.{◌≡◌, Some, map, pos, slice_get}
use Rattle.ttx_cycle.specs.Cycles.{slots_of}
use Rattle.ttx_page.specs.Pages.{Page}
use Rattle.ttx_page.specs.Streams.{repeated}
use Rattle.ttx_page.specs.Views.{page_of}
use Rattle.ttx_subpages.proofs.ComingItems.{ComeBelow}
use Rattle.ttx_subpages.proofs.lacks.missing_item.Given as goal

abbrev pub invariant-loop-number : goal.invariant-loop-number
invariant-loop-number l = record {
  come : (p : Page) → slice_get (map page_of l.sendings.pages.now) l.index ≡ Some p →
      ComeBelow (repeated (slots_of l.sendings.cycle.now)) p l.sendings.lines (pos l.at) l.number;
}
