use Rattle.std.proofs.Common.{◌≡◌, ◌≤◌, map}
use Rattle.ttx_page.specs.Views.{page_of}
use Rattle.ttx_source.specs.PromiseViews.{promise_view}
use Rattle.ttx_carousel.specs.Layout.{turns_among}
use Rattle.ttx_carousel.proofs.layout.turns.Given as goal

abbrev pub invariant-loop-index : goal.invariant-loop-index
invariant-loop-index l = record {
  value : l.turns ≡ turns_among (map page_of l.pages) (map promise_view l.stays) l.index;
  some : 1 ≤ l.turns;
  few : l.turns ≤ 2001;
}
