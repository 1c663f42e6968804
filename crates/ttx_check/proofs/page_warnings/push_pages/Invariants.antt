use Rattle.std.proofs.Common.{◌≡◌, ◌++◌, drop, map}
use Rattle.ttx_page.specs.Views.{page_of}
use Rattle.ttx_tallies.specs.Tallies.{times_in}
use Rattle.ttx_check.specs.PageWarnings.{pages_from}
use Rattle.ttx_check.proofs.page_warnings.push_pages.Given as goal

abbrev pub invariant-loop-place : goal.invariant-loop-place
invariant-loop-place l = l.found.items ++ pages_from l.entries (times_in l.order.subpages) (times_in l.order.copies) l.place
    (map page_of (drop l.place l.pages))
    ≡ l.initial.found.items ++ pages_from l.entries (times_in l.order.subpages) (times_in l.order.copies) 0 (map page_of l.pages)
