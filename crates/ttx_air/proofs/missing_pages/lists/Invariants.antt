use Rattle.std.proofs.Common.{◌≡◌, drop, map}
use Rattle.ttx_page.specs.Views.{page_of}
use Rattle.ttx_air.specs.LogLines.{lists}
use Rattle.ttx_air.proofs.missing_pages.lists.Given as goal

abbrev pub invariant-loop-page : goal.invariant-loop-page
invariant-loop-page l = lists (map page_of (drop l.page-index l.pages)) l.id ≡ lists (map page_of l.pages) l.id
