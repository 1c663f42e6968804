use Rattle.std.proofs.Common.{◌≡◌, ◌+◌, ◌≤◌, drop, map}
use Rattle.ttx_page.specs.Views.{page_of}
use Rattle.ttx_air.specs.LogLines.{lacking}
use Rattle.ttx_air.proofs.missing_pages.lacking.Given as goal

abbrev pub invariant-loop-page : goal.invariant-loop-page
invariant-loop-page l = record {
  few : l.count ≤ l.page-index;
  is : lacking (map page_of l.others) (map page_of (drop l.page-index l.pages)) + l.count ≡ lacking (map page_of l.others) (map page_of l.pages);
}
