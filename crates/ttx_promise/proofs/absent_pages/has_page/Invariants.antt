use Rattle.std.proofs.Common.{◌≡◌, drop}
use Rattle.std.specs.List.{list_any}
use Rattle.ttx_header.specs.Ids.{same_id}
use Rattle.ttx_page.specs.Views.{ids_of}
use Rattle.ttx_promise.proofs.absent_pages.has_page.Given as goal

abbrev pub invariant-loop-page : goal.invariant-loop-page
invariant-loop-page l = list_any (same_id l.id) (ids_of (drop l.page-index l.pages)) ≡ list_any (same_id l.id) (ids_of l.pages)
